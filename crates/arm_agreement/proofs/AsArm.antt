-- THE UNIT DOES WHAT ARM SAYS, under the conditions of specs/Conditions.antt: one command, any number of them from a fresh unit, INT and CLEAR,
-- and the translation of a message.
-- Assumes nothing.
use Rattle.std.specs.Prelude.{if◌then◌else◌, None, Option, Some}
use mathlib.Core.Path.{◌≡◌, refl, ◌∙◌}
use mathlib.Core.Bool.{false}
use mathlib.Core.List.{List, [], ◌∷◌}
use Rattle.model.specs.declared.ItsConfig.{ItsConfig}
use Rattle.model.specs.declared.ItsState.{ItsState}
use Rattle.model.specs.declared.Command.{Command}
use Rattle.model.specs.Choose.{if_found}
use Rattle.model.specs.Config.{fresh_unit}
use Rattle.model.specs.Step.{effect, accepts, stepped}
use Rattle.model.proofs.Cases.{cases}
use Rattle.model.proofs.Effects.{rest_effect}
use Rattle.arm_agreement.specs.Commands.{ArmCommand}
use Rattle.arm_agreement.specs.Mappings.{nothing, next_mappings}
use Rattle.arm_agreement.specs.Seen.{as_command, takes, unit_after_lem, arm_of, Tables, announced_by}
use Rattle.arm_agreement.specs.Conditions.{WellMapped, Under}
use Rattle.arm_agreement.specs.Ring.{arm_run}
use Rattle.arm_agreement.specs.Runs.{unit_run, AllUnder, one_more}
use Rattle.arm_agreement.proofs.Effects.{effect_on, effect_as_arm}
use Rattle.arm_agreement.proofs.Errors.{errors_as_arm}
use Rattle.arm_agreement.proofs.Keeping.{kept_nothing, kept_next}

-- a command that is taken has its effect, and one that is not changes nothing
taken : (u : ItsState) (x : ArmCommand) → unit_after_lem u x ≡ (if takes u x then effect_on u x else u)
unfolding stepped
taken u x = by (as_command x)
  where
    by : (o : Option Command) → if_found o (λ y. stepped u y) u ≡ (if if_found o (λ y. accepts u y) false then if_found o (λ y. effect u y) u else u)
    by None = refl
    by (Some y) = refl

-- ONE COMMAND
pub step_as_arm : (u : ItsState) (t : Tables) → WellMapped (arm_of u) → (x : ArmCommand) → Under u t x → arm_of (unit_after_lem u x) ≡ next_mappings (announced_by u.config t) (arm_of u) x
step_as_arm u t kept x k =
    rw (taken u x, ← (errors_as_arm u t kept x k))
    (cases (takes u x) (λ h. rw h (effect_as_arm u t x k h)) (λ h. rw h))

-- no command changes the configuration
config_stays : (u : ItsState) (x : ArmCommand) → (unit_after_lem u x).config ≡ u.config
unfolding stepped
config_stays u x = by (as_command x)
  where
    by : (o : Option Command) → (if_found o (λ y. stepped u y) u).config ≡ u.config
    by None = refl
    by (Some y) = cases (accepts u y) (λ h. rw h (rest_effect u y h).0) (λ h. rw h)

-- ANY NUMBER OF COMMANDS
pub run_as_arm : (t : Tables) (xs : List ArmCommand) (u : ItsState) → WellMapped (arm_of u) → AllUnder t u xs →
    (arm_of (unit_run u xs) ≡ arm_run (announced_by u.config t) (arm_of u) xs) × WellMapped (arm_of (unit_run u xs))
run_as_arm t [] u kept c = (refl, kept)
run_as_arm t (x ∷ xs) u kept (one_more _ k c) =
    let s = step_as_arm u t kept x k in
    let (p, q) = run_as_arm t xs (unit_after_lem u x) (rw s (kept_next u t kept x k)) c in
    (p ∙ rw (s, config_stays u x), q)

-- FROM A FRESH UNIT: nothing is mapped in it, and nothing by Arm
pub fresh_as_arm : (k : ItsConfig) (t : Tables) (xs : List ArmCommand) → AllUnder t (fresh_unit k) xs →
    arm_of (unit_run (fresh_unit k) xs) ≡ arm_run (announced_by k t) nothing xs
fresh_as_arm k t xs c = (run_as_arm t xs (fresh_unit k) kept_nothing c).0
