-- FROM CONFIGURATION ON. Whatever writes a unit has had since it was configured, its mappings are Arm's, and an enabled one answers every message as
-- Arm does: as long as each write met its conditions.
-- Assumes nothing.
use Rattle.std.specs.Prelude.{Ok}
use Prim.Native.Nat.{ℕ}
use mathlib.Core.Path.{◌≡◌, refl, ap, ap₂, ◌∙◌}
use mathlib.Core.Bool.{true}
use Rattle.model.specs.declared.ItsConfig.{ItsConfig}
use Rattle.model.specs.declared.ItsState.{ItsState}
use Rattle.model.specs.Config.{sound_config, sound_ring, sound_unit}
use Rattle.model.specs.Entry.{configure, translate}
use Rattle.model.proofs.Cases.{cases, never}
use Rattle.arm_agreement.specs.Mappings.{Mappings, nothing, translation}
use Rattle.arm_agreement.specs.Seen.{dev, ev, arm_of, tables_given, Tables}
use Rattle.arm_agreement.specs.Conditions.{WellMapped}
use Rattle.arm_agreement.specs.Runs.{Lived, configured, written, answered}
use Rattle.arm_agreement.proofs.EveryWrite.{every_write}
use Rattle.arm_agreement.proofs.Keeping.{kept_nothing}
use Rattle.arm_agreement.proofs.QueueAsArm.{queue_as_arm}
use Rattle.arm_agreement.proofs.Messages.{translation_as_arm}

pub record Lives (k : ItsConfig) (u : ItsState) (m : Mappings) : Type 0 where
  pub config : u.config ≡ k
  pub sound : sound_unit u ≡ true
  pub mappings : arm_of u ≡ m
  pub kept : WellMapped (arm_of u)

-- an accepted configuration gives a fresh unit
fresh : (k : ItsConfig) → (configure k).verdict ≡ Ok tt → Lives k (configure k).unit nothing
unfolding configure sound_ring
fresh k ok =
    cases (sound_config k)
    (λ h. rw h (record { config = refl; sound = rw h; mappings = refl; kept = kept_nothing }))
    (λ h. let n = rw h at ok in never true refl (cc))

pub life_as_arm : (k : ItsConfig) (t : Tables) (u : ItsState) (m : Mappings) → Lived k t u m → Lives k u m
life_as_arm k t _ _ (configured ok) = fresh k ok
life_as_arm k t _ _ (written {u} {m} l w row offset width value c) =
    let b = life_as_arm k t u m l in
    let e = every_write w row u offset width value b.sound in
    let q = queue_as_arm t w row u offset width value b.sound b.kept c in
    record { config = e.config ∙ b.config; sound = e.sound; mappings = q.mappings ∙ rw (b.config, b.mappings); kept = q.kept }

-- EVERY MESSAGE to an enabled unit (R03) that was given its tables (R47)
pub messages_as_arm : (k : ItsConfig) (t : Tables) (u : ItsState) (m : Mappings) → Lived k t u m → u.registers.enabled ≡ true → tables_given u ≡ true → (d e : ℕ) →
    translate u (dev d) (ev e) ≡ answered (translation true true m d e)
messages_as_arm k t u m l R03_enabled R47_tables_given d e =
    let b = life_as_arm k t u m l in
    translation_as_arm u (record { S12_sound = b.sound; R03_enabled = R03_enabled; R47_tables_given = R47_tables_given }) b.kept d e
    ∙ (ap₂ (λ on x. answered (translation on (tables_given u) x d e)) R03_enabled b.mappings
    ∙ ap (λ given. answered (translation true given m d e)) R47_tables_given)
