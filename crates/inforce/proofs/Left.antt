-- The lines of what is left of a table from one place on.
-- Assumes nothing.
use Rattle.std.specs.Prelude.{Option}
use Prim.Native.Nat.{ℕ, suc, ◌+◌, ◌-◌, ◌≤◌, ◌<◌}
use native.Mathlib.Omega.{arith}
use native.Mathlib.Numerals.{add-one}
use mathlib.Core.Path.{◌≡◌, ap, sym, ◌∙◌}
use mathlib.Core.List.{List, [], ◌∷◌, ◌++◌, map}
use Rattle.model.proofs.Cases.{there_or}
use lib.ListN.{length}
use Rattle.model.specs.declared.ItsState.{ItsState}
use Rattle.model.specs.Choose.{if_found}
use Rattle.mappings.specs.Mappings.{ones_there, mapping_at, mapped_at, mappings_of, devices_of}
use Rattle.inforce.specs.Shown.{mapping_line, device_line}
use Rattle.text.specs.Laying.{Output, lay_all}
use Rattle.text.proofs.Fits.{append}

module _ {A : Type 0} (at : ℕ → Option A) (show : A → List ℕ) (size : ℕ) where
  -- the lines of those that are left from the place i on
  abbrev pub left : ℕ → List (List ℕ)
  left i = map show (ones_there at (size - i) i)

  -- the line of one place
  abbrev pub line_at : ℕ → List (List ℕ)
  line_at i = if_found (at i) (λ x. show x ∷ []) []

  more : (i : ℕ) → i < size → left i ≡ line_at i ++ left (i + 1)
  more i h =
      let fewer : size - i ≡ suc (size - suc i) = omega arith in
      rw (fewer, add-one i) (there_or (at i) (λ x t. rw t) (λ t. rw t))

  -- laying the line of one place, and then what is left, is laying what was left before
  pub laid_on : (i : ℕ) → i < size → (o o' : Output) → o' ≡ lay_all o (line_at i) → lay_all o' (left (i + 1)) ≡ lay_all o (left i)
  laid_on i h o o' e = rw e (sym (append o (line_at i) (left (i + 1))) ∙ ap (lay_all o) (sym (more i h)))

  pub none_left : (i : ℕ) → size ≤ i → left i ≡ []
  none_left i h = let out : size - i ≡ 0 = omega arith in rw out

-- from the first place on, all is left
pub all_mappings : (u : ItsState) → length u.translations ≡ 256 → left (mapping_at u) mapping_line 256 0 ≡ map mapping_line (mappings_of u)
unfolding mappings_of
all_mappings u e = rw e

pub all_devices : (u : ItsState) → length u.devices ≡ 32 → left (mapped_at u) device_line 32 0 ≡ map device_line (devices_of u)
unfolding devices_of
all_devices u e = rw e
