-- Document 02, A1 and A3: a number names one refusal, and folded it is 01's.
-- Assumes nothing.
use Rattle.std.specs.Prelude.{if◌then◌else◌, None, Option, Some}
use Prim.Native.Nat.{ℕ, ◌≤◌}
use borrow.Author.Tests.{leb-true}
use mathlib.Core.Path.{◌≡◌, refl}
use mathlib.Core.Bool.{◌&&◌}
use mathlib.Core.List.{[], ◌∷◌, map}
use mathlib.Core.Logic.{◌⊎◌, inl, inr}
use lib.Dec.{leb, eqb}
use Rattle.model.specs.declared.Refusal.{Refusal}
use Rattle.model.specs.declared.Refusal.TheVariants.{Unsound, RowTooShort, InvalidAccess, Identification, BaseZero, WriterRefused, BudgetExceeded, NotInWindow}
use Rattle.model.specs.declared.Refusal.TheVariants.{OpcodeUnknown, LpiOutOfRange, DeviceUnmapped, EventBeyondBits, CollectionUnmapped, PairUnmapped, ProcessorUnlisted, DeviceTooLarge, ResourceNotFound, TableFull, LineDoesNotFit}
use Rattle.model.specs.Choose.{is_found}
use Rattle.model.specs.Refusal.{number_of, reasons, number_in01, folded}
use Rattle.model.proofs.Cases.{cases, never, and_left, and_right}

-- A1's seven reasons in its order and A3's have the numbers 20 to 27, and 7 is CWRITER's
pub numbered : (map number_of reasons ≡ 20 ∷ 21 ∷ 22 ∷ 23 ∷ 24 ∷ 25 ∷ 26 ∷ 27 ∷ []) × (number_of WriterRefused ≡ 7)
numbered = (refl, refl)

-- folded, each refusal has 01's number
pub folds : (why : Refusal) → folded (number_of why) ≡ number_in01 why
unfolding folded
folds Unsound = refl
folds RowTooShort = refl
folds InvalidAccess = refl
folds Identification = refl
folds BaseZero = refl
folds WriterRefused = refl
folds BudgetExceeded = refl
folds NotInWindow = refl
folds OpcodeUnknown = refl
folds LpiOutOfRange = refl
folds DeviceUnmapped = refl
folds EventBeyondBits = refl
folds CollectionUnmapped = refl
folds PairUnmapped = refl
folds ProcessorUnlisted = refl
folds DeviceTooLarge = refl
folds ResourceNotFound = refl
folds TableFull = refl
folds LineDoesNotFit = refl

-- folding changes 20 to 27, to 7, and no other number
pub folded_only : (n : ℕ) → (folded n ≡ n) ⊎ ((20 ≤ n) × ((n ≤ 27) × (folded n ≡ 7)))
unfolding folded
folded_only n =
    cases (leb 20 n && leb n 27)
    (λ h. inr (leb-true _ _ (and_left _ _ h), (leb-true _ _ (and_right (leb 20 n) _ h), rw h refl)))
    (λ h. inl (rw h refl))

-- the refusal that a number names
named : ℕ → Option Refusal
named n =
    if eqb n 1 then Some Unsound else
    if eqb n 2 then Some InvalidAccess else
    if eqb n 3 then Some Identification else
    if eqb n 4 then Some BaseZero else
    if eqb n 5 then Some BudgetExceeded else
    if eqb n 6 then Some NotInWindow else
    if eqb n 7 then Some WriterRefused else
    if eqb n 8 then Some ResourceNotFound else
    if eqb n 9 then Some TableFull else
    if eqb n 10 then Some RowTooShort else
    if eqb n 11 then Some LineDoesNotFit else
    if eqb n 20 then Some OpcodeUnknown else
    if eqb n 21 then Some LpiOutOfRange else
    if eqb n 22 then Some DeviceUnmapped else
    if eqb n 23 then Some EventBeyondBits else
    if eqb n 24 then Some CollectionUnmapped else
    if eqb n 25 then Some PairUnmapped else
    if eqb n 26 then Some ProcessorUnlisted else
    if eqb n 27 then Some DeviceTooLarge else
    None

names : (why : Refusal) → named (number_of why) ≡ Some why
unfolding named
names Unsound = refl
names RowTooShort = refl
names InvalidAccess = refl
names Identification = refl
names BaseZero = refl
names WriterRefused = refl
names BudgetExceeded = refl
names NotInWindow = refl
names OpcodeUnknown = refl
names LpiOutOfRange = refl
names DeviceUnmapped = refl
names EventBeyondBits = refl
names CollectionUnmapped = refl
names PairUnmapped = refl
names ProcessorUnlisted = refl
names DeviceTooLarge = refl
names ResourceNotFound = refl
names TableFull = refl
names LineDoesNotFit = refl

-- two refusals with one number are one
pub one_reason : (a b : Refusal) → number_of a ≡ number_of b → a ≡ b
one_reason a b h =
    let same : Some a ≡ Some b = rw (← names a, h, names b) refl in
    cc

-- and 0 is no refusal's number
pub not_zero : (why : Refusal) → number_of why ≡ 0 → ⊥
unfolding named
not_zero why h = never (is_found (named (number_of why))) (rw (names why) refl) (rw h refl)
