-- Lines laid one after the other are what the model says of them: those that fit stand in the output, and the rest of it is as it was.
-- Assumes nothing.
use Prim.Native.Nat.{ℕ, ◌+◌, ◌-◌, ◌≤◌, ◌<◌}
use native.Mathlib.Nat.{add-zero, add_assoc}
use native.Mathlib.Omega.{arith}
use mathlib.Core.Path.{◌≡◌, refl, sym}
use mathlib.Core.Bool.{true, false, not}
use mathlib.Core.List.{List, [], ◌∷◌, ◌++◌}
use lib.Dec.{leb}
use lib.ListN.{length, length-append}
use borrow.Author.Tests.{leb-true, leb-false}
use Rattle.model.specs.Trace.{space, fitting, all_fit}
use Rattle.model.proofs.Cases.{cases}
use Rattle.text.specs.declared.Laid.{Laid}
use Rattle.text.specs.Laying.{laid_at, full_at, Output, output, lay_line, lay_all}
use Rattle.text.proofs.Places.{none, more, long}
use Rattle.text.proofs.Laying.{nothing, over, whole}

-- some lines, and then others
pub append : (o : Output) (a b : List (List ℕ)) → lay_all o (a ++ b) ≡ lay_all (lay_all o a) b
append o [] b = refl
append o (l ∷ a) b = append (lay_line o l) a b

-- nothing is written after a line that did not fit
pub full : (o : Output) (ls : List (List ℕ)) → o.laid.full ≡ true → lay_all o ls ≡ o
full o [] h = refl
full o (l ∷ ls) h = rw (sym (nothing o.bytes o.laid l h)) (full o ls h)

abbrev pub at : ℕ → Laid
at i = record { at = i; full = false }

-- what n bytes of an output become from the place i on
abbrev pub ending : List ℕ → ℕ → ℕ → List (List ℕ) → Output
ending out i n ls = output (laid_at out i (fitting n ls)) (record { at = i + length (fitting n ls); full = not (all_fit n ls) })

space_within : (out : List ℕ) → space out ≤ length out
space_within out = omega arith

pub fits : (ls : List (List ℕ)) (out : List ℕ) (i : ℕ) → i ≤ space out → lay_all (output out (at i)) ls ≡ ending out i (space out - i) ls
fits [] out i h = rw (none out i, add-zero)
fits (l ∷ ls) out i h =
    cases (leb (length l) (space out - i))
    (λ t.
    let room : i + length l ≤ space out = omega (arith, leb-true (length l) (space out - i) t) in
    let inside : i ≤ length out = omega (arith, space_within out) in
    let same : length (laid_at out i l) ≡ length out = long out i l inside (omega (arith, space_within out)) in
    let left : space out - (i + length l) ≡ space out - i - length l = omega arith in
    rw (
      t,
      sym (whole out (at i) l (laid_at out i l) (i + length l) refl room refl refl),
      fits ls (laid_at out i l) (i + length l) (rw same room),
      same,
      left,
      more out i l inside (fitting (space out - i - length l) ls),
      length-append,
      add_assoc,
    ))
    (λ t.
    let past : space out < i + length l = omega (arith, leb-false (length l) (space out - i) t) in
    rw (
      t,
      sym (over out (at i) l refl past),
      full (output out (full_at i)) ls refl,
      none out i,
      add-zero,
    ))

-- what fits is no longer than the room
pub fitting_within : (n : ℕ) (ls : List (List ℕ)) → length (fitting n ls) ≤ n
fitting_within n [] = omega arith
fitting_within n (l ∷ ls) =
    cases (leb (length l) n)
    (λ t. rw (t, length-append) (omega (arith, leb-true (length l) n t, fitting_within (n - length l) ls)))
    (λ t. rw t (omega arith))
