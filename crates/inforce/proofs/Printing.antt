-- What is printed: the line of too long an input, and the lines as they were laid.
-- Assumes nothing.
use Prim.Native.Nat.{ℕ, ◌-◌, ◌≤◌, ◌<◌}
use native.Mathlib.Nat.{zero-add}
use native.Mathlib.Omega.{arith}
use mathlib.Core.Path.{◌≡◌, refl, sym, ap, ◌∙◌}
use mathlib.Core.Bool.{Bool, true, false}
use mathlib.Core.List.{List, [], ◌∷◌}
use lib.Dec.{eqb}
use lib.ListN.{length, take, drop, set, get_or, length-drop}
use lib.Seq.{take-append_seam, take_all}
use borrow.Author.Tests.{le-leb, lt-leb}
use Rattle.model.specs.Text.{ascii}
use Rattle.model.specs.Trace.{space, fitting}
use Rattle.model.proofs.Cases.{never}
use Rattle.text.specs.declared.Laid.{Laid}
use Rattle.text.specs.Laying.{output, laid_at, lay_all}
use Rattle.text.proofs.Fits.{fits, ending, fitting_within}
use Rattle.inforce.specs.Shown.{shown_lines, shown}
use Rattle.inforce.proofs.Leading.{fresh}

-- no byte is no plus sign
pub empty : (input : List ℕ) → length input ≡ 0 → false ≡ eqb (get_or input 0 0) 43
empty [] h = refl
empty (b ∷ l) h = absurd (omega arith)

pub asked : (input : List ℕ) {r : Bool} → r ≡ eqb (get_or input 0 0) 43 → r ≡ true → 1 ≤ length input
asked [] e t = never true refl (sym (sym e ∙ t))
asked (b ∷ l) e t = omega arith

-- the input from its second byte on
pub on_from_1 : (input : List ℕ) → take (length input - 1) (drop 1 input) ≡ drop 1 input
on_from_1 input = take_all (length input - 1) (drop 1 input) (rw length-drop (omega arith))

pub long : (input : List ℕ) → 32768 < length input → ascii "LONG\n" ≡ shown input
unfolding shown
long input h = rw (lt-leb (length input) 32768 h)

module _ (input out : List ℕ) (room : length out ≡ 65536) (left : List ℕ) (laid : Laid) (e : output left laid ≡ lay_all (output out fresh) (shown_lines input)) where
  text : List ℕ
  text = fitting 65536 (shown_lines input)

  is : output left laid ≡ ending out 0 65536 (shown_lines input)
  is =
      let all : space out ≡ 65536 = rw room in
      let rest : space out - 0 ≡ 65536 = omega arith in
      e ∙ rw (fits (shown_lines input) out 0 (omega arith), rest)

  pub within : laid.at ≤ 65536
  within = rw (ap (λ o. o.laid.at) is) (omega (arith, fitting_within 65536 (shown_lines input)))

  pub lines : length input ≤ 32768 → take laid.at left ≡ shown input
  unfolding shown laid_at text
  lines h =
      rw (ap (λ o. o.laid.at) is, ap (λ o. o.bytes) is, zero-add, le-leb (length input) 32768 h, take-append_seam text (drop (length text) out))
