-- A whole line: its length, and the line stored piece by piece.
-- Assumes nothing.
use Prim.Native.Nat.{ℕ, suc, ◌+◌, ◌≤◌}
use native.Mathlib.Omega.{arith}
use mathlib.Core.Path.{◌≡◌}
use mathlib.Core.List.{List, [], ◌∷◌}
use lib.ListN.{length, get_or, set, length-append}
use Rattle.model.specs.Trace.{spaced}
use Rattle.text.specs.declared.Line.{Line}
use Rattle.text.specs.Laying.{line_of, laid_at}
use Rattle.text.proofs.Places.{one, more, after}

-- the numbers of a line, as they are written
abbrev pub written : {N : ℕ} → Line N → List ℕ
written l = spaced l.numbers

-- two bytes, the numbers, a newline
pub line_length : {N : ℕ} (l : Line N) → length (line_of l) ≡ 3 + length (written l)
unfolding line_of
line_length l = rw (length-append (written l) (10 ∷ [])) (omega arith)

pub line_laid : {N : ℕ} (out : List ℕ) (at r : ℕ) (l : Line N) → at + length (line_of l) ≤ length out → r ≡ at + 2 + length (written l) →
    set (laid_at (set (set out at (get_or l.mark 0 0)) (at + 1) (get_or l.mark 1 0)) (at + 2) (written l)) r 10 ≡ laid_at out at (line_of l)
unfolding line_of
line_laid out at r l h e =
    let n = length (written l) in
    let room : at + (3 + n) ≤ length out = rw line_length at h in
    let place : r ≡ at + suc (suc n) = omega arith in
    let a = get_or l.mark 0 0 in
    let b = get_or l.mark 1 0 in
    rw (
      place,
      one out at a (omega arith),
      after out at (a ∷ []) (omega arith) b (omega arith),
      more out at (a ∷ b ∷ []) (omega arith) (written l),
    )
    (after out at (a ∷ b ∷ written l) (omega arith) 10 (omega arith))
