-- The numbers of a line, one more, and none left.
-- Assumes nothing.
use Prim.Native.Nat.{ℕ, suc, ◌+◌, ◌≤◌, ◌<◌}
use native.Mathlib.Numerals.{add-one}
use native.Mathlib.Omega.{arith}
use mathlib.Core.Path.{◌≡◌}
use mathlib.Core.List.{List, [], ◌∷◌, ◌++◌}
use lib.ListN.{length, drop, get_or, set, length-append, drop_of_length-le}
use lib.Seq.{drop-cons}
use Rattle.model.specs.Trace.{digit_count, digits, decimal, spaced}
use Rattle.text.specs.Laying.{laid_at}
use Rattle.text.proofs.Places.{one, more}

-- what is left of the numbers from the place i on, each after one space
abbrev pub left : ℕ → List ℕ → List ℕ
left i l = spaced (drop i l)

pub left_more : (i : ℕ) (l : List ℕ) → i < length l → left i l ≡ (32 ∷ decimal (get_or l i 0)) ++ left (i + 1) l
left_more i l h = rw (add-one i, drop-cons l i 0 h)

pub left_length : (i : ℕ) (l : List ℕ) → i < length l → length (left i l) ≡ suc (length (decimal (get_or l i 0))) + length (left (i + 1) l)
left_length i l h = rw (left_more i l h, length-append)

-- none is left past the list
pub left_out : (i : ℕ) (l : List ℕ) → length l ≤ i → left i l ≡ []
left_out i l h = rw (drop_of_length-le l {i = i} h)

-- a space stored, and then the digits
pub number_laid : (l : List ℕ) (at k n : ℕ) → k ≡ digit_count 20 n → at < length l → laid_at (set l at 32) (at + 1) (digits k n) ≡ laid_at l at (32 ∷ decimal n)
unfolding decimal
number_laid l at k n e h = rw (one l at 32 h, ← e) (more l at (32 ∷ []) (omega arith) (digits k n))

-- one number laid, and those that are left
pub one_laid : (l : List ℕ) (at i : ℕ) (ns : List ℕ) → at ≤ length l → i < length ns →
    laid_at (laid_at l at (32 ∷ decimal (get_or ns i 0))) (at + suc (length (decimal (get_or ns i 0)))) (left (i + 1) ns) ≡ laid_at l at (left i ns)
one_laid l at i ns h k = rw (left_more i ns k) (more l at (32 ∷ decimal (get_or ns i 0)) h (left (i + 1) ns))
