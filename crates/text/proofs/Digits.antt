-- Decimal digits: how many there are, and the digits stored one by one, the last first.
-- Assumes nothing.
use Prim.Native.Nat.{ℕ, zero, ◌*◌, ◌^◌, suc, ◌+◌, ◌/◌, ◌%◌, ◌≤◌, ◌<◌}
use native.Mathlib.Nat.{one-le-pow, add-suc, le_of_lt}
use native.Mathlib.Omega.{arith}
use mathlib.Core.Path.{◌≡◌, refl, sym, ◌∙◌}
use mathlib.Core.List.{List, [], ◌∷◌}
use lib.ListN.{length, drop, set, length-set, length-append}
use lib.Seq.{take-set-le, drop-set-lt, drop-cons, get_or-set_same, append_snoc}
use borrow.Author.Tests.{le-leb, lt-leb}
use Rattle.model.specs.Trace.{digit_count, digits, decimal}
use Rattle.text.specs.Laying.{laid_at}
use Rattle.text.proofs.Places.{none}

-- a number between two powers of ten has a digit more than the lower one's exponent
pub count_power : (f k n : ℕ) → k ≤ f → 10 ^ k ≤ n → n < 10 * 10 ^ k → digit_count f n ≡ k + 1
count_power zero zero n h low high = refl
count_power zero (suc k) n h low high = absurd (omega arith)
count_power (suc f) zero n h low high = simp (lt-leb 10 n high)
count_power (suc f) (suc k) n h low high =
    let low' : 10 * 10 ^ k ≤ n = omega (arith, low) in
    let high' : n < 10 * (10 * 10 ^ k) = omega (arith, high) in
    let one : 0 < 10 ^ k = one-le-pow k 10 (omega arith) in
    let two : 10 ≤ n = omega arith in
    rw (le-leb 10 n two, count_power f k (n / 10) (omega arith) (omega arith) (omega arith)) (omega arith)

pub digits_length : (k n : ℕ) → length (digits k n) ≡ k
digits_length zero n = refl
digits_length (suc k) n = length-append (digits k (n / 10)) ((48 + n % 10) ∷ []) ∙ rw (digits_length k (n / 10)) (omega arith)

pub decimal_length : (n : ℕ) → length (decimal n) ≡ digit_count 20 n
unfolding decimal
decimal_length n = digits_length (digit_count 20 n) n

-- the last k digits of n, stored one by one
abbrev pub lay : ℕ → ℕ → ℕ → List ℕ → List ℕ
lay zero i n l = l
lay (suc k) i n l = lay k i (n / 10) (set l (i + k) (48 + n % 10))

pub lay_none : (k i n : ℕ) (l : List ℕ) → k ≤ 0 → l ≡ lay k i n l
lay_none zero i n l h = refl
lay_none (suc k) i n l h = absurd (omega arith)

-- they stand from i on, and the rest is as it was
pub lay_is : (k i n : ℕ) (l : List ℕ) → i + k ≤ length l → lay k i n l ≡ laid_at l i (digits k n)
unfolding laid_at
lay_is zero i n l h = sym (none l i)
lay_is (suc k) i n l h =
    let inside : i + k < length l = omega arith in
    let inside' : i + k < length (set l (i + k) (48 + n % 10)) = rw length-set inside in
    lay_is k i (n / 10) (set l (i + k) (48 + n % 10)) (le_of_lt inside')
    ∙ rw (
      digits_length k (n / 10),
      digits_length (suc k) n,
      take-set-le i l (i + k) (48 + n % 10) (omega arith),
      drop-cons (set l (i + k) (48 + n % 10)) (i + k) 0 inside',
      get_or-set_same l (i + k) (48 + n % 10) 0 inside,
      drop-set-lt (suc (i + k)) l (i + k) (48 + n % 10) (omega arith),
      append_snoc (digits k (n / 10)) (48 + n % 10) (drop (i + suc k) l),
      add-suc,
    )
