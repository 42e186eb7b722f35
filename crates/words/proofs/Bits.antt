-- The bits that a number needs are the digits below its leading zeros.
-- Assumes nothing.
use Prim.Native.Nat.{ℕ, zero, suc, ◌+◌, ◌-◌, ◌*◌, ◌^◌, ◌≤◌, ◌<◌}
use native.Mathlib.Omega.{arith}
use native.Mathlib.Nat.{pow-suc}
use mathlib.Core.Path.{◌≡◌, refl}
use lib.Dec.{leb}
use lib.Pow.{pow_mono}
use lib.Count.{count_leading_zeros, leading_length}
use borrow.Author.Tests.{le-leb, lt-leb, leb-true, leb-false}
use Rattle.model.proofs.Cases.{cases}
use Rattle.model.specs.Register.{bits_needed}

-- where a number has k digits or more, each of the first k powers of two is counted
every : (k n : ℕ) → 2 ^ k ≤ 2 * n + 1 → bits_needed k n ≡ k
every zero n h = refl
every (suc k) n h =
    let p = pow-suc 2 k in
    let small : 2 ^ k ≤ 2 * n + 1 = omega arith in
    rw (le-leb (2 ^ k) n (omega arith), every k n small) (omega arith)

-- a number of m digits: the first m powers are counted, and none above them
counted : (k m n : ℕ) → m ≤ k → n < 2 ^ m → 2 ^ m ≤ 2 * n + 1 → bits_needed k n ≡ m
counted zero m n h low high = omega arith
counted (suc k) m n h low high =
    cases (leb m k)
    (λ e.
    let le = leb-true m k e in
    let p = pow_mono le in
    rw (lt-leb (2 ^ k) n (omega arith), counted k m n le low high) (omega arith))
    (λ e.
    let same : m ≡ suc k = omega (arith, leb-false m k e) in
    rw same (every (suc k) n (rw same at high)))

pub bits_needed_lem : (n : ℕ) → n < 2 ^ 32 → 32 - count_leading_zeros 32 n ≡ bits_needed 32 n
bits_needed_lem n h =
    let s = leading_length 32 n h in
    rw (counted 32 s.0 n (omega (arith, s.1)) s.2 s.3) (omega (arith, s.1))
