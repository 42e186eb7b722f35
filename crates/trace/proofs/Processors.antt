-- The processor numbers of a CF: one more, all, and the first sixteen of more.
-- Assumes nothing.
use Prim.Native.Nat.{ℕ, zero, suc, ◌+◌, ◌-◌, ◌*◌, ◌≤◌, ◌<◌}
use native.Mathlib.Nat.{add-zero}
use native.Mathlib.Numerals.{add-one}
use native.Mathlib.Omega.{arith}
use mathlib.Core.Path.{◌≡◌, refl, sym, ◌∙◌, ap}
use mathlib.Core.Logic.{◌⊎◌, inl, inr}
use mathlib.Core.List.{List, [], ◌∷◌, ◌++◌, append-nil}
use lib.ListN.{length, take, set, replicate}
use lib.Seq.{take-append-le, take-append-add, append_snoc, set_at}
use Rattle.model.specs.declared.GicVcpuId.{GicVcpuId}
use Rattle.model.specs.Trace.{number, numbers}

abbrev pub none : GicVcpuId
none = record { 0 = 0 }

numbers_length : (i n : ℕ) (l : List ℕ) → length (numbers i n l) ≡ n
numbers_length i zero l = refl
numbers_length i (suc n) l = ap suc (numbers_length (i + 2) n l)

suc_more : (i n : ℕ) (l : List ℕ) → numbers i (suc n) l ≡ numbers i n l ++ (record { 0 = number (i + 2 * n) 2 l } ∷ [])
suc_more i zero l = rw add-zero
suc_more i (suc n) l =
    let here : i + 2 + 2 * n ≡ i + 2 * suc n = omega arith in
    ap (λ ns. record { 0 = number i 2 l } ∷ ns) (rw here at (suc_more (i + 2) n l))

numbers_more : (i n : ℕ) (l : List ℕ) → numbers i (n + 1) l ≡ numbers i n l ++ (record { 0 = number (i + 2 * n) 2 l } ∷ [])
numbers_more i n l = rw (add-one n) (suc_more i n l)

take_numbers : (k i n : ℕ) (l : List ℕ) → k ≤ n → take k (numbers i n l) ≡ numbers i k l
take_numbers zero i n l h = refl
take_numbers (suc k) i zero l h = absurd (omega arith)
take_numbers (suc k) i (suc n) l h = ap (λ ns. record { 0 = number i 2 l } ∷ ns) (take_numbers k (i + 2) n l (omega arith))

take_replicate : (k n : ℕ) (a : GicVcpuId) → k ≤ n → take k (replicate n a) ≡ replicate k a
take_replicate zero n a h = refl
take_replicate (suc k) zero a h = absurd (omega arith)
take_replicate (suc k) (suc n) a h = ap (λ ps. a ∷ ps) (take_replicate k n a (omega arith))

-- sixteen places, of which the first k hold a number
abbrev pub filled : ℕ → List ℕ → List GicVcpuId
filled k l = numbers 16 k l ++ replicate (16 - k) none

pub filled_more : (k : ℕ) (l : List ℕ) → k < 16 → set (filled k l) k (record { 0 = number (16 + 2 * k) 2 l }) ≡ filled (k + 1) l
filled_more k l h =
    let places : 16 - k ≡ suc (15 - k) = omega arith in
    let left : 16 - (k + 1) ≡ 15 - k = omega arith in
    rw (
      places,
      left,
      numbers_more 16 k l,
      set_at (numbers 16 k l) none (replicate (15 - k) none) (record { 0 = number (16 + 2 * k) 2 l }) k (numbers_length 16 k l),
      append_snoc,
    )

-- all of them, if they are no more than sixteen
pub filled_all : (k : ℕ) (l : List ℕ) → k ≤ 16 → filled k l ≡ take 16 (numbers 16 k l ++ replicate 16 none)
filled_all k l h =
    let places : 16 ≡ length (numbers 16 k l) + (16 - k) = rw numbers_length (omega arith) in
    sym
    (ap (λ n. take n (numbers 16 k l ++ replicate 16 none)) places
    ∙ rw (take-append-add (numbers 16 k l) (replicate 16 none) (16 - k), take_replicate (16 - k) 16 none (omega arith)))

-- the first sixteen
pub filled_first : (n : ℕ) (l : List ℕ) → 16 ≤ n → filled 16 l ≡ take 16 (numbers 16 n l ++ replicate 16 none)
filled_first n l h =
    append-nil (numbers 16 16 l)
    ∙ sym (take-append-le 16 (numbers 16 n l) (replicate 16 none) (rw numbers_length h) ∙ take_numbers 16 16 n l h)

-- as many as are taken
pub filled_taken : (n k : ℕ) (l : List ℕ) → k ≤ 16 → k ≤ n → k ≡ n ⊎ (k ≡ 16) → filled k l ≡ take 16 (numbers 16 n l ++ replicate 16 none)
filled_taken n k l h b (inl e) = filled_all k l h ∙ ap (λ m. take 16 (numbers 16 m l ++ replicate 16 none)) e
filled_taken n k l h b (inr e) = ap (λ m. filled m l) e ∙ filled_first n l (rw e at b)
