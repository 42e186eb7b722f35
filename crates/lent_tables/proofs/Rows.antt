-- The laws of `rows`, the list f 0, f 1 and so on: what stands in it, when two are equal, and the search of one.
-- Assumes nothing.
use Prim.Native.Nat.{ℕ, zero, suc, ◌+◌, ◌≤◌, ◌<◌}
use native.Mathlib.Omega.{arith}
use mathlib.Core.Path.{◌≡◌, refl, ap, ap₂, ◌∙◌}
use mathlib.Core.Bool.{Bool}
use mathlib.Core.List.{List, [], ◌∷◌}
use mathlib.Core.Logic.{◌⊎◌, inl, inr}
use lib.ListN.{length, get_or, set, length-set}
use lib.Seq.{get_or-set_same, get_or-set_other, sets}
use Rattle.model.specs.Table.{first_at}
use Rattle.lent_tables.specs.Numbers.{rows}

module _ {A : Type 0} where
  pub rows_length : (n : ℕ) (f : ℕ → A) → length (rows n f) ≡ n
  rows_length zero f = refl
  rows_length (suc n) f = ap suc (rows_length n (λ i. f (suc i)))

  pub rows_at : (n : ℕ) (f : ℕ → A) (i : ℕ) (d : A) → i < n → get_or (rows n f) i d ≡ f i
  rows_at zero f i d h = absurd (omega arith)
  rows_at (suc n) f zero d h = refl
  rows_at (suc n) f (suc i) d h = rows_at n (λ j. f (suc j)) i d (omega arith)

  -- rows that agree at each place are equal
  pub rows_same : (n : ℕ) (f g : ℕ → A) → ((i : ℕ) → i < n → f i ≡ g i) → rows n f ≡ rows n g
  rows_same zero f g h = refl
  rows_same (suc n) f g h =
      ap₂ (λ a l. a ∷ l) (h zero (omega arith)) (rows_same n (λ i. f (suc i)) (λ i. g (suc i)) (λ i l. h (suc i) (omega arith)))

  -- rows that agree but at one place
  pub rows_set : (n k : ℕ) (f g : ℕ → A) (a : A) → k < n → g k ≡ a → ((i : ℕ) → i < n → (i ≡ k → ⊥) → g i ≡ f i) → rows n g ≡ set (rows n f) k a
  rows_set zero k f g a l e h = absurd (omega arith)
  rows_set (suc n) zero f g a l e h =
      ap₂ (λ b r. b ∷ r) e (rows_same n (λ i. g (suc i)) (λ i. f (suc i)) (λ i m. h (suc i) (omega arith) (λ q. absurd (omega arith))))
  rows_set (suc n) (suc k) f g a l e h =
      ap₂ (λ b r. b ∷ r) (h zero (omega arith) (λ q. absurd (omega arith)))
      (rows_set n k (λ i. f (suc i)) (λ i. g (suc i)) a (omega arith) e (λ i m q. h (suc i) (omega arith) (λ z. q (omega arith))))

  -- a search asks each row by itself, so rows whose tests agree have the same first
  pub rows_first : {B : Type 0} (p : A → Bool) (q : B → Bool) (n : ℕ) (f : ℕ → A) (g : ℕ → B) → ((i : ℕ) → i < n → p (f i) ≡ q (g i)) →
      first_at p (rows n f) ≡ first_at q (rows n g)
  rows_first p q zero f g h = refl
  rows_first p q (suc n) f g h =
      rw (h zero (omega arith), rows_first p q n (λ i. f (suc i)) (λ i. g (suc i)) (λ i l. h (suc i) (omega arith)))

  -- rows that are those of a list are the list
  pub rows_list : (n : ℕ) (f : ℕ → A) (l : List A) (d : A) → length l ≡ n → ((i : ℕ) → i < n → f i ≡ get_or l i d) → rows n f ≡ l
  rows_list zero f [] d e h = refl
  rows_list zero f (a ∷ l) d e h = absurd (omega arith)
  rows_list (suc n) f [] d e h = absurd (omega arith)
  rows_list (suc n) f (a ∷ l) d e h =
      ap₂ (λ b r. b ∷ r) (h zero (omega arith)) (rows_list n (λ i. f (suc i)) l d (omega arith) (λ i m. h (suc i) (omega arith)))

-- Numbers stored one after the other.
pub sets_other : (s : List ℕ) (i : ℕ) (vs : List ℕ) (j : ℕ) → (j < i) ⊎ (i + length vs ≤ j) → get_or (sets s i vs) j 0 ≡ get_or s j 0
sets_other s i [] j h = refl
sets_other s i (v ∷ vs) j (inl h) = sets_other (set s i v) (suc i) vs j (inl (omega arith)) ∙ get_or-set_other s i j v 0 (λ e. absurd (omega arith))
sets_other s i (v ∷ vs) j (inr h) = sets_other (set s i v) (suc i) vs j (inr (omega arith)) ∙ get_or-set_other s i j v 0 (λ e. absurd (omega arith))

pub sets_at : (s : List ℕ) (i : ℕ) (vs : List ℕ) (j : ℕ) → i + length vs ≤ length s → j < length vs → get_or (sets s i vs) (i + j) 0 ≡ get_or vs j 0
sets_at s i [] j h l = absurd (omega arith)
sets_at s i (v ∷ vs) zero h l =
    let e : i + zero ≡ i = omega arith in
    ap (λ k. get_or (sets (set s i v) (suc i) vs) k 0) e ∙ sets_other (set s i v) (suc i) vs i (inl (omega arith)) ∙ get_or-set_same s i v 0 (omega arith)
sets_at s i (v ∷ vs) (suc j) h l =
    let e : i + suc j ≡ suc i + j = omega arith in
    ap (λ k. get_or (sets (set s i v) (suc i) vs) k 0) e ∙ sets_at (set s i v) (suc i) vs j (omega (arith, length-set s i v)) (omega arith)
