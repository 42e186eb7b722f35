-- A list of what stands at some places: what is among it, and how often.
-- Assumes nothing.
use Rattle.std.specs.Prelude.{Option, None, Some}
use Prim.Native.Nat.{ℕ, zero, suc, ◌+◌, ◌≤◌, ◌<◌}
use native.Mathlib.Omega.{arith}
use mathlib.Core.Path.{◌≡◌, refl, sym, ap, ◌∙◌}
use mathlib.Core.Bool.{Bool, true}
use mathlib.Core.Logic.{◌⊎◌, inl, inr}
use lib.Dec.{eqb}
use borrow.Author.Tests.{eqb-true, eqb-false}
use Rattle.model.proofs.Cases.{cases}
use Rattle.mappings.specs.Mappings.{ones_there}
use Rattle.mappings.specs.Listed.{◌among◌, how_many}

-- something stands there, or nothing
stands_or : {A : Type 0} {P : Type 0} (o : Option A) → ((x : A) → o ≡ Some x → P) → (o ≡ None → P) → P
stands_or None f g = g refl
stands_or (Some x) f g = f x refl

module _ {A : Type 0} (at : ℕ → Option A) where
  -- what stands at one of the places is among them
  pub there : (n i j : ℕ) {x : A} → i ≤ j → j < i + n → at j ≡ Some x → x among ones_there at n i
  there zero i j h k t = absurd (omega arith)
  there (suc n) i j {x} h k t =
      cases (eqb i j)
      (λ e. let q = eqb-true i j e in rw (ap at q ∙ t) (inl refl))
      (λ e. let q = eqb-false i j e in
      let later = there n (suc i) j (omega arith) (omega arith) t in
      stands_or (at i) (λ y s. rw s (inr later)) (λ s. rw s later))

  -- and nothing else is
  pub record Place (n i : ℕ) (x : A) : Type 0 where
    pub place : ℕ
    pub below : place < i + n
    pub is : at place ≡ Some x

  pub from : (n i : ℕ) (x : A) → x among ones_there at n i → Place n i x
  from zero i x m = absurd m
  from (suc n) i x m =
      stands_or (at i)
      (λ y s. here y s (λ l. from n (suc i) x l) (rw s at m))
      (λ s. on (from n (suc i) x (rw s at m)))
    where
      on : Place n (suc i) x → Place (suc n) i x
      on p = record { place = p.place; below = omega (arith, p.below); is = p.is }

      here : (y : A) → at i ≡ Some y → (x among ones_there at n (suc i) → Place n (suc i) x) → (x ≡ y) ⊎ (x among ones_there at n (suc i)) → Place (suc n) i x
      here y s f (inl e) = record { place = i; below = omega arith; is = s ∙ ap Some (sym e) }
      here y s f (inr l) = on (f l)

  -- where only one place can hold what q asks for, it is among them at most once
  module _ (q : A → Bool) (k : ℕ) (only : (j : ℕ) (x : A) → at j ≡ Some x → q x ≡ true → j ≡ k) where
    past : (n i : ℕ) → k < i → how_many q (ones_there at n i) ≡ 0
    past zero i h = refl
    past (suc n) i h =
        stands_or (at i)
        (λ y s. rw s (cases (q y) (λ t. absurd (omega (arith, only i y s t))) (λ t. rw t (past n (suc i) (omega arith)))))
        (λ s. rw s (past n (suc i) (omega arith)))

    pub at_most_once : (n i : ℕ) → how_many q (ones_there at n i) ≤ 1
    at_most_once zero i = omega arith
    at_most_once (suc n) i =
        stands_or (at i)
        (λ y s. rw s (cases (q y)
        (λ t. rw t (omega (arith, past n (suc i) (omega (arith, only i y s t)))))
        (λ t. rw t (at_most_once n (suc i)))))
        (λ s. rw s (at_most_once n (suc i)))
