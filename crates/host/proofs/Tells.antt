-- The five numbers of an answer, stored one after the other.
-- Assumes nothing.
use Prim.Native.Nat.{ℕ}
use native.Mathlib.Omega.{arith}
use mathlib.Core.Path.{◌≡◌, refl, ◌∙◌, ap}
use mathlib.Core.List.{List, [], ◌∷◌}
use lib.ListN.{length, get_or, set}
use Rattle.host.specs.Calls.{Tells}

data Five : List ℕ → Type 0 where
  these : (a b c d e : ℕ) → Five (a ∷ b ∷ c ∷ d ∷ e ∷ [])

five : (l : List ℕ) → length l ≡ 5 → Five l
five [] h = absurd (omega arith)
five (a ∷ []) h = absurd (omega arith)
five (a ∷ b ∷ []) h = absurd (omega arith)
five (a ∷ b ∷ c ∷ []) h = absurd (omega arith)
five (a ∷ b ∷ c ∷ d ∷ []) h = absurd (omega arith)
five (a ∷ b ∷ c ∷ d ∷ e ∷ []) h = these a b c d e
five (a ∷ b ∷ c ∷ d ∷ e ∷ f ∷ l) h = absurd (omega arith)

tells : {t n : List ℕ} → Five t → Five n →
    Tells n (get_or n 0 0) (set (set (set (set (set t 0 (get_or n 0 0)) 1 (get_or n 1 0)) 2 (get_or n 2 0)) 3 (get_or n 3 0)) 4 (get_or n 4 0))
tells (these a b c d e) (these a' b' c' d' e') = (refl, refl)

pub told : (t n : List ℕ) → length t ≡ 5 → length n ≡ 5 →
    Tells n (get_or n 0 0) (set (set (set (set (set t 0 (get_or n 0 0)) 1 (get_or n 1 0)) 2 (get_or n 2 0)) 3 (get_or n 3 0)) 4 (get_or n 4 0))
told t n h k = tells (five t h) (five n k)

-- the same of equal numbers
pub retold : {n m : List ℕ} {r : ℕ} {t : List ℕ} → n ≡ m → Tells n r t → Tells m r t
retold e h = (h.0 ∙ e, h.1 ∙ ap (λ l. get_or l 0 0) e)
