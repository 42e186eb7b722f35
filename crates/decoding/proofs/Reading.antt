-- The words of a command in the window, over plain numbers and lists.
-- Assumes nothing.
use Prim.Native.Nat.{ℕ, zero, suc, ◌+◌, ◌*◌, ◌<◌, ◌≤◌}
use native.Mathlib.Omega.{arith}
use native.Mathlib.Numerals.{unary_clauses}
use mathlib.Core.Path.{◌≡◌, refl}
use mathlib.Core.List.{List}
use lib.ListN.{drop, get_or, get_or-eq_default}
use Rattle.model.specs.Queue.{little_endian, words_at}

-- The words of a command, one after the other; there is no fifth.
module _ (l : List ℕ) (i : ℕ) where
  pub no_word : (n : ℕ) → 4 ≤ n → get_or (words_at l i) n 0 ≡ 0
  no_word n h = get_or-eq_default (words_at l i) 0 h

  pub a_word : (n : ℕ) → n < 4 → get_or (words_at l i) n 0 ≡ little_endian 8 (drop (i + n * 8) l)
  a_word zero h = simp unary_clauses
  a_word (suc zero) h = refl
  a_word (suc (suc zero)) h = refl
  a_word (suc (suc (suc zero))) h = refl
  a_word (suc (suc (suc (suc n)))) h = absurd (omega arith)
