-- A row with the actions of a write in its first records, over any form of a record: as it is by value, and as a number.
-- Assumes nothing.
use Prim.Native.Nat.{ℕ, zero, suc, ◌+◌, ◌≤◌, ◌<◌}
use native.Mathlib.Omega.{arith}
use mathlib.Core.Path.{◌≡◌, refl, sym, ap, ap₂, ◌∙◌}
use mathlib.Core.List.{List, [], ◌∷◌, ◌++◌, map, append-nil}
use lib.ListN.{length, set, drop, length-append, length-drop}
use lib.Seq.{append_snoc, set_at, drop-cons}

module _ {A B : Type 0} (f : A → B) where
  pub map_append : (l m : List A) → map f (l ++ m) ≡ map f l ++ map f m
  map_append [] m = refl
  map_append (a ∷ l) m = ap (λ t. f a ∷ t) (map_append l m)

  pub map_length : (l : List A) → length (map f l) ≡ length l
  map_length [] = refl
  map_length (a ∷ l) = ap suc (map_length l)

  pub map_drop : (n : ℕ) (l : List A) → map f (drop n l) ≡ drop n (map f l)
  map_drop zero l = refl
  map_drop (suc n) [] = refl
  map_drop (suc n) (a ∷ l) = map_drop n l

  -- the row after a write that made these actions: the records behind them stay as they were
  abbrev pub row_of : List A → List B → List B
  row_of made row = map f made ++ drop (length made) row

  pub row_long : (made : List A) (row : List B) → length made ≤ length row → length (row_of made row) ≡ length row
  row_long made row h =
      length-append (map f made) (drop (length made) row)
      ∙ (ap₂ (λ a b. a + b) (map_length made) (length-drop (length made) row) ∙ omega arith)

  -- one more action goes into the first record behind them
  pub row_more : (d : B) (made : List A) (row : List B) (n : ℕ) (a : A) → length made ≡ n → n < length row →
      set (row_of made row) n (f a) ≡ row_of (made ++ (a ∷ [])) row
  row_more d made row n a e h =
      let long : length (map f made) ≡ n = map_length made ∙ e in
      let more : length (made ++ (a ∷ [])) ≡ suc n = length-append made (a ∷ []) ∙ omega arith in
      ap (λ k. set (map f made ++ drop k row) n (f a)) e
      ∙ (ap (λ t. set (map f made ++ t) n (f a)) (drop-cons row n d h)
      ∙ (set_at (map f made) _ (drop (suc n) row) (f a) n long
      ∙ (sym (append_snoc (map f made) (f a) (drop (suc n) row))
      ∙ ap₂ (λ l k. l ++ drop k row) (sym (map_append made (a ∷ []))) (sym more))))

  -- what a turn hands over, at most one action, goes there
  abbrev pub row_past : List A → ℕ → List B → List B
  row_past [] at row = row
  row_past (a ∷ l) at row = set row at (f a)

  pub row_on : (d : B) (made : List A) (row : List B) (at : ℕ) (l : List A) → length l ≤ 1 → length made ≡ at → at < length row →
      row_past l at (row_of made row) ≡ row_of (made ++ l) row
  row_on d made row at [] h e g = ap (λ m. row_of m row) (sym (append-nil made))
  row_on d made row at (a ∷ []) h e g = row_more d made row at a e g
  row_on d made row at (a ∷ b ∷ l) h e g = absurd (omega arith)

-- by value a record is the action itself
pub row_same : {A : Type 0} (made : List A) → map (λ a. a) made ≡ made
row_same [] = refl
row_same (a ∷ l) = ap (λ t. a ∷ t) (row_same l)
