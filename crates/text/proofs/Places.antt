-- A text in a list, from a place on: none, one byte, and one text after another.
-- Assumes nothing.
use Prim.Native.Nat.{ℕ, ◌+◌, ◌≤◌, ◌<◌}
use native.Mathlib.Nat.{add-zero, add_assoc}
use native.Mathlib.Numerals.{add-one}
use native.Mathlib.Omega.{arith}
use mathlib.Core.Path.{◌≡◌, ◌∙◌}
use mathlib.Core.List.{List, [], ◌∷◌, ◌++◌, append_assoc}
use lib.ListN.{length, take, drop, set, length-append, length-drop, take-append-drop}
use lib.Seq.{length-take-le, set_split, take_at, drop_at, drop-drop}
use Rattle.text.specs.Laying.{laid_at}

-- no text
pub none : (l : List ℕ) (i : ℕ) → laid_at l i [] ≡ l
unfolding laid_at
none l i = rw add-zero (take-append-drop i l)

-- one byte
pub one : (l : List ℕ) (i a : ℕ) → i < length l → set l i a ≡ laid_at l i (a ∷ [])
unfolding laid_at
one l i a h = rw (add-one, set_split l i a h)

-- what stands before the text, with the text
head : List ℕ → ℕ → List ℕ → List ℕ
head l i t = take i l ++ t

module _ (l : List ℕ) (i : ℕ) (t : List ℕ) (h : i ≤ length l) where
  head_length : length (head l i t) ≡ i + length t
  unfolding head
  head_length = rw (length-append, length-take-le i l h)

  laid_as : laid_at l i t ≡ head l i t ++ drop (i + length t) l
  unfolding laid_at head
  laid_as = rw append_assoc

  -- the list keeps its length
  pub long : i + length t ≤ length l → length (laid_at l i t) ≡ length l
  long k = rw (laid_as, length-append, head_length, length-drop) (omega arith)

  -- another text right after it
  pub more : (u : List ℕ) → laid_at (laid_at l i t) (i + length t) u ≡ laid_at l i (t ++ u)
  unfolding laid_at head
  more u =
      rw (
        ← append_assoc (take i l) t (drop (i + length t) l),
        take_at (head l i t) (drop (i + length t) l) (i + length t) head_length,
        ← drop-drop (length u) (i + length t) (head l i t ++ drop (i + length t) l),
        drop_at (head l i t) (drop (i + length t) l) (i + length t) head_length,
        drop-drop (length u) (i + length t) l,
        length-append t u,
        ← add_assoc i (length t) (length u),
        append_assoc (take i l) t,
        append_assoc t u,
      )

  -- one byte right after it
  pub after : (a : ℕ) → i + length t < length l → set (laid_at l i t) (i + length t) a ≡ laid_at l i (t ++ (a ∷ []))
  after a k = one (laid_at l i t) (i + length t) a (rw (long (omega arith)) k) ∙ more (a ∷ [])
