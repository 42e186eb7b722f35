-- Finding and dropping in a table by the library's words: what an iterator's `find` gives, the place of a key, and a drop that goes over the table
-- that it changes.
-- Assumes nothing.
use Rattle.std.specs.Prelude.{if◌then◌else◌, None, Some, not}
use Rattle.std.specs.List.{find}
use Prim.Native.Nat.{ℕ, zero, suc, ◌+◌, ◌<◌}
use mathlib.Core.Path.{◌≡◌, refl, sym, ap, ◌∙◌}
use mathlib.Core.Bool.{Bool, true, false}
use mathlib.Core.List.{List, [], ◌∷◌}
use lib.ListN.{length, get_or, set}
use lib.Dec.{ltb}
use Rattle.std.proofs.lemmas.List.{set-get_or}
use Rattle.model.specs.Table.{first_at, among, look, place}
use Rattle.model.proofs.Cases.{cases}
use Rattle.model.proofs.TableLoops.{Dropped, drop_first, drop_starts, drop_hit, drop_miss, drop_ends}

module _ {A : Type 0} where
  -- the place of a key: where it is found, or else the first free record
  module _ (p used : A → Bool) (rs : List A) where
    pub place_held : {i : ℕ} → among rs (first_at p rs) ≡ Some i → Some i ≡ among rs (place p used rs)
    unfolding place
    place_held e = cases (ltb (first_at p rs) (length rs)) (λ l. sym (rw l (rw l (rw l at e)))) (λ l. absurd (cc (rw l at e)))

    pub place_new : among rs (first_at p rs) ≡ None → among rs (first_at (λ a. not (used a)) rs) ≡ among rs (place p used rs)
    unfolding place
    place_new e = cases (ltb (first_at p rs) (length rs)) (λ l. absurd (cc (rw l at e))) (λ l. rw l)

  -- what an iterator's `find` gives is what a look finds
  pub find_is : (p : A → Bool) (rs : List A) → find p rs ≡ look p rs
  find_is p [] = refl
  find_is p (r ∷ rs) = ap (λ o. if p r then Some r else o) (find_is p rs)

  -- a drop that goes over the table that it changes: the record that is looked at stands as it did, and one that does not pass is stored as it is
  stands : (p : A → Bool) (empty d : A) (i : ℕ) (rs : List A) → get_or (drop_first i p empty rs) i d ≡ get_or rs i d
  stands p empty d zero rs = refl
  stands p empty d (suc i) [] = refl
  stands p empty d (suc i) (r ∷ rs) = stands p empty d i rs

  module _ {size : ℕ} {p : A → Bool} {empty : A} {rs : List A} {i : ℕ} {left : List A} (so_far : Dropped size p empty rs i left) where
    as_it_did : (d : A) → p (get_or left i d) ≡ p (get_or rs i d)
    as_it_did d = ap (λ l. p (get_or l i d)) so_far.done ∙ ap p (stands p empty d i rs)

    pub item_hit : (d : A) → i < size → {v : Bool} → v ≡ p (get_or left i d) → v ≡ true → {a : A} → a ≡ empty → {now : List A} → now ≡ set left i a →
        Dropped size p empty rs (i + 1) now
    item_hit d h e t k n = drop_hit so_far d h (e ∙ as_it_did d) t k n

    pub item_miss : (d : A) → i < size → {v : Bool} → v ≡ p (get_or left i d) → v ≡ false → {now : List A} → now ≡ set left i (get_or left i d) →
        Dropped size p empty rs (i + 1) now
    item_miss d h e t n = drop_miss so_far d h (e ∙ as_it_did d) t (n ∙ set-get_or left i d)

-- what a drop is proved from
pub ruleset dropping = (drop_starts, item_hit, item_miss, drop_ends)
