-- The laws of finding, storing and dropping, each proved once, for a table of any size, any record and any test of a key.
-- Assumes nothing.
use Rattle.std.specs.Prelude.{if◌then◌else◌, None, Option, Some}
use Prim.Native.Nat.{ℕ, zero, suc, ◌≤◌, ◌<◌}
use native.Mathlib.Omega.{arith}
use mathlib.Core.Path.{◌≡◌, refl, sym, ap, ◌∙◌, fun_ext}
use mathlib.Core.Bool.{Bool, true, false, not}
use mathlib.Core.List.{List, [], ◌∷◌}
use lib.ListN.{length, get_or, set, length-set}
use lib.Dec.{ltb, leb-suc-suc}
use borrow.Author.Tests.{ltb-true, ltb-false, lt-ltb, le-ltb, not-true}
use Rattle.model.specs.Choose.{is_found}
use Rattle.std.specs.List.{position}
use Rattle.std.proofs.lemmas.List.Recursion.{is_position_or_len}
use Rattle.model.specs.Table.{first_at, among, look, place, room, store, drop_all}
use Rattle.model.proofs.Cases.{cases, never}

module _ {A : Type 0} where
  -- Finding.

  pub first_at_le : (p : A → Bool) (rs : List A) → first_at p rs ≤ length rs
  first_at_le p [] = omega arith
  first_at_le p (r ∷ rs) = cases (p r) (λ e. rw e (omega arith)) (λ e. rw e (omega (arith, first_at_le p rs)))

  -- what an iterator's `position` gives is the place of the first that passes
  pub position_is : (p : A → Bool) (rs : List A) → position p rs ≡ among rs (first_at p rs)
  position_is p rs = ap (among rs) (sym (is_position_or_len (first_at p) p refl (λ r l. ap (λ n. if p r then 0 else n) (omega arith)) rs))

  -- the record that is found passes, and those before it do not: it is the lowest. It is what a look finds
  pub first_at_passes : (p : A → Bool) (rs : List A) (d : A) → first_at p rs < length rs → p (get_or rs (first_at p rs) d) ≡ true
  first_at_passes p [] d h = absurd (omega arith)
  first_at_passes p (r ∷ rs) d h = cases (p r) (λ e. rw e e) (λ e. rw e (first_at_passes p rs d (omega (arith, rw e at h))))

  pub first_at_lowest : (p : A → Bool) (rs : List A) (d : A) (k : ℕ) → k < first_at p rs → p (get_or rs k d) ≡ false
  first_at_lowest p [] d k h = absurd (omega arith)
  first_at_lowest p (r ∷ rs) d zero h = cases (p r) (λ e. absurd (omega (arith, rw e at h))) (λ e. e)
  first_at_lowest p (r ∷ rs) d (suc k) h = cases (p r) (λ e. absurd (omega (arith, rw e at h))) (λ e. first_at_lowest p rs d k (omega (arith, rw e at h)))

  pub look_at : (p : A → Bool) (rs : List A) (d : A) → first_at p rs < length rs → look p rs ≡ Some (get_or rs (first_at p rs) d)
  look_at p [] d h = absurd (omega arith)
  look_at p (r ∷ rs) d h = cases (p r) (λ e. rw e) (λ e. rw e (look_at p rs d (omega (arith, rw e at h))))

  -- where none is found, none passes
  pub look_none : (p : A → Bool) (rs : List A) → length rs ≤ first_at p rs → look p rs ≡ None
  look_none p [] h = refl
  look_none p (r ∷ rs) h = cases (p r) (λ e. absurd (omega (arith, rw e at h))) (λ e. rw e (look_none p rs (omega (arith, rw e at h))))

  -- whether a look finds something
  pub found_is : (p : A → Bool) (rs : List A) → is_found (look p rs) ≡ ltb (first_at p rs) (length rs)
  found_is p [] = refl
  found_is p (r ∷ rs) = cases (p r) (λ e. rw e (sym (lt-ltb 0 (suc (length rs)) (omega arith)))) (λ e. rw e (found_is p rs ∙ sym (leb-suc-suc (suc (first_at p rs)) (length rs))))

  -- what a look finds passes
  pub look_passes : (p : A → Bool) (rs : List A) {a : A} → look p rs ≡ Some a → p a ≡ true
  look_passes p [] h = never true refl (cc)
  look_passes p (r ∷ rs) {a} h =
      cases (p r) (λ e. let h' : ◌≡◌ {A = Option A} (Some r) (Some a) = rw e at h in let k : r ≡ a = cc in rw (← k) e)
      (λ e. look_passes p rs (rw e at h))

  -- a look that finds has a place to find at
  pub look_found : (p : A → Bool) (rs : List A) {a : A} → look p rs ≡ Some a → first_at p rs < length rs
  look_found p rs {a} s =
      cases (ltb (first_at p rs) (length rs)) (λ e. ltb-true _ _ e)
      (λ e. let n = look_none p rs (ltb-false (first_at p rs) (length rs) e) in never true refl (cc))

  -- One record is replaced.

  -- beyond the table nothing is
  pub set_beyond : (rs : List A) (i : ℕ) (a : A) → length rs ≤ i → set rs i a ≡ rs
  set_beyond [] i a h = refl
  set_beyond (r ∷ rs) zero a h = absurd (omega arith)
  set_beyond (r ∷ rs) (suc i) a h = ap (λ l. r ∷ l) (set_beyond rs i a (omega arith))

  -- a record that passes, at no later place than the first that did, is what is found
  pub look_set_here : (p : A → Bool) (rs : List A) (j : ℕ) (a : A) → j < length rs → j ≤ first_at p rs → p a ≡ true → look p (set rs j a) ≡ Some a
  look_set_here p [] j a h l t = absurd (omega arith)
  look_set_here p (r ∷ rs) zero a h l t = rw t
  look_set_here p (r ∷ rs) (suc j) a h l t =
      cases (p r) (λ e. absurd (omega (arith, rw e at l))) (λ e. rw e (look_set_here p rs j a (omega arith) (omega (arith, rw e at l)) t))

  -- where neither the old record nor the new one passes, the same is found
  pub look_set_other : (p : A → Bool) (rs : List A) (j : ℕ) (a d : A) → p (get_or rs j d) ≡ false → p a ≡ false → look p (set rs j a) ≡ look p rs
  look_set_other p [] j a d h k = refl
  look_set_other p (r ∷ rs) zero a d h k = rw (h, k)
  look_set_other p (r ∷ rs) (suc j) a d h k = ap (λ o. if p r then Some r else o) (look_set_other p rs j a d h k)

  -- Storing.

  -- p and q are tests of keys: a record has one key, so where some record passes both they are the same test
  abbrev pub Keys : (A → Bool) → (A → Bool) → Type 0
  Keys p q = (a b : A) → p a ≡ true → q a ≡ true → p b ≡ q b

  pub length_store : (p used : A → Bool) (a : A) (rs : List A) → length (store p used a rs) ≡ length rs
  unfolding store
  length_store p used a rs = length-set rs (place p used rs) a

  pub room_place : (p used : A → Bool) (rs : List A) → room p used rs ≡ true → place p used rs < length rs
  unfolding room
  room_place p used rs h = ltb-true _ _ h

  -- the place in its two cases
  pub place_same : (p used : A → Bool) (rs : List A) → first_at p rs < length rs → place p used rs ≡ first_at p rs
  unfolding place
  place_same p used rs h = rw (lt-ltb _ _ h)

  pub place_free : (p used : A → Bool) (rs : List A) → length rs ≤ first_at p rs → place p used rs ≡ first_at (λ a. not (used a)) rs
  unfolding place
  place_free p used rs h = rw (le-ltb _ _ h)

  -- a key that is there needs no free record, and a table with a free record has room for any key
  pub room_same : (p used : A → Bool) (rs : List A) → first_at p rs < length rs → room p used rs ≡ true
  unfolding room place
  room_same p used rs h = rw (lt-ltb _ _ h) (lt-ltb _ _ h)

  pub room_free : (p used : A → Bool) (rs : List A) → first_at (λ a. not (used a)) rs < length rs → room p used rs ≡ true
  unfolding room place
  room_free p used rs h =
      cases (ltb (first_at p rs) (length rs)) (λ e. rw e e) (λ e. rw e (lt-ltb _ _ h))

  -- the place is no later than the first record of the key; the record that stood there had the key or was free
  pub place_first : (p used : A → Bool) (rs : List A) → place p used rs < length rs → place p used rs ≤ first_at p rs
  unfolding place
  place_first p used rs h =
      cases (ltb (first_at p rs) (length rs)) (λ e. rw e (omega arith)) (λ e. omega (arith, ltb-false (first_at p rs) (length rs) e))

  pub place_old : (p q used : A → Bool) (rs : List A) (d : A) → ((a : A) → p a ≡ true → q a ≡ false) → ((a : A) → q a ≡ true → used a ≡ true) →
      place p used rs < length rs → q (get_or rs (place p used rs) d) ≡ false
  unfolding place
  place_old p q used rs d apart is-used h =
      cases (ltb (first_at p rs) (length rs))
      (λ e. rw e (apart _ (first_at_passes p rs d (ltb-true _ _ e))))
      (λ e. rw e (free_fails _ (first_at_passes (λ a. not (used a)) rs d (rw e at h))))
    where
      free_fails : (a : A) → not (used a) ≡ true → q a ≡ false
      free_fails a f = cases (q a) (λ k. never (used a) (is-used a k) (not-true (used a) f)) (λ k. k)

  module _ (p q used : A → Bool) (a : A) (rs : List A) (keys : Keys p q) (is-used : (b : A) → q b ≡ true → used b ≡ true) (new : p a ≡ true) (fits : room p used rs ≡ true) where
    same_test : q a ≡ true → p ≡ q
    same_test e = fun_ext (λ b. keys a b new e)

    other_test : q a ≡ false → (b : A) → p b ≡ true → q b ≡ false
    other_test e b k = cases (q b) (λ l. never (q a) (sym (keys b a k l) ∙ new) e) (λ l. l)

    -- what is found after a store: under the key the new record, under any other what was found before
    pub look_store : look q (store p used a rs) ≡ (if q a then Some a else look q rs)
    unfolding store
    look_store =
        let at = room_place p used rs fits in
        cases (q a)
        (λ e. rw e (look_set_here q rs _ a at (omega (arith, place_first p used rs at, ap (λ t. first_at t rs) (same_test e))) e))
        (λ e. rw e (look_set_other q rs _ a a (place_old p q used rs a (other_test e) is-used at) e))

  -- Dropping.

  pub length_drop_all : (p : A → Bool) (empty : A) (rs : List A) → length (drop_all p empty rs) ≡ length rs
  length_drop_all p empty [] = refl
  length_drop_all p empty (r ∷ rs) = ap suc (length_drop_all p empty rs)

  -- freed records are used again: where a drop frees a record, there is room for any key
  pub room_after_drop : (p q used : A → Bool) (empty : A) (rs : List A) → used empty ≡ false → first_at p rs < length rs → room q used (drop_all p empty rs) ≡ true
  room_after_drop p q used empty rs free h =
      room_free q used (drop_all p empty rs) (omega (arith, freed rs, length_drop_all p empty rs))
    where
      freed : (l : List A) → first_at (λ a. not (used a)) (drop_all p empty l) ≤ first_at p l
      freed [] = omega arith
      freed (r ∷ l) =
          cases (p r) (λ e. rw (e, free) (omega arith))
          (λ e. rw e (cases (used r) (λ k. rw k (omega (arith, freed l))) (λ k. rw k (omega arith))))

  -- where the key says whether its records are dropped, as a device number says of a pair, and the pair's counting record of its collection
  module _ (p q : A → Bool) (empty : A) (none_there : q empty ≡ false) where
    pub look_drop : (rs : List A) (b : Bool) → ((a : A) → q a ≡ true → p a ≡ b) → look q (drop_all p empty rs) ≡ (if b then None else look q rs)
    look_drop [] b h = cases b (λ e. rw e) (λ e. rw e)
    look_drop (r ∷ rs) b h =
        cases (q r)
        (λ k. cases b (λ e. rw (h r k, e, none_there) (rw e at (look_drop rs b h))) (λ e. rw (h r k, e, k)))
        (λ k. cases (p r) (λ e. rw (e, none_there, k) (look_drop rs b h)) (λ e. rw (e, k) (look_drop rs b h)))
