-- The tables as parts of the numbers: the words that stand there, and what is left where a part holds other words.
-- Assumes nothing.
use Rattle.std.specs.Prelude.{if◌then◌else◌, None, Option, Some, not, drop, map}
use Rattle.std.specs.List.{zip, position}
use Rattle.std.proofs.lemmas.Slice.Zip.{get_or-zip, length-zip}
use Prim.Native.Nat.{ℕ, zero, suc, ◌+◌, ◌≤◌, ◌<◌}
use native.Mathlib.Omega.{arith}
use mathlib.Core.Path.{◌≡◌, refl, sym, ap, ap₂, ◌∙◌}
use mathlib.Core.Bool.{Bool, true, false}
use mathlib.Core.List.{List, [], ◌∷◌}
use lib.ListN.{length, get_or, set, length-map}
use lib.Dec.{ltb}
use Rattle.std.proofs.Math.ListN.{get_or-map}
use Rattle.std.proofs.lemmas.List.{get_or-take, get_or-drop, set-get_or, length-drop, length-take-le}
use Rattle.std.proofs.lemmas.Slice.{take-put_mid_below, drop-put_mid, between-put_mid}
use borrow.Rule.Slice.PartMut.{mid_of, put_mid, same_len_mid}
use borrow.Author.Tests.{ltb-true, ltb-false}
use Rattle.model.specs.declared.ItsDevice.{ItsDevice}
use Rattle.model.specs.declared.ItsCollection.{ItsCollection}
use Rattle.model.specs.declared.Translation.{Translation}
use Rattle.model.specs.Keys.{no_device, no_collection}
use Rattle.model.specs.With.{with_devices, with_collections}
use Rattle.model.specs.Table.{first_at, among, look, place, drop_all}
use Rattle.model.proofs.TableLaws.{position_is, look_at, look_none, length_drop_all}
use Rattle.model.proofs.Cases.{cases}
use Rattle.model.proofs.TableLoops.{Dropped, drop_first, drop_starts, drop_hit, drop_miss, drop_ends}
use Rattle.lent_tables.specs.Numbers.{NUMBERS, DEVICES, COLLECTIONS, KEYS, GOALS, device_records, collection_records, pair_records, is_used, device_in, collection_in, translation_in, word, rows, devices_in, collections_in, translations_in, unit_in}
use Rattle.lent_tables.proofs.Rows.{rows_list, rows_first}
use Rattle.lent_tables.proofs.Outside.{Outside, devices_changed, collections_changed}
use Rattle.lent_tables.proofs.Fields.{zero_device, zero_collection}
use Rattle.lent_tables.proofs.RecordsAt.{translation_row, translations_length}

-- The words of a part, and the tables that they are.
pub word_at : (s : List ℕ) (a n i : ℕ) → i < n → get_or (mid_of a n s) i 0 ≡ word s (a + i)
word_at s a n i h = get_or-take n (drop a s) i 0 h ∙ get_or-drop a s i 0

words_length : (s : List ℕ) (a n : ℕ) → a + n ≤ length s → length (mid_of a n s) ≡ n
words_length s a n h = length-take-le n (drop a s) (omega (arith, length-drop a s))

rows_words : {A : Type 0} (f : ℕ → A) (s : List ℕ) (a n : ℕ) → a + n ≤ length s → rows n (λ i. f (word s (a + i))) ≡ map f (mid_of a n s)
rows_words f s a n h =
    rows_list n (λ i. f (word s (a + i))) (map f (mid_of a n s)) (f 0) (length-map (mid_of a n s) f ∙ words_length s a n h)
    (λ i l. sym (get_or-map f (mid_of a n s) i 0 ∙ ap f (word_at s a n i l)))

module _ {A B : Type 0} (p : B → Bool) (f : A → B) where
  first_at_map : (xs : List A) → first_at p (map f xs) ≡ first_at (λ x. p (f x)) xs
  first_at_map [] = refl
  first_at_map (x ∷ xs) = ap (λ n. if p (f x) then 0 else suc n) (first_at_map xs)

  found : (xs : List A) {rs : List B} → rs ≡ map f xs → position (λ x. p (f x)) xs ≡ among rs (first_at p rs)
  found xs e = rw (e, first_at_map xs, length-map xs f) (position_is (λ x. p (f x)) xs)

  dropped : (empty : A) (xs : List A) → map f (drop_all (λ x. p (f x)) empty xs) ≡ drop_all p (f empty) (map f xs)
  dropped empty [] = refl
  dropped empty (x ∷ xs) = cases (p (f x)) (λ e. rw e (ap (λ l. f empty ∷ l) (dropped empty xs))) (λ e. rw e (ap (λ l. f x ∷ l) (dropped empty xs)))

some_same : {A : Type 0} {a b : A} → ◌≡◌ {A = Option A} (Some a) (Some b) → a ≡ b
some_same e = cc

same_place : {A B : Type 0} (xs : List A) (ys : List B) (n m : ℕ) → length xs ≡ length ys → n ≡ m → among xs n ≡ among ys m
same_place xs ys n m e f = rw (e, f)

-- The place of a key: where it is found, or else the first free record.
module _ {A : Type 0} (p used : A → Bool) (rs : List A) where
  pub place_held : {i : ℕ} → among rs (first_at p rs) ≡ Some i → Some i ≡ among rs (place p used rs)
  unfolding place
  place_held e = cases (ltb (first_at p rs) (length rs)) (λ l. sym (rw l (rw l (rw l at e)))) (λ l. absurd (cc (rw l at e)))

  place_new : among rs (first_at p rs) ≡ None → among rs (first_at (λ a. not (used a)) rs) ≡ among rs (place p used rs)
  unfolding place
  place_new e = cases (ltb (first_at p rs) (length rs)) (λ l. absurd (cc (rw l at e))) (λ l. rw l)

module _ (s : List ℕ) (long : length s ≡ NUMBERS) where
  pub device_words : devices_in s ≡ map device_in (mid_of DEVICES device_records s)
  unfolding devices_in
  device_words = rows_words device_in s DEVICES device_records (omega arith)

  pub collection_words : collections_in s ≡ map collection_in (mid_of COLLECTIONS collection_records s)
  unfolding collections_in
  collection_words = rows_words collection_in s COLLECTIONS collection_records (omega arith)

  pub device_found : (p : ItsDevice → Bool) → position (λ w. p (device_in w)) (mid_of DEVICES device_records s) ≡ among (devices_in s) (first_at p (devices_in s))
  device_found p = found p device_in (mid_of DEVICES device_records s) device_words

  pub collection_found : (p : ItsCollection → Bool) → position (λ w. p (collection_in w)) (mid_of COLLECTIONS collection_records s) ≡ among (collections_in s) (first_at p (collections_in s))
  collection_found p = found p collection_in (mid_of COLLECTIONS collection_records s) collection_words

  -- a word is free where its record is
  device_free : position (λ w. not (is_used w)) (mid_of DEVICES device_records s) ≡ among (devices_in s) (first_at (λ a. not a.used) (devices_in s))
  unfolding device_in
  device_free = device_found (λ a. not a.used)

  pub device_placed : (p : ItsDevice → Bool) → among (devices_in s) (first_at p (devices_in s)) ≡ None →
      position (λ w. not (is_used w)) (mid_of DEVICES device_records s) ≡ among (devices_in s) (place p (λ a. a.used) (devices_in s))
  device_placed p e = device_free ∙ place_new p (λ a. a.used) (devices_in s) e

  collection_free : position (λ w. not (is_used w)) (mid_of COLLECTIONS collection_records s) ≡ among (collections_in s) (first_at (λ a. not a.used) (collections_in s))
  unfolding collection_in
  collection_free = collection_found (λ a. not a.used)

  pub collection_placed : (p : ItsCollection → Bool) → among (collections_in s) (first_at p (collections_in s)) ≡ None →
      position (λ w. not (is_used w)) (mid_of COLLECTIONS collection_records s) ≡ among (collections_in s) (place p (λ a. a.used) (collections_in s))
  collection_placed p e = collection_free ∙ place_new p (λ a. a.used) (collections_in s) e

  abbrev pairs : List (ℕ × ℕ)
  pairs = zip (mid_of KEYS pair_records s) (mid_of GOALS pair_records s)

  pub translation_words : translations_in s ≡ map (λ e. translation_in e.0 e.1) pairs
  unfolding translations_in
  translation_words =
      let k = words_length s KEYS pair_records (omega arith) in
      let g = words_length s GOALS pair_records (omega arith) in
      rows_list pair_records (λ i. translation_in (word s (KEYS + i)) (word s (GOALS + i))) (map (λ e. translation_in e.0 e.1) pairs) (translation_in 0 0)
      (length-map pairs (λ e. translation_in e.0 e.1) ∙ (length-zip (mid_of KEYS pair_records s) (mid_of GOALS pair_records s) ∙ rw (k, g)))
      (λ i l. sym (get_or-map (λ e. translation_in e.0 e.1) pairs i (0, 0)
      ∙ (ap (λ e. translation_in e.0 e.1) (get_or-zip (mid_of KEYS pair_records s) (mid_of GOALS pair_records s) i (0, 0) (omega arith) (omega arith))
      ∙ ap₂ translation_in (word_at s KEYS pair_records i l) (word_at s GOALS pair_records i l))))

  pub translation_found : (p : Translation → Bool) → position (λ e. p (translation_in e.0 e.1)) pairs ≡ among (translations_in s) (first_at p (translations_in s))
  translation_found p = found p (λ e. translation_in e.0 e.1) pairs translation_words

  free_goal : first_at (λ w. not (is_used w)) (rows pair_records (λ i. word s (GOALS + i))) ≡ first_at (λ a. not a.used) (translations_in s)
  unfolding translations_in translation_in
  free_goal = rows_first (λ w. not (is_used w)) (λ a. not a.used) pair_records (λ i. word s (GOALS + i)) (translation_row s) (λ i h. refl)

  translation_free : position (λ w. not (is_used w)) (mid_of GOALS pair_records s) ≡ among (translations_in s) (first_at (λ a. not a.used) (translations_in s))
  translation_free =
      let goals = mid_of GOALS pair_records s in
      let n : length goals ≡ pair_records = words_length s GOALS pair_records (omega arith) in
      let e : rows pair_records (λ i. word s (GOALS + i)) ≡ goals = rows_list pair_records (λ i. word s (GOALS + i)) goals 0 n (λ i l. sym (word_at s GOALS pair_records i l)) in
      position_is (λ w. not (is_used w)) goals ∙ same_place goals (translations_in s) _ _ (n ∙ sym (translations_length s)) (ap (first_at (λ w. not (is_used w))) (sym e) ∙ free_goal)

  pub translation_placed : (p : Translation → Bool) → among (translations_in s) (first_at p (translations_in s)) ≡ None →
      position (λ w. not (is_used w)) (mid_of GOALS pair_records s) ≡ among (translations_in s) (place p (λ a. a.used) (translations_in s))
  translation_placed p e = translation_free ∙ place_new p (λ a. a.used) (translations_in s) e

-- A place that a table has lies inside it.
pub inside : {A : Type 0} (rs : List A) (n : ℕ) {i : ℕ} → Some i ≡ among rs n → i < length rs
inside rs n e = cases (ltb n (length rs)) (λ l. let f = rw l at e in omega (arith, some_same f, ltb-true n (length rs) l)) (λ l. absurd (cc (rw l at e)))

-- The record that counts, by its place.
module _ {A : Type 0} (p : A → Bool) (rs : List A) where
  pub look_there : {i : ℕ} (d : A) → Some i ≡ among rs (first_at p rs) → look p rs ≡ Some (get_or rs i d)
  look_there d e =
      cases (ltb (first_at p rs) (length rs))
      (λ l. look_at p rs d (ltb-true (first_at p rs) (length rs) l) ∙ ap (λ n. Some (get_or rs n d)) (sym (some_same (rw l at e))))
      (λ l. absurd (cc (rw l at e)))

  pub look_nowhere : None ≡ among rs (first_at p rs) → look p rs ≡ None
  look_nowhere e =
      cases (ltb (first_at p rs) (length rs)) (λ l. absurd (cc (rw l at e))) (λ l. look_none p rs (ltb-false (first_at p rs) (length rs) l))

-- What is left where a part holds other words.
pub outside_part : (a k : ℕ) (s ys : List ℕ) → a + k ≤ length s → length ys ≡ k → Outside a (a + k) s (put_mid a k s ys)
outside_part a k s ys h e =
    record {
      before =
          λ j l. sym (get_or-take a (put_mid a k s ys) j 0 l) ∙
          (ap (λ x. get_or x j 0) (take-put_mid_below a k s ys a (omega arith) (omega arith)) ∙ get_or-take a s j 0 l);
      behind =
          λ j l. let z : j ≡ j + 0 = omega arith in
          ap (word (put_mid a k s ys)) z ∙
          (sym (get_or-drop j (put_mid a k s ys) 0 0) ∙ (ap (λ x. get_or x 0 0) (drop-put_mid a k s ys j l (omega arith) e) ∙ (get_or-drop j s 0 0 ∙ ap (word s) (sym z))));
    }

module _ (s : List ℕ) (long : length s ≡ NUMBERS) {ys : List ℕ} where
  pub devices_dropped : (p : ItsDevice → Bool) → ys ≡ drop_all (λ w. p (device_in w)) 0 (mid_of DEVICES device_records s) →
      unit_in (put_mid DEVICES device_records s ys) ≡ with_devices (unit_in s) (drop_all p no_device (devices_in s))
  devices_dropped p e =
      let ws = mid_of DEVICES device_records s in
      let n : length ws ≡ device_records = words_length s DEVICES device_records (omega arith) in
      let k : length ys ≡ device_records = ap length e ∙ (length_drop_all (λ w. p (device_in w)) 0 ws ∙ n) in
      devices_changed (outside_part DEVICES device_records s ys (omega arith) k)
      (device_words (put_mid DEVICES device_records s ys) (same_len_mid DEVICES device_records s ys (k ∙ sym n) ∙ long)
      ∙ (ap (map device_in) (between-put_mid DEVICES device_records s ys COLLECTIONS (omega arith) k ∙ e)
      ∙ (dropped p device_in 0 ws
      ∙ (ap (λ a. drop_all p a (map device_in ws)) zero_device ∙ ap (drop_all p no_device) (sym (device_words s long))))))

  pub collections_dropped : (p : ItsCollection → Bool) → ys ≡ drop_all (λ w. p (collection_in w)) 0 (mid_of COLLECTIONS collection_records s) →
      unit_in (put_mid COLLECTIONS collection_records s ys) ≡ with_collections (unit_in s) (drop_all p no_collection (collections_in s))
  collections_dropped p e =
      let ws = mid_of COLLECTIONS collection_records s in
      let n : length ws ≡ collection_records = words_length s COLLECTIONS collection_records (omega arith) in
      let k : length ys ≡ collection_records = ap length e ∙ (length_drop_all (λ w. p (collection_in w)) 0 ws ∙ n) in
      collections_changed (outside_part COLLECTIONS collection_records s ys (omega arith) k)
      (collection_words (put_mid COLLECTIONS collection_records s ys) (same_len_mid COLLECTIONS collection_records s ys (k ∙ sym n) ∙ long)
      ∙ (ap (map collection_in) (between-put_mid COLLECTIONS collection_records s ys KEYS (omega arith) k ∙ e)
      ∙ (dropped p collection_in 0 ws
      ∙ (ap (λ a. drop_all p a (map collection_in ws)) zero_collection ∙ ap (drop_all p no_collection) (sym (collection_words s long))))))

-- A drop that goes over the words that it changes: the word that is looked at stands as it did, and one that does not pass is stored as it is.
module _ {A : Type 0} where
  pub stands : (p : A → Bool) (empty d : A) (i : ℕ) (rs : List A) → get_or (drop_first i p empty rs) i d ≡ get_or rs i d
  stands p empty d zero rs = refl
  stands p empty d (suc i) [] = refl
  stands p empty d (suc i) (r ∷ rs) = stands p empty d i rs

  module _ {size : ℕ} {p : A → Bool} {empty : A} {rs : List A} {i : ℕ} {left : List A} (so_far : Dropped size p empty rs i left) where
    as_it_did : (d : A) → p (get_or left i d) ≡ p (get_or rs i d)
    as_it_did d = ap (λ l. p (get_or l i d)) so_far.done ∙ ap p (stands p empty d i rs)

    pub item_hit : (d : A) → i < size → {v : Bool} → v ≡ p (get_or left i d) → v ≡ true → {a : A} → a ≡ empty → {now : List A} → now ≡ set left i a →
        Dropped size p empty rs (i + 1) now
    item_hit d h e t k n = drop_hit so_far d h (e ∙ as_it_did d) t k n

    pub item_miss : (d : A) → i < size → {v : Bool} → v ≡ p (get_or left i d) → v ≡ false → {now : List A} → now ≡ set left i (get_or left i d) →
        Dropped size p empty rs (i + 1) now
    item_miss d h e t n = drop_miss so_far d h (e ∙ as_it_did d) t (n ∙ set-get_or left i d)

-- what a drop is proved from
pub ruleset dropping = (drop_starts, item_hit, item_miss, drop_ends)
