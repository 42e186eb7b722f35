-- The laws of two loops over a table, each loop looking at one record a turn: a search for a record that passes a test, and a drop. Proved once, for a
-- table of any size, any record and any test, so that the proof of a function with such a loop only cites them.
-- Assumes nothing.
use Rattle.std.specs.Prelude.{if◌then◌else◌}
use Prim.Native.Nat.{ℕ, zero, suc, ◌+◌, ◌≤◌, ◌<◌}
use native.Mathlib.Omega.{arith}
use native.Mathlib.Numerals.{add-one}
use mathlib.Core.Path.{◌≡◌, refl, sym, ap, ◌∙◌}
use mathlib.Core.Bool.{Bool, true, false, not}
use mathlib.Core.List.{List, [], ◌∷◌, map}
use lib.ListN.{length, get_or, set, length-map, get_or-eq_default}
use Rattle.model.specs.Table.{first_at, place, drop_all}
use Rattle.model.proofs.Cases.{cases}
use Rattle.model.proofs.TableLaws.{first_at_le, place_same, place_free}

-- How long a table is: what a function is told of an array of structs that is a field of its parameter is the length of the elements as
-- they lie in memory. `search (needs, length_mapped)` finds that, and with this law proves `length t.translations ≡ 256`.
pub length_mapped : (X Y : Type 0) (f : X → Y) (l : List X) (n : ℕ) → length (map f l) ≡ n → length l ≡ n
length_mapped X Y f l n p = sym (length-map l f) ∙ p

module _ {A : Type 0} where
  -- Reading: beyond a table of this size stands the free record.
  pub beyond : (rs : List A) (free : A) {size i : ℕ} {v : A} → length rs ≡ size → size ≤ i → v ≡ free → v ≡ get_or rs i free
  beyond rs free l h e = e ∙ sym (get_or-eq_default rs free (omega arith))

  -- Searching.

  -- that none of the first i records passes is `i ≤ first_at p rs`: a record that fails takes the loop on, and one that passes is the first
  module _ (p : A → Bool) (d : A) where
    pub first_at_on : (rs : List A) (i : ℕ) → i < length rs → i ≤ first_at p rs → p (get_or rs i d) ≡ false → i + 1 ≤ first_at p rs
    first_at_on [] i h l t = absurd (omega arith)
    first_at_on (r ∷ rs) zero h l t = rw t (omega arith)
    first_at_on (r ∷ rs) (suc i) h l t =
        cases (p r) (λ e. absurd (omega (arith, rw e at l))) (λ e. rw e (omega (arith, first_at_on rs i (omega arith) (omega (arith, rw e at l)) t)))

    pub first_at_found : (rs : List A) (i : ℕ) → i < length rs → i ≤ first_at p rs → p (get_or rs i d) ≡ true → i ≡ first_at p rs
    first_at_found [] i h l t = absurd (omega arith)
    first_at_found (r ∷ rs) zero h l t = rw t
    first_at_found (r ∷ rs) (suc i) h l t =
        cases (p r) (λ e. absurd (omega (arith, rw e at l))) (λ e. rw e (ap suc (first_at_found rs i (omega arith) (omega (arith, rw e at l)) t)))

  -- what a search knows before record i: none of the records before it passes
  pub record Searched (size : ℕ) (p : A → Bool) (rs : List A) (i : ℕ) : Type 0 where
    pub long : length rs ≡ size
    pub passed : i ≤ first_at p rs

  pub search_starts : {size : ℕ} {p : A → Bool} {rs : List A} → length rs ≡ size → Searched size p rs 0
  search_starts h = record { long = h; passed = omega arith }

  -- a is the record i, and v what its test said
  module _ {size : ℕ} {p : A → Bool} {rs : List A} {i : ℕ} (so_far : Searched size p rs i) where
    -- one that fails takes the search on
    pub search_on : (d : A) → i < size → {a : A} → get_or rs i d ≡ a → {v : Bool} → v ≡ p a → v ≡ false → Searched size p rs (i + 1)
    search_on d h e t f = record { long = so_far.long; passed = first_at_on p d rs i (omega (arith, so_far.long)) so_far.passed (ap p e ∙ sym t ∙ f) }

    -- one that passes is the first
    pub search_finds : (d : A) → i < size → {a : A} → get_or rs i d ≡ a → {v : Bool} → v ≡ p a → v ≡ true → i ≡ first_at p rs
    search_finds d h e t f = first_at_found p d rs i (omega (arith, so_far.long)) so_far.passed (ap p e ∙ sym t ∙ f)

    -- past the last record there is none
    pub search_ends : size ≤ i → size ≡ first_at p rs
    search_ends h = omega (arith, so_far.long, so_far.passed, first_at_le p rs)

  -- The place of a key: where it was found, or the first free record.
  module _ (p used : A → Bool) (rs : List A) {size : ℕ} (long : length rs ≡ size) {held : ℕ} (first : held ≡ first_at p rs) where
    pub place_held : held < size → held ≡ place p used rs
    place_held h = first ∙ sym (place_same p used rs (omega arith))

    pub place_new : size ≤ held → {free : ℕ} → free ≡ first_at (λ a. not (used a)) rs → free ≡ place p used rs
    place_new h e = e ∙ sym (place_free p used rs (omega arith))

  -- Dropping.

  -- the table in which the first i records are done
  abbrev pub drop_first : ℕ → (A → Bool) → A → List A → List A
  drop_first zero p empty rs = rs
  drop_first (suc i) p empty [] = []
  drop_first (suc i) p empty (r ∷ rs) = (if p r then empty else r) ∷ drop_first i p empty rs

  module _ (p : A → Bool) (empty : A) where
    drop_first_hit : (d : A) (i : ℕ) (rs : List A) → p (get_or rs i d) ≡ true → set (drop_first i p empty rs) i empty ≡ drop_first (suc i) p empty rs
    drop_first_hit d zero [] h = refl
    drop_first_hit d (suc i) [] h = refl
    drop_first_hit d zero (r ∷ rs) h = rw h
    drop_first_hit d (suc i) (r ∷ rs) h = ap (λ l. (if p r then empty else r) ∷ l) (drop_first_hit d i rs h)

    drop_first_miss : (d : A) (i : ℕ) (rs : List A) → p (get_or rs i d) ≡ false → drop_first i p empty rs ≡ drop_first (suc i) p empty rs
    drop_first_miss d zero [] h = refl
    drop_first_miss d (suc i) [] h = refl
    drop_first_miss d zero (r ∷ rs) h = rw h
    drop_first_miss d (suc i) (r ∷ rs) h = ap (λ l. (if p r then empty else r) ∷ l) (drop_first_miss d i rs h)

    drop_first_all : (i : ℕ) (rs : List A) → length rs ≡ i → drop_first i p empty rs ≡ drop_all p empty rs
    drop_first_all zero [] h = refl
    drop_first_all zero (r ∷ rs) h = absurd (omega arith)
    drop_first_all (suc i) [] h = refl
    drop_first_all (suc i) (r ∷ rs) h = ap (λ l. (if p r then empty else r) ∷ l) (drop_first_all i rs (omega arith))

  -- what a drop knows before record i: left is the table with the records before it done
  pub record Dropped (size : ℕ) (p : A → Bool) (empty : A) (rs : List A) (i : ℕ) (left : List A) : Type 0 where
    pub long : length rs ≡ size
    pub inside : i ≤ size
    pub done : left ≡ drop_first i p empty rs

  pub drop_starts : {size : ℕ} {p : A → Bool} {empty : A} {rs : List A} → length rs ≡ size → Dropped size p empty rs 0 rs
  drop_starts h = record { long = h; inside = omega arith; done = refl }

  module _ {size : ℕ} {p : A → Bool} {empty : A} {rs : List A} {i : ℕ} {left : List A} (so_far : Dropped size p empty rs i left) where
    -- a turn at a record that passes, and at one that does not; v is what the test of the record said, and a is what was stored
    pub drop_hit : (d : A) → i < size → {v : Bool} → v ≡ p (get_or rs i d) → v ≡ true → {a : A} → a ≡ empty → {now : List A} → now ≡ set left i a →
        Dropped size p empty rs (i + 1) now
    drop_hit d h e t k n =
        record {
          long = so_far.long;
          inside = omega arith;
          done = n ∙ rw (k, add-one, so_far.done) (drop_first_hit p empty d i rs (sym e ∙ t));
        }

    pub drop_miss : (d : A) → i < size → {v : Bool} → v ≡ p (get_or rs i d) → v ≡ false → {now : List A} → now ≡ left →
        Dropped size p empty rs (i + 1) now
    drop_miss d h e t n =
        record {
          long = so_far.long;
          inside = omega arith;
          done = n ∙ rw (add-one, so_far.done) (drop_first_miss p empty d i rs (sym e ∙ t));
        }

    pub drop_ends : size ≤ i → left ≡ drop_all p empty rs
    drop_ends h = so_far.done ∙ drop_first_all p empty i rs (omega arith)

-- what `search` is handed for a function that searches so, and for one that drops so
pub ruleset searching = (search_starts, search_on, search_finds, search_ends)

pub ruleset dropping = (drop_starts, drop_hit, drop_miss, drop_ends)
