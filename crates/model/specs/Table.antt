-- Document 01, "Sizes" and "Refusal numbers": finding, storing and dropping in a table of records. A table is the list of its records, of any
-- type A and of any length. A record is found by a test; a record that is not used is free.
-- Assumes nothing.
use Rattle.std.specs.Prelude.{ℕ, suc, Bool, not, List, [], ◌∷◌, length, set, ltb, if◌then◌else◌, None, Option, Some}

module _ {A : Type 0} where
  -- the number of the first record that passes p, or the table's size if none does
  abbrev pub first_at : (A → Bool) → List A → ℕ
  first_at p [] = 0
  first_at p (r ∷ rs) = if p r then 0 else suc (first_at p rs)

  -- the place n of a table, if it has one of that number
  abbrev pub among : List A → ℕ → Option ℕ
  among rs n = if ltb n (length rs) then Some n else None

  -- the lowest-numbered record that passes p: the one that counts
  abbrev pub look : (A → Bool) → List A → Option A
  look p [] = None
  look p (r ∷ rs) = if p r then Some r else look p rs

  -- where the record of a key goes: a replaced entry needs no room and keeps the place of the record that counts; a new one takes the
  -- lowest-numbered free record; the table's size where there is none
  unfoldable pub place : (A → Bool) → (A → Bool) → List A → ℕ
  place p used rs = if ltb (first_at p rs) (length rs) then first_at p rs else first_at (λ a. not (used a)) rs

  -- there is such a place: the table is not full, or the key needs no new record
  unfoldable pub room : (A → Bool) → (A → Bool) → List A → Bool
  room p used rs = ltb (place p used rs) (length rs)

  -- the table with the record a stored under the key that p tests for
  unfoldable pub store : (A → Bool) → (A → Bool) → A → List A → List A
  store p used a rs = set rs (place p used rs) a

  -- a drop frees every record that passes p
  abbrev pub drop_all : (A → Bool) → A → List A → List A
  drop_all p empty [] = []
  drop_all p empty (r ∷ rs) = (if p r then empty else r) ∷ drop_all p empty rs
