-- The three tables of a unit that is lent as numbers: how long they are, what stands in them, and what a store at a record's place leaves.
-- Assumes nothing.
use Prim.Native.Nat.{ℕ, ◌+◌, ◌<◌}
use native.Mathlib.Omega.{arith}
use mathlib.Core.Path.{◌≡◌, ap, ap₂, ◌∙◌}
use mathlib.Core.List.{List}
use lib.ListN.{length, get_or, set, length-set}
use lib.Seq.{get_or-set_same, get_or-set_other}
use Rattle.model.specs.declared.ItsDevice.{ItsDevice}
use Rattle.model.specs.declared.ItsCollection.{ItsCollection}
use Rattle.model.specs.declared.Translation.{Translation}
use Rattle.model.specs.With.{with_devices, with_collections, with_translations}
use Rattle.model.proofs.CommandLaws.{Sized}
use Rattle.lent_tables.specs.Numbers.{NUMBERS, DEVICES, COLLECTIONS, KEYS, GOALS, device_records, collection_records, pair_records, device_in, collection_in, translation_in, word, devices_in, collections_in, translations_in, unit_in}
use Rattle.lent_tables.proofs.Rows.{rows_length, rows_at, rows_set}
use Rattle.lent_tables.proofs.Outside.{outside_set, outside_twice, devices_changed, collections_changed, translations_changed}

-- the rows of the tables
abbrev pub device_row : List ℕ → ℕ → ItsDevice
device_row s i = device_in (word s (DEVICES + i))

abbrev pub collection_row : List ℕ → ℕ → ItsCollection
collection_row s i = collection_in (word s (COLLECTIONS + i))

abbrev pub translation_row : List ℕ → ℕ → Translation
translation_row s i = translation_in (word s (KEYS + i)) (word s (GOALS + i))

-- How long the tables are.
pub devices_length : (s : List ℕ) → length (devices_in s) ≡ device_records
unfolding devices_in
devices_length s = rows_length device_records (device_row s)

pub collections_length : (s : List ℕ) → length (collections_in s) ≡ collection_records
unfolding collections_in
collections_length s = rows_length collection_records (collection_row s)

pub translations_length : (s : List ℕ) → length (translations_in s) ≡ pair_records
unfolding translations_in
translations_length s = rows_length pair_records (translation_row s)

pub sized : (s : List ℕ) → Sized (unit_in s)
sized s = record { devices = devices_length s; collections = collections_length s; translations = translations_length s }

-- What stands in them.
pub devices_at : (s : List ℕ) (i : ℕ) (d : ItsDevice) → i < device_records → get_or (devices_in s) i d ≡ device_row s i
unfolding devices_in
devices_at s i d h = rows_at device_records (device_row s) i d h

pub collections_at : (s : List ℕ) (i : ℕ) (d : ItsCollection) → i < collection_records → get_or (collections_in s) i d ≡ collection_row s i
unfolding collections_in
collections_at s i d h = rows_at collection_records (collection_row s) i d h

pub translations_at : (s : List ℕ) (i : ℕ) (d : Translation) → i < pair_records → get_or (translations_in s) i d ≡ translation_row s i
unfolding translations_in
translations_at s i d h = rows_at pair_records (translation_row s) i d h

-- A store in each table.
module _ (s : List ℕ) (long : length s ≡ NUMBERS) where
  device_stored : (i w : ℕ) → i < device_records → devices_in (set s (DEVICES + i) w) ≡ set (devices_in s) i (device_in w)
  unfolding devices_in
  device_stored i w h =
      rows_set device_records i _ _ _ h (ap device_in (get_or-set_same s (DEVICES + i) w 0 (omega arith)))
      (λ j l n. ap device_in (get_or-set_other s (DEVICES + i) (DEVICES + j) w 0 (λ e. n (omega arith))))

  pub store_device_lem : (i w : ℕ) → i < device_records → {r : ItsDevice} → device_in w ≡ r →
      unit_in (set s (DEVICES + i) w) ≡ with_devices (unit_in s) (set (devices_in s) i r)
  store_device_lem i w h e =
      devices_changed (outside_set s (DEVICES + i) w (omega arith) (omega arith)) (device_stored i w h ∙ ap (set (devices_in s) i) e)

  collection_stored : (i w : ℕ) → i < collection_records → collections_in (set s (COLLECTIONS + i) w) ≡ set (collections_in s) i (collection_in w)
  unfolding collections_in
  collection_stored i w h =
      rows_set collection_records i _ _ _ h (ap collection_in (get_or-set_same s (COLLECTIONS + i) w 0 (omega arith)))
      (λ j l n. ap collection_in (get_or-set_other s (COLLECTIONS + i) (COLLECTIONS + j) w 0 (λ e. n (omega arith))))

  pub store_collection_lem : (i w : ℕ) → i < collection_records → {r : ItsCollection} → collection_in w ≡ r →
      unit_in (set s (COLLECTIONS + i) w) ≡ with_collections (unit_in s) (set (collections_in s) i r)
  store_collection_lem i w h e =
      collections_changed (outside_set s (COLLECTIONS + i) w (omega arith) (omega arith)) (collection_stored i w h ∙ ap (set (collections_in s) i) e)

  -- a pair's two words
  translation_stored : (i k g : ℕ) → i < pair_records → translations_in (set (set s (KEYS + i) k) (GOALS + i) g) ≡ set (translations_in s) i (translation_in k g)
  unfolding translations_in
  translation_stored i k g h =
      rows_set pair_records i _ _ _ h
      (ap₂ translation_in
      (get_or-set_other (set s (KEYS + i) k) (GOALS + i) (KEYS + i) g 0 (λ e. absurd (omega arith)) ∙ get_or-set_same s (KEYS + i) k 0 (omega arith))
      (get_or-set_same (set s (KEYS + i) k) (GOALS + i) g 0 (omega (arith, length-set s (KEYS + i) k))))
      (λ j l n. ap₂ translation_in
      (get_or-set_other (set s (KEYS + i) k) (GOALS + i) (KEYS + j) g 0 (λ e. absurd (omega arith)) ∙ get_or-set_other s (KEYS + i) (KEYS + j) k 0 (λ e. n (omega arith)))
      (get_or-set_other (set s (KEYS + i) k) (GOALS + i) (GOALS + j) g 0 (λ e. n (omega arith)) ∙ get_or-set_other s (KEYS + i) (GOALS + j) k 0 (λ e. absurd (omega arith))))

  pub store_translation_lem : (i k g : ℕ) → i < pair_records → {r : Translation} → translation_in k g ≡ r →
      unit_in (set (set s (KEYS + i) k) (GOALS + i) g) ≡ with_translations (unit_in s) (set (translations_in s) i r)
  store_translation_lem i k g h e =
      translations_changed
      (outside_twice (outside_set s (KEYS + i) k (omega arith) (omega arith)) (outside_set (set s (KEYS + i) k) (GOALS + i) g (omega arith) (omega arith)))
      (translation_stored i k g h ∙ ap (set (translations_in s) i) e)

-- for what reads or stores where a search came to
pub ruleset lengths = (devices_length, collections_length, translations_length)
