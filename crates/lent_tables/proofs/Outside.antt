-- What a store leaves: each part of the unit depends on its own places alone, so where no number outside the places of one part has changed the unit
-- is the unit before with that part changed.
-- Assumes nothing.
use Prim.Native.Nat.{ℕ, ◌+◌, ◌≤◌, ◌<◌}
use native.Mathlib.Omega.{arith}
use mathlib.Core.Path.{◌≡◌, ap, ap₂, ◌∙◌}
use mathlib.Core.List.{List}
use mathlib.Core.Logic.{inl, inr}
use lib.ListN.{length, set}
use lib.Seq.{get_or-set_other, sets}
use Rattle.model.specs.declared.ItsDevice.{ItsDevice}
use Rattle.model.specs.declared.ItsCollection.{ItsCollection}
use Rattle.model.specs.declared.Translation.{Translation}
use Rattle.model.specs.declared.ItsConfig.{ItsConfig}
use Rattle.model.specs.declared.ItsRegisters.{ItsRegisters}
use Rattle.model.specs.With.{a_unit, with_config, with_registers, with_devices, with_collections, with_translations}
use Rattle.lent_tables.specs.Numbers.{
  NUMBERS,
  LAYOUT,
  LPI_LIMIT,
  COMMAND_BUDGET,
  FRAME_SIZE,
  PROFILE,
  PROCESSOR_COUNT,
  PROCESSORS,
  REGISTERS,
  STALLED,
  ENABLED,
  CBASER,
  CREADR,
  CWRITER,
  BASERS,
  DEVICES,
  COLLECTIONS,
  KEYS,
  GOALS,
  device_records,
  collection_records,
  pair_records,
  device_in,
  collection_in,
  translation_in,
  word,
  config_in,
  registers_in,
  devices_in,
  collections_in,
  translations_in,
  unit_in,
}
use Rattle.lent_tables.proofs.Rows.{rows_same, sets_other}

-- the same numbers stand from one place up to another
pub record Agree (from to : ℕ) (s t : List ℕ) : Type 0 where
  pub at : (j : ℕ) → from ≤ j → j < to → word t j ≡ word s j

-- the same numbers stand everywhere else
pub record Outside (from to : ℕ) (s t : List ℕ) : Type 0 where
  pub before : (j : ℕ) → j < from → word t j ≡ word s j
  pub behind : (j : ℕ) → to ≤ j → word t j ≡ word s j

module _ {from to : ℕ} where
  pub outside_set : (s : List ℕ) (k w : ℕ) → from ≤ k → k < to → Outside from to s (set s k w)
  outside_set s k w h l =
      record {
        before = λ j m. get_or-set_other s k j w 0 (λ e. absurd (omega arith));
        behind = λ j m. get_or-set_other s k j w 0 (λ e. absurd (omega arith));
      }

  pub outside_sets : (s : List ℕ) (i : ℕ) (vs : List ℕ) → from ≤ i → i + length vs ≤ to → Outside from to s (sets s i vs)
  outside_sets s i vs h l = record { before = λ j m. sets_other s i vs j (inl (omega arith)); behind = λ j m. sets_other s i vs j (inr (omega arith)) }

  pub outside_twice : {s t u : List ℕ} → Outside from to s t → Outside from to t u → Outside from to s u
  outside_twice a b = record { before = λ j m. b.before j m ∙ a.before j m; behind = λ j m. b.behind j m ∙ a.behind j m }

  module _ {s t : List ℕ} (o : Outside from to s t) {a b : ℕ} where
    below : b ≤ from → Agree a b s t
    below h = record { at = λ j l m. o.before j (omega arith) }

    above : to ≤ a → Agree a b s t
    above h = record { at = λ j l m. o.behind j (omega arith) }

-- a unit is its five parts
unit_is : {k k' : ItsConfig} {r r' : ItsRegisters} {ds ds' : List ItsDevice} {cs cs' : List ItsCollection} {ts ts' : List Translation} →
    k ≡ k' → r ≡ r' → ds ≡ ds' → cs ≡ cs' → ts ≡ ts' → a_unit k r ds cs ts ≡ a_unit k' r' ds' cs' ts'
unit_is k r ds cs ts = rw (k, r, ds, cs, ts)

module _ {s t : List ℕ} where
  config_same : Agree LAYOUT REGISTERS s t → config_in t ≡ config_in s
  unfolding config_in
  config_same h =
      rw (
        h.at LAYOUT (omega arith) (omega arith),
        h.at LPI_LIMIT (omega arith) (omega arith),
        h.at COMMAND_BUDGET (omega arith) (omega arith),
        h.at FRAME_SIZE (omega arith) (omega arith),
        h.at PROFILE (omega arith) (omega arith),
        h.at PROCESSOR_COUNT (omega arith) (omega arith),
        h.at PROCESSORS (omega arith) (omega arith),
        h.at (PROCESSORS + 1) (omega arith) (omega arith),
        h.at (PROCESSORS + 2) (omega arith) (omega arith),
        h.at (PROCESSORS + 3) (omega arith) (omega arith),
      )

  registers_same : Agree REGISTERS DEVICES s t → registers_in t ≡ registers_in s
  unfolding registers_in
  registers_same h =
      rw (
        h.at STALLED (omega arith) (omega arith),
        h.at ENABLED (omega arith) (omega arith),
        h.at CBASER (omega arith) (omega arith),
        h.at CREADR (omega arith) (omega arith),
        h.at CWRITER (omega arith) (omega arith),
        rows_same 8 (λ i. word t (BASERS + i)) (λ i. word s (BASERS + i)) (λ i l. h.at (BASERS + i) (omega arith) (omega arith)),
      )

  devices_same : Agree DEVICES COLLECTIONS s t → devices_in t ≡ devices_in s
  unfolding devices_in
  devices_same h = rows_same device_records _ _ (λ i l. ap device_in (h.at (DEVICES + i) (omega arith) (omega arith)))

  collections_same : Agree COLLECTIONS KEYS s t → collections_in t ≡ collections_in s
  unfolding collections_in
  collections_same h = rows_same collection_records _ _ (λ i l. ap collection_in (h.at (COLLECTIONS + i) (omega arith) (omega arith)))

  translations_same : Agree KEYS NUMBERS s t → translations_in t ≡ translations_in s
  unfolding translations_in
  translations_same h =
      rows_same pair_records _ _ (λ i l. ap₂ translation_in (h.at (KEYS + i) (omega arith) (omega arith)) (h.at (GOALS + i) (omega arith) (omega arith)))

  pub config_changed : Outside LAYOUT REGISTERS s t → {k : ItsConfig} → config_in t ≡ k → unit_in t ≡ with_config (unit_in s) k
  config_changed o e =
      unit_is e (registers_same (above o (omega arith))) (devices_same (above o (omega arith))) (collections_same (above o (omega arith)))
      (translations_same (above o (omega arith)))

  pub registers_changed : Outside REGISTERS DEVICES s t → {r : ItsRegisters} → registers_in t ≡ r → unit_in t ≡ with_registers (unit_in s) r
  registers_changed o e =
      unit_is (config_same (below o (omega arith))) e (devices_same (above o (omega arith))) (collections_same (above o (omega arith)))
      (translations_same (above o (omega arith)))

  pub devices_changed : Outside DEVICES COLLECTIONS s t → {ds : List ItsDevice} → devices_in t ≡ ds → unit_in t ≡ with_devices (unit_in s) ds
  devices_changed o e =
      unit_is (config_same (below o (omega arith))) (registers_same (below o (omega arith))) e (collections_same (above o (omega arith)))
      (translations_same (above o (omega arith)))

  pub collections_changed : Outside COLLECTIONS KEYS s t → {cs : List ItsCollection} → collections_in t ≡ cs → unit_in t ≡ with_collections (unit_in s) cs
  collections_changed o e =
      unit_is (config_same (below o (omega arith))) (registers_same (below o (omega arith))) (devices_same (below o (omega arith))) e
      (translations_same (above o (omega arith)))

  pub translations_changed : Outside KEYS NUMBERS s t → {ts : List Translation} → translations_in t ≡ ts → unit_in t ≡ with_translations (unit_in s) ts
  translations_changed o e =
      unit_is (config_same (below o (omega arith))) (registers_same (below o (omega arith))) (devices_same (below o (omega arith)))
      (collections_same (below o (omega arith))) e
