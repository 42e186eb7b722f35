-- What an accepted command does to what the unit says of a device, of a collection and of a pair: exactly what History.antt says that it does in the
-- unit's profile. By the laws of a table; no history is spoken of here.
-- Assumes nothing.
use Rattle.std.specs.Prelude.{if◌then◌else◌, Err, None, Ok, Option, Some}
use Prim.Native.Nat.{ℕ}
use mathlib.Core.Path.{◌≡◌, refl, sym, ap, ap₂, ◌∙◌}
use mathlib.Core.Bool.{Bool, true, false, not, ◌&&◌}
use borrow.Author.Tests.{eq-eqb}
use Rattle.model.specs.declared.ItsDeviceId.{ItsDeviceId}
use Rattle.model.specs.declared.EventId.{EventId}
use Rattle.model.specs.declared.CollectionId.{CollectionId}
use Rattle.model.specs.declared.LpiId.{LpiId}
use Rattle.model.specs.declared.GicVcpuId.{GicVcpuId}
use Rattle.model.specs.declared.Translation.{Translation}
use Rattle.model.specs.declared.ItsState.{ItsState}
use Rattle.model.specs.declared.Command.{Command}
use Rattle.model.specs.declared.Command.TheVariants.{Mapd, Mapc, Mapti, Mapi, Movi, Int, Clear, Discard, Inv, Invall, Sync}
use Rattle.model.specs.declared.Refusal.TheVariants.{LpiOutOfRange, DeviceUnmapped, EventBeyondBits, CollectionUnmapped, PairUnmapped, ProcessorUnlisted, DeviceTooLarge, TableFull}
use Rattle.model.specs.Answer.{Verdict}
use Rattle.model.specs.Choose.{◌or◌then◌, when_found, if_found}
use Rattle.model.specs.Keys.{same_device, same_collection, same_pair, is_device, is_collection, is_pair, of_device, a_device, a_collection, a_translation, no_device, no_collection, no_translation, event_as_lpi}
use Rattle.model.specs.Profile.{is_strict, profile_of}
use Rattle.model.specs.Config.{listed}
use Rattle.model.specs.Step.{
  device_of,
  collection_of,
  translation_of,
  lpi_in_range,
  device_mapped,
  event_fits,
  collection_mapped,
  pair_mapped,
  room_for_device,
  room_for_collection,
  room_for_pair,
  check_mapping,
  names_too_large,
  check_in01,
  store_device,
  store_collection,
  store_translation,
  pair_in,
  drop_pairs_of,
  drop_device,
  cleared,
  drop_collection,
  drop_pair,
  move_pair,
  effect,
  is_accepted,
  accepts,
}
use Rattle.model.specs.History.{after, of_device_says, of_collection_says, maps, leaves, part_in, PairEntry, an_entry, pair_after}
use Rattle.model.proofs.Cases.{cases, never, found}
use Rattle.model.proofs.TableLaws.{look_found, room_same, look_store, look_drop}
use Rattle.model.proofs.KeyLaws.{
  device_keys,
  collection_keys,
  pair_keys,
  device_used,
  collection_used,
  pair_used,
  pair_has_device,
  pair_has_event,
  device_eq,
  device_drops,
  collection_drops,
  device_drops_pair,
  pair_drops,
  pair_refl,
  pair_device,
  pair_event,
}

-- What the unit says.

abbrev pub bits_in : ItsState → ItsDeviceId → Option ℕ
bits_in u d = when_found (device_of u d) (λ r. Some r.event_bits)

abbrev pub target_in : ItsState → CollectionId → Option GicVcpuId
target_in u c = when_found (collection_of u c) (λ r. Some r.target)

abbrev pub entry_of : Translation → PairEntry
entry_of r = an_entry r.lpi r.collection

abbrev pub entry_in : ItsState → ItsDeviceId → EventId → Option PairEntry
entry_in u d e = when_found (translation_of u d e) (λ r. Some (entry_of r))

-- a check that was passed held, and so did those after it
pub passed : (b : Bool) (r k : Verdict) → is_accepted r ≡ false → is_accepted (b or r then k) ≡ true → (b ≡ true) × (is_accepted k ≡ true)
passed true r k n h = (refl, h)
passed false r k n h = never (is_accepted r) h n

-- of a command that is accepted, the device that it names is not too large, and 01's checks hold
pub own : (u : ItsState) (x : Command) → accepts u x ≡ true → is_accepted (check_in01 u x) ≡ true
own u x ok = (passed (not (names_too_large u.config x)) (Err DeviceTooLarge) (check_in01 u x) refl ok).1

-- Before a valid MAPD stores, the pairs of its device may be dropped; nothing else changes.
module _ (u : ItsState) (d : ItsDeviceId) where
  abbrev drops_first : Bool
  drops_first = is_strict u.config.profile && device_mapped u d

  by_cleared : {A : Type 0} (f : ItsState → A) → f (drop_pairs_of d u) ≡ f u → f (cleared d u) ≡ f u
  unfolding cleared
  by_cleared f e = cases drops_first (λ y. rw y e) (λ n. rw n)

  pub cleared_config : (cleared d u).config ≡ u.config
  cleared_config = by_cleared (λ v. v.config) refl

  pub cleared_registers : (cleared d u).registers ≡ u.registers
  cleared_registers = by_cleared (λ v. v.registers) refl

  pub cleared_devices : (cleared d u).devices ≡ u.devices
  cleared_devices = by_cleared (λ v. v.devices) refl

  pub cleared_collections : (cleared d u).collections ≡ u.collections
  cleared_collections = by_cleared (λ v. v.collections) refl

module _ (u : ItsState) where
  -- what a MAPTI or MAPI was allowed by
  pub record Allowed (d : ItsDeviceId) (e : EventId) (l : LpiId) (c : CollectionId) : Type 0 where
    pub range : lpi_in_range u.config l ≡ true
    pub device : device_mapped u d ≡ true
    pub event : event_fits u d e ≡ true
    pub collection : collection_mapped u c ≡ true
    pub room : room_for_pair u d e ≡ true

  pub allowed : (d : ItsDeviceId) (e : EventId) (l : LpiId) (c : CollectionId) → is_accepted (check_mapping u d e l c) ≡ true → Allowed d e l c
  unfolding check_mapping
  allowed d e l c ok =
      let a = passed (lpi_in_range u.config l) (Err LpiOutOfRange) _ refl ok in
      let b = passed (device_mapped u d) (Err DeviceUnmapped) _ refl a.1 in
      let f = passed (event_fits u d e) (Err EventBeyondBits) _ refl b.1 in
      let g = passed (collection_mapped u c) (Err CollectionUnmapped) _ refl f.1 in
      let k = passed (room_for_pair u d e) (Err TableFull) (Ok tt) refl g.1 in
      record { range = a.0; device = b.0; event = f.0; collection = g.0; room = k.0 }

  -- the record that a MOVI changes
  pub moved : (d : ItsDeviceId) (e : EventId) (c : CollectionId) → accepts u (Movi d e c) ≡ true → (r : Translation) × (translation_of u d e ≡ Some r)
  moved d e c ok =
      found (translation_of u d e)
      (passed (pair_mapped u d e) (Err PairUnmapped) (Ok tt) refl (passed (collection_mapped u c) (Err CollectionUnmapped) _ refl (own u (Movi d e c) ok)).1).0

  pub devices_effect : (x : Command) → accepts u x ≡ true → (d : ItsDeviceId) → bits_in (effect u x) d ≡ after (of_device_says d x) (bits_in u d)
  unfolding store_device store_collection store_translation drop_device drop_collection drop_pair move_pair of_device_says
  devices_effect (Mapd d' bits true) ok d =
      rw (
        cleared_devices u d',
        look_store (is_device d') (is_device d) (λ r. r.used) (a_device d' bits) u.devices (device_keys d' d) (device_used d) (eq-eqb d'.0 d'.0 refl)
            (passed (room_for_device u d') (Err TableFull) (Ok tt) refl (own u (Mapd d' bits true) ok)).0,
      )
      (cases (same_device d' d) (λ e. rw e) (λ e. rw e))
  devices_effect (Mapd d' bits false) ok d =
      rw (look_drop (is_device d') (is_device d) no_device refl u.devices (same_device d' d) (device_drops d d'))
      (cases (same_device d' d) (λ e. rw e) (λ e. rw e))
  devices_effect (Mapc c p true) ok d = refl
  devices_effect (Mapc c p false) ok d = refl
  devices_effect (Mapti d' e l c) ok d = refl
  devices_effect (Mapi d' e c) ok d = refl
  devices_effect (Movi d' e c) ok d = rw (moved d' e c ok).1
  devices_effect (Int d' e) ok d = refl
  devices_effect (Clear d' e) ok d = refl
  devices_effect (Discard d' e) ok d = refl
  devices_effect (Inv d' e) ok d = refl
  devices_effect (Invall c) ok d = refl
  devices_effect Sync ok d = refl

  pub collections_effect : (x : Command) → accepts u x ≡ true → (c : CollectionId) → target_in (effect u x) c ≡ after (of_collection_says c x) (target_in u c)
  unfolding store_device store_collection store_translation drop_device drop_collection drop_pair move_pair of_collection_says
  collections_effect (Mapd d bits true) ok c = rw (cleared_collections u d)
  collections_effect (Mapd d bits false) ok c = refl
  collections_effect (Mapc c' p true) ok c =
      rw (look_store (is_collection c') (is_collection c) (λ r. r.used) (a_collection c' p) u.collections (collection_keys c' c) (collection_used c) (eq-eqb c'.0 c'.0 refl)
      (passed (room_for_collection u c') (Err TableFull) (Ok tt) refl (passed (listed u.config p) (Err ProcessorUnlisted) _ refl (own u (Mapc c' p true) ok)).1).0)
      (cases (same_collection c' c) (λ e. rw e) (λ e. rw e))
  collections_effect (Mapc c' p false) ok c =
      rw (look_drop (is_collection c') (is_collection c) no_collection refl u.collections (same_collection c' c) (collection_drops c c'))
      (cases (same_collection c' c) (λ e. rw e) (λ e. rw e))
  collections_effect (Mapti d e l c') ok c = refl
  collections_effect (Mapi d e c') ok c = refl
  collections_effect (Movi d e c') ok c = rw (moved d e c' ok).1
  collections_effect (Int d e) ok c = refl
  collections_effect (Clear d e) ok c = refl
  collections_effect (Discard d e) ok c = refl
  collections_effect (Inv d e) ok c = refl
  collections_effect (Invall c') ok c = refl
  collections_effect Sync ok c = refl

  -- what is found of a pair after a store of a pair that there is room for
  stored : (d' : ItsDeviceId) (e' : EventId) (l : LpiId) (c : CollectionId) → room_for_pair u d' e' ≡ true → (d : ItsDeviceId) (e : EventId) →
      entry_in (store_translation d' e' l c u) d e ≡ (if same_pair d' e' d e then Some (an_entry l c) else entry_in u d e)
  unfolding store_translation
  stored d' e' l c fits d e =
      rw (look_store (is_pair d' e') (is_pair d e) (λ r. r.used) (a_translation d' e' l c) u.translations (pair_keys d' e' d e) (pair_used d e) (pair_refl d' e') fits)
      (cases (same_pair d' e' d e) (λ s. rw s) (λ s. rw s))

  -- a pair that is mapped needs no free record
  mapped_room : (d : ItsDeviceId) (e : EventId) {r : Translation} → translation_of u d e ≡ Some r → room_for_pair u d e ≡ true
  mapped_room d e s = room_same (is_pair d e) (λ r. r.used) u.translations (look_found (is_pair d e) u.translations s)

  -- the same pair has the same entry
  mapped_entry : (d' : ItsDeviceId) (e' : EventId) (d : ItsDeviceId) (e : EventId) {r : Translation} →
      translation_of u d' e' ≡ Some r → same_pair d' e' d e ≡ true → entry_in u d e ≡ Some (entry_of r)
  mapped_entry d' e' d e q s =
      ap (λ o. when_found o (λ a. Some (entry_of a))) (ap₂ (λ x y. translation_of u x y) (sym (pair_device d' e' d e s)) (sym (pair_event d' e' d e s)) ∙ q)

  -- whether a pair is in a collection is said by the record that counts, of every record of the pair
  abbrev lies_in : CollectionId → Option Translation → Bool
  lies_in c o = if_found o (λ a. same_collection a.collection c) false

  drops_with : (c : CollectionId) (d : ItsDeviceId) (e : EventId) (a : Translation) → is_pair d e a ≡ true → pair_in c u.translations a ≡ lies_in c (translation_of u d e)
  drops_with c d e a h = rw (pair_used d e a h) (ap₂ (λ x y. lies_in c (translation_of u x y)) (pair_has_device d e a h) (pair_has_event d e a h))

  -- a drop by collection, seen from the pair
  dropped : (c : CollectionId) (o : Option Translation) →
      when_found (if lies_in c o then None else o) (λ a. Some (entry_of a))
      ≡ when_found (when_found o (λ a. Some (entry_of a))) (λ x. if same_collection x.collection c then None else Some x)
  dropped c None = refl
  dropped c (Some r) = cases (same_collection r.collection c) (λ s. rw s) (λ s. rw s)

  -- a MAPTI or MAPI
  mapped : (d' : ItsDeviceId) (e' : EventId) (l : LpiId) (c : CollectionId) → is_accepted (check_mapping u d' e' l c) ≡ true → (d : ItsDeviceId) (e : EventId) →
      entry_in (store_translation d' e' l c u) d e ≡ pair_after (if same_pair d' e' d e then maps l c else leaves) (entry_in u d e)
  mapped d' e' l c ok d e = rw (stored d' e' l c (allowed d' e' l c ok).room d e) (cases (same_pair d' e' d e) (λ s. rw s) (λ s. rw s))

  -- what is left of a pair when the pairs of a device are dropped
  without : (d' d : ItsDeviceId) (e : EventId) → entry_in (drop_pairs_of d' u) d e ≡ (if same_device d' d then None else entry_in u d e)
  without d' d e =
      rw (look_drop (of_device d') (is_pair d e) no_translation refl u.translations (same_device d' d) (λ a. device_drops_pair d e d' e a))
      (cases (same_device d' d) (λ s. rw s) (λ s. rw s))

  -- a valid MAPD of a device that is not mapped meets no pair of it: so it is along every history, and then in strict it ends the pairs of its device
  abbrev pub Clean : Command → Type 0
  Clean x = (d : ItsDeviceId) (bits : ℕ) → x ≡ Mapd d bits true → device_mapped u d ≡ false → (e : EventId) → entry_in u d e ≡ None

  mapped_again : (d' d : ItsDeviceId) (e : EventId) → (device_mapped u d' ≡ false → entry_in u d' e ≡ None) → is_strict u.config.profile ≡ true →
      entry_in (cleared d' u) d e ≡ (if same_device d' d then None else entry_in u d e)
  unfolding cleared
  mapped_again d' d e clean s =
      cases (device_mapped u d')
      (λ y. rw (s, y) (without d' d e))
      (λ n. rw (s, n)
      (cases (same_device d' d)
      (λ z. rw z (ap (λ a. entry_in u a e) (sym (device_eq d' d z)) ∙ clean n))
      (λ z. rw z)))

  kept_in_base : (d : ItsDeviceId) → is_strict u.config.profile ≡ false → cleared d u ≡ u
  unfolding cleared
  kept_in_base d n = rw n

  pub pairs_effect : (x : Command) → Clean x → accepts u x ≡ true → (d : ItsDeviceId) (e : EventId) →
      entry_in (effect u x) d e ≡ pair_after (part_in (profile_of u.config) d e x) (entry_in u d e)
  unfolding store_device store_collection drop_device drop_collection drop_pair move_pair part_in
  pairs_effect (Mapd d' bits true) clean ok d e =
      cases (is_strict u.config.profile)
      (λ s. rw (s, mapped_again d' d e (λ n. clean d' bits refl n e) s) (cases (same_device d' d) (λ z. rw z) (λ z. rw z)))
      (λ n. rw (n, kept_in_base d' n))
  pairs_effect (Mapd d' bits false) clean ok d e =
      cases (is_strict u.config.profile)
      (λ s. rw (s, without d' d e) (cases (same_device d' d) (λ z. rw z) (λ z. rw z)))
      (λ n. rw (n, without d' d e) (cases (same_device d' d) (λ z. rw z) (λ z. rw z)))
  pairs_effect (Mapc c p true) clean ok d e = refl
  pairs_effect (Mapc c p false) clean ok d e =
      rw (look_drop (pair_in c u.translations) (is_pair d e) no_translation refl u.translations (lies_in c (translation_of u d e)) (drops_with c d e))
      (dropped c (translation_of u d e))
  pairs_effect (Mapti d' e' l c) clean ok d e = mapped d' e' l c (own u (Mapti d' e' l c) ok) d e
  pairs_effect (Mapi d' e' c) clean ok d e = mapped d' e' (event_as_lpi e') c (own u (Mapi d' e' c) ok) d e
  pairs_effect (Movi d' e' c) clean ok d e =
      let (r, q) = moved d' e' c ok in
      rw (q, stored d' e' r.lpi c (mapped_room d' e' q) d e)
      (cases (same_pair d' e' d e) (λ s. rw (s, mapped_entry d' e' d e q s)) (λ s. rw s))
  pairs_effect (Int d' e') clean ok d e = refl
  pairs_effect (Clear d' e') clean ok d e = refl
  pairs_effect (Discard d' e') clean ok d e =
      rw (look_drop (is_pair d' e') (is_pair d e) no_translation refl u.translations (same_pair d' e' d e) (pair_drops d e d' e'))
      (cases (same_pair d' e' d e) (λ s. rw s) (λ s. rw s))
  pairs_effect (Inv d' e') clean ok d e = refl
  pairs_effect (Invall c) clean ok d e = refl
  pairs_effect Sync clean ok d e = refl

-- a command changes neither the configuration nor the registers
pub rest_effect : (u : ItsState) (x : Command) → accepts u x ≡ true → ((effect u x).config ≡ u.config) × ((effect u x).registers ≡ u.registers)
unfolding store_device store_collection store_translation drop_device drop_collection drop_pair move_pair
rest_effect u (Mapd d bits true) ok = (cleared_config u d, cleared_registers u d)
rest_effect u (Mapd d bits false) ok = (refl, refl)
rest_effect u (Mapc c p true) ok = (refl, refl)
rest_effect u (Mapc c p false) ok = (refl, refl)
rest_effect u (Mapti d e l c) ok = (refl, refl)
rest_effect u (Mapi d e c) ok = (refl, refl)
rest_effect u (Movi d e c) ok = rw (moved u d e c ok).1 (refl, refl)
rest_effect u (Int d e) ok = (refl, refl)
rest_effect u (Clear d e) ok = (refl, refl)
rest_effect u (Discard d e) ok = (refl, refl)
rest_effect u (Inv d e) ok = (refl, refl)
rest_effect u (Invall c) ok = (refl, refl)
rest_effect u Sync ok = (refl, refl)
