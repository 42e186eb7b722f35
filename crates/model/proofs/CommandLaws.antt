-- What each command comes to and what it leaves, from what the searches of a unit found: a check that fails refuses, and where all hold the
-- effect is what was stored or dropped. The unit is any whose tables have their sizes; both texts of the unit cite these laws.
-- Assumes nothing.
use Rattle.std.specs.Prelude.{if◌then◌else◌, Err, None, Ok, Option, Some}
use Prim.Native.Nat.{ℕ, ◌≤◌, ◌<◌}
use native.Mathlib.Omega.{arith}
use mathlib.Core.Path.{◌≡◌, refl, sym, ap, ap₂, ◌∙◌}
use mathlib.Core.Bool.{Bool, true, false}
use mathlib.Core.List.{List, []}
use lib.ListN.{length, get_or, set}
use lib.Dec.{ltb}
use borrow.Author.Tests.{ltb-true, ltb-false, lt-ltb, le-ltb}
use Rattle.model.specs.declared.ItsDeviceId.{ItsDeviceId}
use Rattle.model.specs.declared.EventId.{EventId}
use Rattle.model.specs.declared.CollectionId.{CollectionId}
use Rattle.model.specs.declared.LpiId.{LpiId}
use Rattle.model.specs.declared.GicVcpuId.{GicVcpuId}
use Rattle.model.specs.declared.ItsDevice.{ItsDevice}
use Rattle.model.specs.declared.ItsCollection.{ItsCollection}
use Rattle.model.specs.declared.Translation.{Translation}
use Rattle.model.specs.declared.ItsState.{ItsState}
use Rattle.model.specs.declared.Delivery.{Delivery}
use Rattle.model.specs.declared.Refusal.{Refusal}
use Rattle.model.specs.declared.Refusal.TheVariants.{LpiOutOfRange, DeviceUnmapped, EventBeyondBits, CollectionUnmapped, PairUnmapped, ProcessorUnlisted, DeviceTooLarge, ResourceNotFound, TableFull}
use Rattle.model.specs.declared.Command.{Command}
use Rattle.model.specs.declared.Command.TheVariants.{Mapd, Mapc, Mapti, Mapi, Movi, Int, Clear, Discard, Inv, Invall}
use Rattle.model.specs.Answer.{Executed}
use Rattle.model.specs.Choose.{◌or◌then◌, if_found, is_found}
use Rattle.model.specs.Table.{first_at, among, look, place, room, store, drop_all}
use Rattle.model.specs.Keys.{is_device, is_collection, is_pair, of_device, a_device, a_collection, a_translation, no_device, no_collection, no_translation, delivery, event_as_lpi}
use Rattle.model.specs.With.{with_devices, with_collections, with_translations}
use Rattle.model.specs.Profile.{is_strict}
use Rattle.model.specs.Config.{listed}
use Rattle.model.specs.Step.{
  device_of,
  translation_of,
  delivery_in,
  lpi_in_range,
  event_below,
  device_mapped,
  collection_mapped,
  room_for_pair,
  check_mapping,
  device_named,
  too_large,
  check,
  store_device,
  store_collection,
  store_translation,
  pair_in,
  drop_pairs_of,
  drop_device,
  cleared,
  drop_collection,
  drop_pair,
  move_pair,
  effect,
  action_to,
  actions_on,
  actions_of,
  stepped,
  executed,
  execution,
  accepts,
}
use Rattle.model.proofs.Cases.{cases, never}
use Rattle.model.proofs.TableLaws.{first_at_passes, look_at, look_none, found_is, place_same}
use Rattle.model.proofs.KeyLaws.{pair_used, pair_has_device, pair_has_event}
use Rattle.model.proofs.Effects.{cleared_devices}

-- The tables have their sizes: as arrays they do, and as a row of numbers.
pub record Sized (u : ItsState) : Type 0 where
  pub devices : length u.devices ≡ 32
  pub collections : length u.collections ≡ 32
  pub translations : length u.translations ≡ 256

-- What a search tells: the record of the key stands at the place below the table's size, or there is none.
module _ {A : Type 0} (p : A → Bool) (rs : List A) {at n : ℕ} (first : at ≡ first_at p rs) (long : length rs ≡ n) where
  pub found_at : (d : A) → at < n → look p rs ≡ Some (get_or rs at d)
  found_at d h = rw first (look_at p rs d (omega arith))

  pub none_at : n ≤ at → look p rs ≡ None
  none_at h = look_none p rs (omega arith)

-- What the search for a place tells: there is room where the place is in the table, and what is stored there is stored under the key.
module _ {A : Type 0} (p used : A → Bool) (rs : List A) {at n : ℕ} (where_to : at ≡ place p used rs) (long : length rs ≡ n) where
  pub has_room : at < n → room p used rs ≡ true
  unfolding room
  has_room h = lt-ltb (place p used rs) (length rs) (omega arith)

  pub no_room : n ≤ at → room p used rs ≡ false
  unfolding room
  no_room h = le-ltb (place p used rs) (length rs) (omega arith)

  pub stores : (a : A) → set rs at a ≡ store p used a rs
  unfolding store
  stores a = rw where_to

-- A command is carried out: what it comes to, and the unit after it.
abbrev pub Carried : ItsState → Command → Executed → ItsState → Type 0
Carried u x r v = (r ≡ executed u x) × (v ≡ stepped u x)

-- as one value
pub both_are : (u : ItsState) (x : Command) {r : Executed} {v : ItsState} → Carried u x r v → record { unit = v; executed = r } ≡ execution u x
both_are u x h = ap₂ (λ v r. record { unit = v; executed = r }) h.1 h.0

-- a check that fails refuses, and changes nothing
pub refused : (u : ItsState) (x : Command) (r : Refusal) → check u x ≡ Err r → Carried u x (Err r) u
unfolding executed stepped
refused u x r h = (rw h, rw h)

-- where every check holds the effect is made
pub accepted : (u : ItsState) (x : Command) {v : ItsState} → check u x ≡ Ok tt → actions_of u x ≡ [] → v ≡ effect u x → Carried u x (Ok None) v
unfolding executed stepped
accepted u x h a e = (rw (h, a), rw (h, e))

-- In strict, a device that is too large is refused before any other check, by every command that names one.
pub too_large_lem : (u : ItsState) (x : Command) {d : ItsDeviceId} → device_named x ≡ Some d → too_large u.config d ≡ true → Carried u x (Err DeviceTooLarge) u
too_large_lem u x n h = refused u x DeviceTooLarge (rw (n, h))

-- In strict, the translations of a mapped device are dropped before it is mapped again.
module _ (u : ItsState) (sizes : Sized u) (d : ItsDeviceId) where
  pub base_keeps : is_strict u.config.profile ≡ false → u ≡ cleared d u
  unfolding cleared
  base_keeps n = rw n

  module _ (s : is_strict u.config.profile ≡ true) {i : ℕ} (at-device : i ≡ first_at (is_device d) u.devices) where
    pub first_keeps : 32 ≤ i → u ≡ cleared d u
    unfolding cleared
    first_keeps h = rw (s, none_at (is_device d) u.devices at-device sizes.devices h)

    pub again_drops : i < 32 → {v : ItsState} → v ≡ with_translations u (drop_all (of_device d) no_translation u.translations) → v ≡ cleared d u
    unfolding cleared
    again_drops h e = rw (s, found_at (is_device d) u.devices at-device sizes.devices no_device h) e

-- MAPD and MAPC.
module _ (u : ItsState) (sizes : Sized u) (d : ItsDeviceId) (bits : ℕ) (small : too_large u.config d ≡ false) where
  pub device_drops : {v w : ItsState} → v ≡ with_devices u (drop_all (is_device d) no_device u.devices) →
      w ≡ with_translations v (drop_all (of_device d) no_translation v.translations) → Carried u (Mapd d bits false) (Ok None) w
  unfolding drop_device
  device_drops h k = accepted u (Mapd d bits false) (rw small) refl (rw (k, h))

  module _ {at : ℕ} (where_to : at ≡ place (is_device d) (λ r. r.used) u.devices) where
    pub device_full : 32 ≤ at → Carried u (Mapd d bits true) (Err TableFull) u
    device_full h = refused u (Mapd d bits true) TableFull (rw (small, no_room (is_device d) (λ r. r.used) u.devices where_to sizes.devices h))

    pub device_stores : at < 32 → {w v : ItsState} → w ≡ cleared d u → v ≡ with_devices w (set w.devices at (a_device d bits)) → Carried u (Mapd d bits true) (Ok None) v
    unfolding store_device
    device_stores h {w} c e =
        accepted u (Mapd d bits true)
        (rw (small, has_room (is_device d) (λ r. r.used) u.devices where_to sizes.devices h))
        refl
        (rw (← c) (e ∙ ap (with_devices w) (rw (c, cleared_devices u d) (stores (is_device d) (λ r. r.used) u.devices where_to sizes.devices (a_device d bits)))))

module _ (u : ItsState) (sizes : Sized u) (c : CollectionId) (t : GicVcpuId) where
  pub collection_drops : {v w : ItsState} → v ≡ with_collections u (drop_all (is_collection c) no_collection u.collections) →
      w ≡ with_translations v (drop_all (pair_in c v.translations) no_translation v.translations) → Carried u (Mapc c t false) (Ok None) w
  unfolding drop_collection
  collection_drops h k = accepted u (Mapc c t false) refl refl (rw (k, h))

  pub processor_unlisted : listed u.config t ≡ false → Carried u (Mapc c t true) (Err ProcessorUnlisted) u
  processor_unlisted l = refused u (Mapc c t true) ProcessorUnlisted (rw l)

  module _ (l : listed u.config t ≡ true) {at : ℕ} (where_to : at ≡ place (is_collection c) (λ r. r.used) u.collections) where
    pub collection_full : 32 ≤ at → Carried u (Mapc c t true) (Err TableFull) u
    collection_full h =
        refused u (Mapc c t true) TableFull
        (rw (l, no_room (is_collection c) (λ r. r.used) u.collections where_to sizes.collections h))

    pub collection_stores : at < 32 → {v : ItsState} → v ≡ with_collections u (set u.collections at (a_collection c t)) → Carried u (Mapc c t true) (Ok None) v
    unfolding store_collection
    collection_stores h e =
        accepted u (Mapc c t true)
        (rw (l, has_room (is_collection c) (λ r. r.used) u.collections where_to sizes.collections h))
        refl
        (e ∙ ap (with_collections u) (stores (is_collection c) (λ r. r.used) u.collections where_to sizes.collections (a_collection c t)))

-- MAPTI: what each check asks for, in their order.
module _ (u : ItsState) (sizes : Sized u) (d : ItsDeviceId) (e : EventId) (l : LpiId) (c : CollectionId) (small : too_large u.config d ≡ false) where
  pub lpi_beyond : lpi_in_range u.config l ≡ false → Carried u (Mapti d e l c) (Err LpiOutOfRange) u
  unfolding check_mapping
  lpi_beyond h = refused u (Mapti d e l c) LpiOutOfRange (rw (small, h))

  module _ (in_range : lpi_in_range u.config l ≡ true) {i : ℕ} (at-device : i ≡ first_at (is_device d) u.devices) where
    pub no_device_lem : 32 ≤ i → Carried u (Mapti d e l c) (Err DeviceUnmapped) u
    unfolding check_mapping
    no_device_lem h = refused u (Mapti d e l c) DeviceUnmapped (rw (small, in_range, none_at (is_device d) u.devices at-device sizes.devices h))

    module _ (held : i < 32) {r : ItsDevice} (is : r ≡ get_or u.devices i no_device) where
      device_there : device_of u d ≡ Some r
      device_there = found_at (is_device d) u.devices at-device sizes.devices no_device held ∙ ap Some (sym is)

      pub event_beyond : event_below r.event_bits e ≡ false → Carried u (Mapti d e l c) (Err EventBeyondBits) u
      unfolding check_mapping
      event_beyond h = refused u (Mapti d e l c) EventBeyondBits (rw (small, in_range, device_there, h))

      module _ (below : event_below r.event_bits e ≡ true) {j : ℕ} (at-collection : j ≡ first_at (is_collection c) u.collections) where
        pub no_collection_lem : 32 ≤ j → Carried u (Mapti d e l c) (Err CollectionUnmapped) u
        unfolding check_mapping
        no_collection_lem h =
            refused u (Mapti d e l c) CollectionUnmapped
            (rw (small, in_range, device_there, below, none_at (is_collection c) u.collections at-collection sizes.collections h))

        module _ (home : j < 32) {at : ℕ} (where_to : at ≡ place (is_pair d e) (λ r. r.used) u.translations) where
          last_check : (b : Bool) → room_for_pair u d e ≡ b → check u (Mapti d e l c) ≡ (b or Err TableFull then Ok tt)
          unfolding check_mapping
          last_check b h =
              rw (small, in_range, device_there, below, found_at (is_collection c) u.collections at-collection sizes.collections no_collection home, h)

          pub pairs_full : 256 ≤ at → Carried u (Mapti d e l c) (Err TableFull) u
          pairs_full h =
              refused u (Mapti d e l c) TableFull
              (last_check false (no_room (is_pair d e) (λ r. r.used) u.translations where_to sizes.translations h))

          pub pair_stores : at < 256 → {v : ItsState} → v ≡ with_translations u (set u.translations at (a_translation d e l c)) →
              Carried u (Mapti d e l c) (Ok None) v
          unfolding store_translation
          pair_stores h e' =
              accepted u (Mapti d e l c)
              (last_check true (has_room (is_pair d e) (λ r. r.used) u.translations where_to sizes.translations h))
              refl
              (e' ∙ ap (with_translations u) (stores (is_pair d e) (λ r. r.used) u.translations where_to sizes.translations (a_translation d e l c)))

-- MAPI is MAPTI with the event's number as the LPI.
pub as_mapti : (u : ItsState) (d : ItsDeviceId) (e : EventId) (c : CollectionId) {r : Executed} {v : ItsState} →
    Carried u (Mapti d e (event_as_lpi e) c) r v → Carried u (Mapi d e c) r v
unfolding executed stepped
as_mapti u d e c h = h

-- MOVI: the collection first.
module _ (u : ItsState) (sizes : Sized u) (d : ItsDeviceId) (e : EventId) (c : CollectionId) (small : too_large u.config d ≡ false)
    {j : ℕ} (at-collection : j ≡ first_at (is_collection c) u.collections) where
  pub nowhere_to_move : 32 ≤ j → Carried u (Movi d e c) (Err CollectionUnmapped) u
  nowhere_to_move h = refused u (Movi d e c) CollectionUnmapped (rw (small, none_at (is_collection c) u.collections at-collection sizes.collections h))

  module _ (home : j < 32) {i : ℕ} (at_pair : i ≡ first_at (is_pair d e) u.translations) where
    pub nothing_to_move : 256 ≤ i → Carried u (Movi d e c) (Err PairUnmapped) u
    nothing_to_move h =
        refused u (Movi d e c) PairUnmapped
        (rw (small, found_at (is_collection c) u.collections at-collection sizes.collections no_collection home, none_at (is_pair d e) u.translations at_pair sizes.translations h))

    pub pair_moves : i < 256 → {r : Translation} → r ≡ get_or u.translations i no_translation →
        {v : ItsState} → v ≡ with_translations u (set u.translations i (a_translation d e r.lpi c)) → Carried u (Movi d e c) (Ok None) v
    unfolding move_pair store_translation
    pair_moves h {r} is k =
        let there : translation_of u d e ≡ Some r = found_at (is_pair d e) u.translations at_pair sizes.translations no_translation h ∙ ap Some (sym is) in
        let at : i ≡ place (is_pair d e) (λ a. a.used) u.translations =
        at_pair ∙ sym (place_same (is_pair d e) (λ a. a.used) u.translations (omega (arith, sizes.translations))) in
        accepted u (Movi d e c)
        (rw (small, found_at (is_collection c) u.collections at-collection sizes.collections no_collection home, there))
        refl
        (rw there (k ∙ ap (with_translations u) (stores (is_pair d e) (λ a. a.used) u.translations at sizes.translations (a_translation d e r.lpi c))))

-- Where a message goes.
module _ (u : ItsState) (sizes : Sized u) (d : ItsDeviceId) (e : EventId) {i : ℕ} (at_pair : i ≡ first_at (is_pair d e) u.translations) where
  pub no_pair : 256 ≤ i → delivery_in u d e ≡ None
  unfolding delivery_in
  no_pair h = rw (none_at (is_pair d e) u.translations at_pair sizes.translations h)

  module _ (mapped : i < 256) {r : Translation} (is : r ≡ get_or u.translations i no_translation)
      {j : ℕ} (at-collection : j ≡ first_at (is_collection r.collection) u.collections) where
    pair_there : translation_of u d e ≡ Some r
    pair_there = found_at (is_pair d e) u.translations at_pair sizes.translations no_translation mapped ∙ ap Some (sym is)

    pub no_home : 32 ≤ j → delivery_in u d e ≡ None
    unfolding delivery_in
    no_home h = rw (pair_there, none_at (is_collection r.collection) u.collections at-collection sizes.collections h)

    pub delivers : j < 32 → {k : ItsCollection} → k ≡ get_or u.collections j no_collection → delivery_in u d e ≡ Some (delivery r.lpi k.target)
    unfolding delivery_in
    delivers h m = rw (pair_there, found_at (is_collection r.collection) u.collections at-collection sizes.collections no_collection h, ← m)

  -- DISCARD and INV.
  pub nothing_to_drop : too_large u.config d ≡ false → 256 ≤ i → Carried u (Discard d e) (Err PairUnmapped) u
  nothing_to_drop small h = refused u (Discard d e) PairUnmapped (rw (small, none_at (is_pair d e) u.translations at_pair sizes.translations h))

  pub pair_drops : too_large u.config d ≡ false → i < 256 → {v : ItsState} → v ≡ with_translations u (drop_all (is_pair d e) no_translation u.translations) → Carried u (Discard d e) (Ok None) v
  unfolding drop_pair
  pair_drops small h k = accepted u (Discard d e) (rw (small, found_at (is_pair d e) u.translations at_pair sizes.translations no_translation h)) refl k

  pub no_pair_known : too_large u.config d ≡ false → 256 ≤ i → Err PairUnmapped ≡ executed u (Inv d e)
  no_pair_known small h = (refused u (Inv d e) PairUnmapped (rw (small, none_at (is_pair d e) u.translations at_pair sizes.translations h))).0

  pub pair_known : too_large u.config d ≡ false → i < 256 → (Ok None) ≡ executed u (Inv d e)
  pair_known small h = (accepted u (Inv d e) (rw (small, found_at (is_pair d e) u.translations at_pair sizes.translations no_translation h)) refl refl).0

-- INVALL.
module _ (u : ItsState) (sizes : Sized u) (c : CollectionId) {j : ℕ} (at-collection : j ≡ first_at (is_collection c) u.collections) where
  pub no_collection_known : 32 ≤ j → Err CollectionUnmapped ≡ executed u (Invall c)
  no_collection_known h = (refused u (Invall c) CollectionUnmapped (rw (none_at (is_collection c) u.collections at-collection sizes.collections h))).0

  pub collection_known : j < 32 → (Ok None) ≡ executed u (Invall c)
  collection_known h = (accepted u (Invall c) (rw (found_at (is_collection c) u.collections at-collection sizes.collections no_collection h)) refl refl).0

-- INT and CLEAR, from the answer to where the message goes.
answers_some : (o : Option Delivery) {a : Delivery} → Ok a ≡ if_found o Ok (Err ResourceNotFound) → o ≡ Some a
answers_some None h = never true refl (cc)
answers_some (Some b) h = cc

answers_none : (o : Option Delivery) {why : Refusal} → Err why ≡ if_found o Ok (Err ResourceNotFound) → (o ≡ None) × (why ≡ ResourceNotFound)
answers_none None h = (refl, cc)
answers_none (Some b) h = never true refl (cc)

module _ (u : ItsState) (d : ItsDeviceId) (e : EventId) where
  pub acts : too_large u.config d ≡ false → (pending : Bool) {a : Delivery} → Ok a ≡ if_found (delivery_in u d e) Ok (Err ResourceNotFound) →
      Ok (Some (action_to pending a)) ≡ executed u (if pending then Int d e else Clear d e)
  unfolding executed actions_on
  acts small true h = rw (small, answers_some (delivery_in u d e) h)
  acts small false h = rw (small, answers_some (delivery_in u d e) h)

  pub acts_not : too_large u.config d ≡ false → (pending : Bool) {why : Refusal} → Err why ≡ if_found (delivery_in u d e) Ok (Err ResourceNotFound) →
      Err why ≡ executed u (if pending then Int d e else Clear d e)
  unfolding executed actions_on
  acts_not small true h = let o = answers_none (delivery_in u d e) h in rw (small, o.0, o.1)
  acts_not small false h = let o = answers_none (delivery_in u d e) h in rw (small, o.0, o.1)

  -- and where its device is too large
  pub acts_never : too_large u.config d ≡ true → (pending : Bool) → Err DeviceTooLarge ≡ executed u (if pending then Int d e else Clear d e)
  acts_never h true = (too_large_lem u (Int d e) refl h).0
  acts_never h false = (too_large_lem u (Clear d e) refl h).0

  -- a command that only looks leaves the unit, accepted or not
  pub int_keeps : u ≡ stepped u (Int d e)
  unfolding stepped
  int_keeps = cases (accepts u (Int d e)) (λ h. rw h) (λ h. rw h)

  pub clear_keeps : u ≡ stepped u (Clear d e)
  unfolding stepped
  clear_keeps = cases (accepts u (Clear d e)) (λ h. rw h) (λ h. rw h)

  pub inv_keeps : u ≡ stepped u (Inv d e)
  unfolding stepped
  inv_keeps = cases (accepts u (Inv d e)) (λ h. rw h) (λ h. rw h)

pub invall_keeps : (u : ItsState) (c : CollectionId) → u ≡ stepped u (Invall c)
unfolding stepped
invall_keeps u c = cases (collection_mapped u c) (λ h. rw h) (λ h. rw h)

-- What a search that gives a place, or none, says of the table: the record that counts stands there, and a store under its key goes there.
module _ {A : Type 0} (p : A → Bool) (rs : List A) where
  -- the place is the first record's, which is in the table
  at_first : {i : ℕ} → among rs (first_at p rs) ≡ Some i → (first_at p rs ≡ i) × (ltb (first_at p rs) (length rs) ≡ true)
  at_first {i} e =
      cases (ltb (first_at p rs) (length rs))
      (λ l. let s : ◌≡◌ {A = Option ℕ} (Some (first_at p rs)) (Some i) = rw l at e in (cc, l))
      (λ l. absurd (cc (rw l at e)))

  pub found : {i : ℕ} (d : A) → among rs (first_at p rs) ≡ Some i → look p rs ≡ Some (get_or rs i d)
  found d e = let f = at_first e in rw (← f.0) (look_at p rs d (ltb-true _ _ f.1))

  pub there : {i : ℕ} → among rs (first_at p rs) ≡ Some i → is_found (look p rs) ≡ true
  there e = found_is p rs ∙ (at_first e).1

  pub missing : among rs (first_at p rs) ≡ None → look p rs ≡ None
  missing e = cases (ltb (first_at p rs) (length rs)) (λ l. absurd (cc (rw l at e))) (λ l. look_none p rs (ltb-false _ _ l))

  pub stored : (used : A → Bool) (a : A) {i : ℕ} → among rs (first_at p rs) ≡ Some i → store p used a rs ≡ set rs i a
  unfolding store place
  stored used a e = let f = at_first e in rw (f.1, f.0)

  passes : {i : ℕ} (d : A) → among rs (first_at p rs) ≡ Some i → p (get_or rs i d) ≡ true
  passes d e = let f = at_first e in rw (← f.0) (first_at_passes p rs d (ltb-true _ _ f.1))

-- a pair that keeps its LPI in another collection
pub moved : (d : ItsDeviceId) (e : EventId) (c : CollectionId) (ts : List Translation) {i : ℕ} (z : Translation) → among ts (first_at (is_pair d e) ts) ≡ Some i →
    store (is_pair d e) (λ r. r.used) (a_translation d e (get_or ts i z).lpi c) ts ≡
    set ts i (record {
      device = (get_or ts i z).device;
      event = (get_or ts i z).event;
      lpi = (get_or ts i z).lpi;
      collection = c;
      used = (get_or ts i z).used;
    })
moved d e c ts {i} z h =
    let k = passes (is_pair d e) ts z h in
    rw (pair_used d e (get_or ts i z) k, pair_has_device d e (get_or ts i z) k, pair_has_event d e (get_or ts i z) k)
    (stored (is_pair d e) ts (λ r. r.used) (a_translation d e (get_or ts i z).lpi c) h)

-- for a command that reads or stores where its search came to
pub ruleset searches = (found, there, missing, moved)
