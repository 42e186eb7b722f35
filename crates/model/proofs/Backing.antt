-- Each pair in force is backed: its LPI is in range, its device and its collection are mapped, and every mapped collection's processor is listed. In
-- strict its event lies below its device's capacity too, and no device above 65535 is mapped. Each accepted command keeps that.
-- Assumes nothing.
use Rattle.std.specs.Prelude.{if◌then◌else◌, Err, None, Option, Some}
use Prim.Native.Nat.{ℕ}
use mathlib.Core.Path.{◌≡◌, refl, sym, subst, ◌∙◌}
use mathlib.Core.Bool.{Bool, true, false, ◌&&◌, not}
use mathlib.Core.List.{List, [], ◌∷◌}
use lib.Dec.{ltb}
use Rattle.model.specs.declared.ItsDeviceId.{ItsDeviceId}
use Rattle.model.specs.declared.EventId.{EventId}
use Rattle.model.specs.declared.CollectionId.{CollectionId}
use Rattle.model.specs.declared.LpiId.{LpiId}
use Rattle.model.specs.declared.GicVcpuId.{GicVcpuId}
use Rattle.model.specs.declared.ItsDevice.{ItsDevice}
use Rattle.model.specs.declared.ItsConfig.{ItsConfig}
use Rattle.model.specs.declared.ItsState.{ItsState}
use Rattle.model.specs.declared.Command.{Command}
use Rattle.model.specs.declared.Command.TheVariants.{Mapd, Mapc, Mapti, Mapi, Movi, Int, Clear, Discard, Inv, Invall, Sync}
use Rattle.model.specs.declared.Refusal.TheVariants.{CollectionUnmapped, ProcessorUnlisted, DeviceTooLarge}
use Rattle.model.specs.Choose.{when_found, if_found, is_found}
use Rattle.model.specs.Keys.{same_device, same_collection, same_pair, event_as_lpi}
use Rattle.model.specs.Profile.{Profile, base, strict, is_strict, profile_of, mapd_ends}
use Rattle.model.specs.Config.{listed}
use Rattle.model.specs.Step.{device_of, collection_of, lpi_in_range, event_below, device_mapped, event_fits, collection_mapped, check_mapping, check_in01, too_large, is_accepted, accepts}
use Rattle.model.specs.History.{of_device_says, device_now, of_collection_says, collection_now, Part, maps, moves, ends, ends_in, leaves, part_in, PairEntry, an_entry, pair_after, pair_now}
use Rattle.model.proofs.Cases.{cases, never, found_when}
use Rattle.model.proofs.KeyLaws.{eqb_sym, device_eq, pair_device, pair_event}
use Rattle.model.proofs.Effects.{entry_in, Clean, allowed, passed, own}
use Rattle.model.proofs.Agreement.{Agrees}

-- Where a pair that is there after a command comes from.
abbrev pub Came : Part → Option PairEntry → PairEntry → Type 0
Came (maps l c) o x = x ≡ an_entry l c
Came (moves c) o x = (y : PairEntry) × (o ≡ Some y) × (x ≡ an_entry y.lpi c)
Came ends o x = ⊥
Came (ends_in c) o x = (o ≡ Some x) × (same_collection x.collection c ≡ false)
Came leaves o x = o ≡ Some x

pub came : (p : Part) (o : Option PairEntry) (x : PairEntry) → pair_after p o ≡ Some x → Came p o x
came (maps l c) o x h = cc
came (moves c) None x h = never true refl (cc)
came (moves c) (Some y) x h = (y, refl, (cc))
came ends o x h = never true refl (cc)
came (ends_in c) None x h = never true refl (cc)
came (ends_in c) (Some y) x h =
    cases (same_collection y.collection c)
    (λ s. let n : ◌≡◌ {A = Option PairEntry} None (Some x) = rw s at h in never true refl (cc))
    (λ s. let n : ◌≡◌ {A = Option PairEntry} (Some y) (Some x) = rw s at h in
    let yx : y ≡ x = cc in
    (n, rw yx at s))
came leaves o x h = h

-- A pair in force with the entry x, whose device has these event bits and whose collection this processor, by the history.
pub record Behind (k : ItsConfig) (bits : Option ℕ) (p : Option GicVcpuId) (x : PairEntry) : Type 0 where
  pub range : lpi_in_range k x.lpi ≡ true
  pub device : is_found bits ≡ true
  pub collection : is_found p ≡ true

pub record Sound (k : ItsConfig) (h : List Command) : Type 0 where
  pub behind : (d : ItsDeviceId) (e : EventId) (x : PairEntry) → pair_now (profile_of k) d e h ≡ Some x → Behind k (device_now d h) (collection_now x.collection h) x
  pub processors : (c : CollectionId) (p : GicVcpuId) → collection_now c h ≡ Some p → listed k p ≡ true
  pub below : is_strict k.profile ≡ true → (d : ItsDeviceId) (e : EventId) (x : PairEntry) → pair_now (profile_of k) d e h ≡ Some x →
      (bits : ℕ) → device_now d h ≡ Some bits → event_below bits e ≡ true
  pub announced : is_strict k.profile ≡ true → (d : ItsDeviceId) (bits : ℕ) → device_now d h ≡ Some bits → ltb 65535 d.0 ≡ false

pub sound_fresh : (k : ItsConfig) → Sound k []
sound_fresh k =
    record {
      behind = λ d e x h. never true refl (cc);
      processors = λ c p h. never true refl (cc);
      below = λ s d e x h. never true refl (cc);
      announced = λ s d bits h. never true refl (cc);
    }

-- an invalid MAPD ends pairs in both profiles
pub always : (f : Profile) → mapd_ends f false ≡ true
always base = refl
always strict = refl

module _ (u : ItsState) (h : List Command) (agrees : Agrees h u) (sound : Sound u.config h) where
  -- the pairs in force, of the unit's profile
  abbrev pairs : ItsDeviceId → EventId → Option PairEntry
  pairs d e = pair_now (profile_of u.config) d e h

  -- what a check found in the unit, the history has
  device_now_lem : (d : ItsDeviceId) → device_mapped u d ≡ true → is_found (device_now d h) ≡ true
  device_now_lem d m = rw (← (agrees.devices d)) (found_when (device_of u d) (λ r. r.event_bits) ∙ m)

  collection_now_lem : (c : CollectionId) → collection_mapped u c ≡ true → is_found (collection_now c h) ≡ true
  collection_now_lem c m = rw (← (agrees.collections c)) (found_when (collection_of u c) (λ r. r.target) ∙ m)

  -- after a MAPTI or MAPI
  mapped : (d' : ItsDeviceId) (e' : EventId) (l : LpiId) (c : CollectionId) → is_accepted (check_mapping u d' e' l c) ≡ true →
      (d : ItsDeviceId) (e : EventId) (y : PairEntry) → pair_after (if same_pair d' e' d e then maps l c else leaves) (pairs d e) ≡ Some y →
      Behind u.config (device_now d h) (collection_now y.collection h) y
  mapped d' e' l c ok d e y q =
      cases (same_pair d' e' d e)
      (λ s. let k : y ≡ an_entry l c = came (maps l c) (pairs d e) y (rw s at q) in
      let a = allowed u d' e' l c ok in
      record {
        range = rw k a.range;
        device = rw (← (pair_device d' e' d e s)) (device_now_lem d' a.device);
        collection = rw k (collection_now_lem c a.collection);
      })
      (λ s. sound.behind d e y (rw s at q))

  -- each pair that is held is of a mapped device
  homed : (d : ItsDeviceId) (e : EventId) (y : PairEntry) → entry_in u d e ≡ Some y → device_mapped u d ≡ true
  homed d e y q =
      sym (found_when (device_of u d) (λ r. r.event_bits)) ∙ rw (agrees.devices d) (sound.behind d e y (sym (agrees.pairs d e) ∙ q)).device

  pub clean : (x : Command) → Clean u x
  clean x d bits m n e = go (entry_in u d e) refl
    where
      go : (o : Option PairEntry) → entry_in u d e ≡ o → o ≡ None
      go None q = refl
      go (Some y) q = never (device_mapped u d) (homed d e y q) n

  pub behind_step : (x : Command) → accepts u x ≡ true → (d : ItsDeviceId) (e : EventId) (y : PairEntry) → pair_now (profile_of u.config) d e (x ∷ h) ≡ Some y →
      Behind u.config (device_now d (x ∷ h)) (collection_now y.collection (x ∷ h)) y
  unfolding of_device_says of_collection_says part_in
  behind_step (Mapd d' bits true) ok d e y q =
      cases (mapd_ends (profile_of u.config) true && same_device d' d)
      (λ s. absurd (came ends (pairs d e) y (rw s at q)))
      (λ s. let b = sound.behind d e y (rw s at q) in
      record { range = b.range; device = cases (same_device d' d) (λ z. rw z) (λ z. rw z b.device); collection = b.collection })
  behind_step (Mapd d' bits false) ok d e y q =
      cases (same_device d' d) (λ s. absurd (came ends (pairs d e) y (rw (always (profile_of u.config), s) at q)))
      (λ s. let b = sound.behind d e y (rw (always (profile_of u.config), s) at q) in
      record { range = b.range; device = rw s b.device; collection = b.collection })
  behind_step (Mapc c p true) ok d e y q =
      let b = sound.behind d e y q in
      record { range = b.range; device = b.device; collection = cases (same_collection c y.collection) (λ s. rw s) (λ s. rw s b.collection) }
  behind_step (Mapc c p false) ok d e y q =
      let (o, s) = came (ends_in c) (pairs d e) y q in
      let b = sound.behind d e y o in
      record { range = b.range; device = b.device; collection = rw (eqb_sym c.0 y.collection.0, s) b.collection }
  behind_step (Mapti d' e' l c) ok d e y q = mapped d' e' l c (own u (Mapti d' e' l c) ok) d e y q
  behind_step (Mapi d' e' c) ok d e y q = mapped d' e' (event_as_lpi e') c (own u (Mapi d' e' c) ok) d e y q
  behind_step (Movi d' e' c) ok d e y q =
      cases (same_pair d' e' d e)
      (λ s. let (z, o, k) = came (moves c) (pairs d e) y (rw s at q) in
      let b = sound.behind d e z o in
      record {
        range = rw k b.range;
        device = b.device;
        collection =
            subst (λ z. is_found (collection_now z.collection (Movi d' e' c ∷ h)) ≡ true) (sym k)
            (collection_now_lem c (passed (collection_mapped u c) (Err CollectionUnmapped) _ refl (own u (Movi d' e' c) ok)).0);
      })
      (λ s. sound.behind d e y (rw s at q))
  behind_step (Int d' e') ok d e y q = sound.behind d e y q
  behind_step (Clear d' e') ok d e y q = sound.behind d e y q
  behind_step (Discard d' e') ok d e y q =
      cases (same_pair d' e' d e) (λ s. absurd (came ends (pairs d e) y (rw s at q)))
      (λ s. sound.behind d e y (rw s at q))
  behind_step (Inv d' e') ok d e y q = sound.behind d e y q
  behind_step (Invall c) ok d e y q = sound.behind d e y q
  behind_step Sync ok d e y q = sound.behind d e y q

  pub processors_step : (x : Command) → accepts u x ≡ true → (c : CollectionId) (p : GicVcpuId) → collection_now c (x ∷ h) ≡ Some p → listed u.config p ≡ true
  unfolding of_collection_says
  processors_step (Mapd d bits valid) ok c p q = sound.processors c p q
  processors_step (Mapc c' p' true) ok c p q =
      cases (same_collection c' c)
      (λ s. let n : ◌≡◌ {A = Option GicVcpuId} (Some p') (Some p) = rw s at q in
      let k : p' ≡ p = cc in
      rw (← k) (passed (listed u.config p') (Err ProcessorUnlisted) _ refl (own u (Mapc c' p' true) ok)).0)
      (λ s. sound.processors c p (rw s at q))
  processors_step (Mapc c' p' false) ok c p q =
      cases (same_collection c' c)
      (λ s. let n : ◌≡◌ {A = Option GicVcpuId} None (Some p) = rw s at q in never true refl (cc))
      (λ s. sound.processors c p (rw s at q))
  processors_step (Mapti d e l c') ok c p q = sound.processors c p q
  processors_step (Mapi d e c') ok c p q = sound.processors c p q
  processors_step (Movi d e c') ok c p q = sound.processors c p q
  processors_step (Int d e) ok c p q = sound.processors c p q
  processors_step (Clear d e) ok c p q = sound.processors c p q
  processors_step (Discard d e) ok c p q = sound.processors c p q
  processors_step (Inv d e) ok c p q = sound.processors c p q
  processors_step (Invall c') ok c p q = sound.processors c p q
  processors_step Sync ok c p q = sound.processors c p q

  -- In strict the capacity of a device changes only where its pairs end, and a MAPTI or MAPI is tested against it.
  module _ (s : is_strict u.config.profile ≡ true) where
    abbrev Below : Command → Type 0
    Below x = (d : ItsDeviceId) (e : EventId) (y : PairEntry) → pair_now (profile_of u.config) d e (x ∷ h) ≡ Some y →
        (bits : ℕ) → device_now d (x ∷ h) ≡ Some bits → event_below bits e ≡ true

    -- a pair that was there before
    before : (d : ItsDeviceId) (e : EventId) (y : PairEntry) → pairs d e ≡ Some y → (bits : ℕ) → device_now d h ≡ Some bits → event_below bits e ≡ true
    before = sound.below s

    -- the event that a check let pass
    let_pass : (d : ItsDeviceId) (e : EventId) → event_fits u d e ≡ true → (bits : ℕ) → device_now d h ≡ Some bits → event_below bits e ≡ true
    let_pass d e fits bits m = go (device_of u d) fits (agrees.devices d ∙ m)
      where
        go : (o : Option ItsDevice) → if_found o (λ r. event_below r.event_bits e) false ≡ true → when_found o (λ r. Some r.event_bits) ≡ Some bits → event_below bits e ≡ true
        go None f q = never true refl (sym f)
        go (Some r) f q = let same : r.event_bits ≡ bits = cc in rw (← same) f

    mapped_below : (d' : ItsDeviceId) (e' : EventId) (l : LpiId) (c : CollectionId) → is_accepted (check_mapping u d' e' l c) ≡ true →
        (d : ItsDeviceId) (e : EventId) (y : PairEntry) → pair_after (if same_pair d' e' d e then maps l c else leaves) (pairs d e) ≡ Some y →
        (bits : ℕ) → device_now d h ≡ Some bits → event_below bits e ≡ true
    mapped_below d' e' l c ok d e y q bits m =
        cases (same_pair d' e' d e)
        (λ z. let_pass d e (rw (pair_device d' e' d e z, pair_event d' e' d e z) at (allowed u d' e' l c ok).event) bits m)
        (λ z. before d e y (rw z at q) bits m)

    any_ends : (valid : Bool) → mapd_ends (profile_of u.config) valid ≡ true
    any_ends valid = rw s

    mapd_below : (d' : ItsDeviceId) (n : ℕ) (valid : Bool) → Below (Mapd d' n valid)
    unfolding of_device_says part_in
    mapd_below d' n true d e y q bits m =
        cases (same_device d' d)
        (λ z. absurd (came ends (pairs d e) y (rw (any_ends true, z) at q)))
        (λ z. before d e y (rw (any_ends true, z) at q) bits (rw z at m))
    mapd_below d' n false d e y q bits m =
        cases (same_device d' d)
        (λ z. absurd (came ends (pairs d e) y (rw (any_ends false, z) at q)))
        (λ z. before d e y (rw (any_ends false, z) at q) bits (rw z at m))

    below_step : (x : Command) → accepts u x ≡ true → Below x
    unfolding of_device_says part_in
    below_step (Mapd d' n valid) ok d e y q bits m = mapd_below d' n valid d e y q bits m
    below_step (Mapc c p true) ok d e y q bits m = before d e y q bits m
    below_step (Mapc c p false) ok d e y q bits m = before d e y (came (ends_in c) (pairs d e) y q).0 bits m
    below_step (Mapti d' e' l c) ok d e y q bits m = mapped_below d' e' l c (own u (Mapti d' e' l c) ok) d e y q bits m
    below_step (Mapi d' e' c) ok d e y q bits m = mapped_below d' e' (event_as_lpi e') c (own u (Mapi d' e' c) ok) d e y q bits m
    below_step (Movi d' e' c) ok d e y q bits m =
        cases (same_pair d' e' d e)
        (λ z. let (b, o, k) = came (moves c) (pairs d e) y (rw z at q) in before d e b o bits m)
        (λ z. before d e y (rw z at q) bits m)
    below_step (Int d' e') ok d e y q bits m = before d e y q bits m
    below_step (Clear d' e') ok d e y q bits m = before d e y q bits m
    below_step (Discard d' e') ok d e y q bits m =
        cases (same_pair d' e' d e) (λ z. absurd (came ends (pairs d e) y (rw z at q))) (λ z. before d e y (rw z at q) bits m)
    below_step (Inv d' e') ok d e y q bits m = before d e y q bits m
    below_step (Invall c) ok d e y q bits m = before d e y q bits m
    below_step Sync ok d e y q bits m = before d e y q bits m

    -- a MAPD that is accepted names no device above 65535
    small_mapd : (d : ItsDeviceId) (n : ℕ) (valid : Bool) → accepts u (Mapd d n valid) ≡ true → ltb 65535 d.0 ≡ false
    unfolding too_large
    small_mapd d n valid ok =
        let small : not (too_large u.config d) ≡ true = (passed (not (too_large u.config d)) (Err DeviceTooLarge) (check_in01 u (Mapd d n valid)) refl ok).0 in
        let not_above : not (ltb 65535 d.0) ≡ true = rw s at small in
        cases (ltb 65535 d.0) (λ y. let z : not true ≡ true = rw y at not_above in never true refl (sym z)) (λ n. n)

    announced_step : (x : Command) → accepts u x ≡ true → (d : ItsDeviceId) (bits : ℕ) → device_now d (x ∷ h) ≡ Some bits → ltb 65535 d.0 ≡ false
    unfolding of_device_says
    announced_step (Mapd d' n true) ok d bits m =
        cases (same_device d' d) (λ z. rw (← (device_eq d' d z)) (small_mapd d' n true ok)) (λ z. sound.announced s d bits (rw z at m))
    announced_step (Mapd d' n false) ok d bits m =
        cases (same_device d' d)
        (λ z. let no : ◌≡◌ {A = Option ℕ} None (Some bits) = rw z at m in never true refl (cc))
        (λ z. sound.announced s d bits (rw z at m))
    announced_step (Mapc c p valid) ok d bits m = sound.announced s d bits m
    announced_step (Mapti d' e l c) ok d bits m = sound.announced s d bits m
    announced_step (Mapi d' e c) ok d bits m = sound.announced s d bits m
    announced_step (Movi d' e c) ok d bits m = sound.announced s d bits m
    announced_step (Int d' e) ok d bits m = sound.announced s d bits m
    announced_step (Clear d' e) ok d bits m = sound.announced s d bits m
    announced_step (Discard d' e) ok d bits m = sound.announced s d bits m
    announced_step (Inv d' e) ok d bits m = sound.announced s d bits m
    announced_step (Invall c) ok d bits m = sound.announced s d bits m
    announced_step Sync ok d bits m = sound.announced s d bits m

  pub sound_step : (x : Command) → accepts u x ≡ true → Sound u.config (x ∷ h)
  sound_step x ok =
      record { behind = behind_step x ok; processors = processors_step x ok; below = λ s. below_step s x ok; announced = λ s. announced_step s x ok }
