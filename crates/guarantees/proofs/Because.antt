-- A command is refused for a reason exactly if what the reason says holds (Reasons.Because), and a write that a command stops tells its reason.
-- Assumes nothing.
use Rattle.std.specs.Prelude.{Err, None, Ok, Option, Some}
use Prim.Native.Nat.{ℕ, ◌≤◌, ◌<◌, ◌^◌}
use lib.Dec.{ltb}
use borrow.Author.Tests.{ltb-true, ltb-false, lt-ltb, le-ltb, not-true, not-false}
use mathlib.Core.Path.{◌≡◌, refl, sym, subst}
use mathlib.Core.Bool.{Bool, true, false, not}
use mathlib.Core.List.{List}
use mathlib.Core.Logic.{◌↔◌}
use Rattle.model.specs.declared.ItsDeviceId.{ItsDeviceId}
use Rattle.model.specs.declared.EventId.{EventId}
use Rattle.model.specs.declared.CollectionId.{CollectionId}
use Rattle.model.specs.declared.LpiId.{LpiId}
use Rattle.model.specs.declared.ItsDevice.{ItsDevice}
use Rattle.model.specs.declared.ItsState.{ItsState}
use Rattle.model.specs.declared.Command.{Command}
use Rattle.model.specs.declared.Command.TheVariants.{Mapd, Mapc, Mapti, Mapi, Movi, Int, Clear, Discard, Inv, Invall, Sync}
use Rattle.model.specs.declared.Refusal.{Refusal}
use Rattle.model.specs.declared.Refusal.TheVariants.{NotInWindow, OpcodeUnknown, LpiOutOfRange, DeviceUnmapped, EventBeyondBits, CollectionUnmapped, PairUnmapped, ProcessorUnlisted, DeviceTooLarge, ResourceNotFound, TableFull}
use Rattle.model.specs.Answer.{Decoded, Verdict}
use Rattle.model.specs.Choose.{◌or◌then◌, if_found, is_found}
use Rattle.model.specs.Config.{listed}
use Rattle.model.specs.Decode.{opcode_of, decode}
use Rattle.model.specs.Profile.{is_strict}
use Rattle.model.specs.Step.{device_of, collection_of, translation_of, delivery_in, lpi_in_range, event_below, device_mapped, event_fits, collection_mapped, pair_mapped, pair_translates, room_for_device, room_for_collection, room_for_pair, check_mapping, check, device_named, too_large, names_too_large, check_in01}
use Rattle.model.specs.Queue.{Window, command_at, command_address, stays, judged, turn_on, turn}
use Rattle.model.proofs.Cases.{cases, never, found, and_left, and_right}
use Rattle.model.proofs.Profiles.{is_strict_lem}
use Rattle.guarantees.specs.Refusals.{at_command, given_at, IfRefused}
use Rattle.guarantees.specs.Reasons.{MapsPair, mapti, mapi, LpiHeld, DeviceHeld, BecauseIn01, TooLarge, Because, above_16_bits, in_01, lpi, device, event, collection, movi_collection, invall_collection, movi_pair, discard_pair, inv_pair, processor, int_nowhere, clear_nowhere, devices_full, collections_full, pairs_full, CommandRead, Told, not_there, opcode_unknown, because}
use Rattle.guarantees.specs.Theorems.{OfEveryWrite}
use Rattle.guarantees.proofs.Refused.{refusal_kept}

-- what was not found is nothing
missing : {A : Type 0} (o : Option A) → is_found o ≡ false → o ≡ None
missing None h = refl
missing (Some a) h = never true refl h

-- where checks refuse, the first one fails and gives the reason, or it holds and one of the others does
first : (Q : Refusal → Type 0) (b : Bool) (own : Refusal) (rest : Verdict) {why : Refusal} → (b or Err own then rest) ≡ Err why →
    (b ≡ false → Q own) → (b ≡ true → rest ≡ Err why → Q why) → Q why
first Q true own rest h f g = g refl h
first Q false own rest {why} h f g = let same : own ≡ why = cc in subst Q same (f refl)

-- and after the last one nothing refuses
no_more : {P : Type 0} {why : Refusal} → ◌≡◌ {A = Verdict} (Ok tt) (Err why) → P
no_more h = never true refl (cc)

module _ (u : ItsState) where
  fits : (o : Option ItsDevice) (e : EventId) {r : ItsDevice} → o ≡ Some r → if_found o (λ q. event_below q.event_bits e) false ≡ true → e.0 < 2 ^ r.event_bits
  unfolding event_below
  fits o e s h = ltb-true _ _ (rw s at h)

  beyond : (o : Option ItsDevice) (e : EventId) {r : ItsDevice} → o ≡ Some r → if_found o (λ q. event_below q.event_bits e) false ≡ false → 2 ^ r.event_bits ≤ e.0
  unfolding event_below
  beyond o e s h = ltb-false _ _ (rw s at h)

  mapping : {x : Command} {d : ItsDeviceId} {e : EventId} {l : LpiId} {c : CollectionId} {why : Refusal} →
      MapsPair x d e l c → check_mapping u d e l c ≡ Err why → BecauseIn01 u x why
  unfolding check_mapping
  mapping {x} {d} {e} {l} {c} m h =
      first (BecauseIn01 u x) (lpi_in_range u.config l) LpiOutOfRange _ h (λ fails. lpi m fails) (λ ok h.
      let held : LpiHeld u x d e l c = record { maps = m; in_range = ok } in
      first (BecauseIn01 u x) (device_mapped u d) DeviceUnmapped _ h (λ fails. device held (missing (device_of u d) fails)) (λ ok h.
      let (r, is) = found (device_of u d) ok in
      let there : DeviceHeld u x d e l c r = record { lpi = held; mapped = is } in
      first (BecauseIn01 u x) (event_fits u d e) EventBeyondBits _ h (λ fails. event there (beyond (device_of u d) e is fails)) (λ ok h.
      let below = fits (device_of u d) e is ok in
      first (BecauseIn01 u x) (collection_mapped u c) CollectionUnmapped _ h (λ fails. collection there below (missing (collection_of u c) fails)) (λ ok h.
      let (k, in-it) = found (collection_of u c) ok in
      first (BecauseIn01 u x) (room_for_pair u d e) TableFull _ h (λ fails. pairs_full there below in-it fails) (λ ok h. no_more h)))))

  because_in_01 : (x : Command) (why : Refusal) → check_in01 u x ≡ Err why → BecauseIn01 u x why
  because_in_01 (Mapd d bits true) why h = first (BecauseIn01 u (Mapd d bits true)) (room_for_device u d) TableFull _ h (λ fails. devices_full fails) (λ ok h. no_more h)
  because_in_01 (Mapd d bits false) why h = no_more h
  because_in_01 (Mapc c p true) why h =
      first (BecauseIn01 u (Mapc c p true)) (listed u.config p) ProcessorUnlisted _ h (λ fails. processor fails) (λ ok h.
      first (BecauseIn01 u (Mapc c p true)) (room_for_collection u c) TableFull _ h (λ fails. collections_full ok fails) (λ ok h. no_more h))
  because_in_01 (Mapc c p false) why h = no_more h
  because_in_01 (Mapti d e l c) why h = mapping mapti h
  because_in_01 (Mapi d e c) why h = mapping mapi h
  because_in_01 (Movi d e c) why h =
      first (BecauseIn01 u (Movi d e c)) (collection_mapped u c) CollectionUnmapped _ h (λ fails. movi_collection (missing (collection_of u c) fails)) (λ ok h.
      let (k, in-it) = found (collection_of u c) ok in
      first (BecauseIn01 u (Movi d e c)) (pair_mapped u d e) PairUnmapped _ h (λ fails. movi_pair in-it (missing (translation_of u d e) fails)) (λ ok h. no_more h))
  because_in_01 (Int d e) why h =
      first (BecauseIn01 u (Int d e)) (pair_translates u d e) ResourceNotFound _ h (λ fails. int_nowhere (missing (delivery_in u d e) fails)) (λ ok h. no_more h)
  because_in_01 (Clear d e) why h =
      first (BecauseIn01 u (Clear d e)) (pair_translates u d e) ResourceNotFound _ h (λ fails. clear_nowhere (missing (delivery_in u d e) fails)) (λ ok h. no_more h)
  because_in_01 (Discard d e) why h =
      first (BecauseIn01 u (Discard d e)) (pair_mapped u d e) PairUnmapped _ h (λ fails. discard_pair (missing (translation_of u d e) fails)) (λ ok h. no_more h)
  because_in_01 (Inv d e) why h =
      first (BecauseIn01 u (Inv d e)) (pair_mapped u d e) PairUnmapped _ h (λ fails. inv_pair (missing (translation_of u d e) fails)) (λ ok h. no_more h)
  because_in_01 (Invall c) why h =
      first (BecauseIn01 u (Invall c)) (collection_mapped u c) CollectionUnmapped _ h (λ fails. invall_collection (missing (collection_of u c) fails)) (λ ok h. no_more h)
  because_in_01 Sync why h = no_more h

  -- Back: what the reason says is what the check finds.

  checked : {x : Command} {d : ItsDeviceId} {e : EventId} {l : LpiId} {c : CollectionId} → MapsPair x d e l c → check_in01 u x ≡ check_mapping u d e l c
  checked mapti = refl
  checked mapi = refl

  refused_in_01 : {x : Command} {why : Refusal} → BecauseIn01 u x why → check_in01 u x ≡ Err why
  unfolding check_mapping event_below
  refused_in_01 (lpi m fails) = rw (checked m, fails)
  refused_in_01 (device h fails) = rw (checked h.maps, h.in_range, fails)
  refused_in_01 (event h fails) = rw (checked h.lpi.maps, h.lpi.in_range, h.mapped, le-ltb _ _ fails)
  refused_in_01 (collection h below fails) = rw (checked h.lpi.maps, h.lpi.in_range, h.mapped, lt-ltb _ _ below, fails)
  refused_in_01 (movi_collection fails) = rw fails
  refused_in_01 (invall_collection fails) = rw fails
  refused_in_01 (movi_pair in-it fails) = rw (in-it, fails)
  refused_in_01 (discard_pair fails) = rw fails
  refused_in_01 (inv_pair fails) = rw fails
  refused_in_01 (processor fails) = rw fails
  refused_in_01 (int_nowhere fails) = rw fails
  refused_in_01 (clear_nowhere fails) = rw fails
  refused_in_01 (devices_full fails) = rw fails
  refused_in_01 (collections_full is fails) = rw (is, fails)
  refused_in_01 (pairs_full h below in-it fails) = rw (checked h.lpi.maps, h.lpi.in_range, h.mapped, lt-ltb _ _ below, in-it, fails)

  -- The first check of all.

  large_so : {x : Command} → TooLarge u x → names_too_large u.config x ≡ true
  unfolding too_large
  large_so t = rw (t.named, is_strict_lem u.config t.profile, lt-ltb _ _ t.above)

  so_large : (x : Command) → names_too_large u.config x ≡ true → TooLarge u x
  unfolding too_large
  so_large x h = go (device_named x) refl h
    where
      go : (o : Option ItsDeviceId) → device_named x ≡ o → if_found o (too_large u.config) false ≡ true → TooLarge u x
      go None q h = never true refl (sym h)
      go (Some d) q h = record { profile = rw (and_left (is_strict u.config.profile) (ltb 65535 d.0) h); device = d; named = q; above = ltb-true _ _ (and_right (is_strict u.config.profile) _ h) }

  small_so : (x : Command) → (TooLarge u x → ⊥) → names_too_large u.config x ≡ false
  small_so x n = cases (names_too_large u.config x) (λ y. absurd (n (so_large x y))) (λ z. z)

  because_of : (x : Command) (why : Refusal) → check u x ≡ Err why → Because u x why
  because_of x why h =
      first (Because u x) (not (names_too_large u.config x)) DeviceTooLarge _ h
      (λ fails. above_16_bits (so_large x (not-false _ fails)))
      (λ ok h. in_01 (λ t. never _ (large_so t) (not-true _ ok)) (because_in_01 x why h))

  refused_so : {x : Command} {why : Refusal} → Because u x why → check u x ≡ Err why
  refused_so (above_16_bits t) = rw (large_so t)
  refused_so {x} (in_01 small b) = rw (small_so x small) (refused_in_01 b)

  -- The command on which CREADR stands.

  module _ (w : Window) where
    stay_verdict : (v : Verdict) (x : Command) (opcode told : ℕ) (why : Refusal) → judged v x opcode ≡ stays why told → (v ≡ Err why) × (opcode ≡ told)
    stay_verdict (Ok _) x opcode told why h = never true refl (cc)
    stay_verdict (Err own) x opcode told why h = (cc, cc)

    stay_decoded : (ws : List ℕ) (k : Decoded) (opcode : ℕ) (why : Refusal) → CommandRead w u ws → decode ws ≡ k → turn_on u (opcode_of ws) k ≡ stays why opcode → Told w u why opcode
    stay_decoded ws (Ok x) opcode why there is h =
        let (fails, same) = stay_verdict (check u x) x (opcode_of ws) opcode why h in
        rw (← same) (because there is (because_of x why fails))
    stay_decoded ws (Err n) opcode why there is h =
        let same : OpcodeUnknown ≡ why = cc in
        let told : opcode_of ws ≡ opcode = cc in
        rw (← same, ← told) (opcode_unknown there is)

    stay_words : (o : Option (List ℕ)) (why : Refusal) (opcode : ℕ) → command_at w (command_address u.registers u.registers.creadr) ≡ o →
        if_found o (λ ws. turn_on u (opcode_of ws) (decode ws)) (stays NotInWindow 0) ≡ stays why opcode → Told w u why opcode
    stay_words None why opcode there h =
        let same : NotInWindow ≡ why = cc in
        let told : ◌≡◌ {A = ℕ} 0 opcode = cc in
        rw (← same, ← told) (not_there there)
    stay_words (Some ws) why opcode there h = stay_decoded ws (decode ws) opcode why there refl h

    told : (why : Refusal) (opcode : ℕ) → turn w u ≡ stays why opcode → Told w u why opcode
    unfolding turn
    told why opcode h = stay_words (command_at w (command_address u.registers u.registers.creadr)) why opcode refl h

-- and back
told_so : (u : ItsState) (w : Window) {why : Refusal} {opcode : ℕ} → Told w u why opcode → turn w u ≡ stays why opcode
unfolding turn
told_so u w (not_there h) = rw h
told_so u w (opcode_unknown there is) = rw (there, is)
told_so u w (because there is why) = rw (there, is, refused_so u why)

pub refused_because : (u : ItsState) (x : Command) (why : Refusal) → (check u x ≡ Err why) ↔ Because u x why
refused_because u x why = (because_of u x why, refused_so u)

pub stops_because : (w : Window) (u : ItsState) (why : Refusal) (opcode : ℕ) → (turn w u ≡ stays why opcode) ↔ Told w u why opcode
stops_because w u why opcode = (told u w why opcode, told_so u w)

pub reason_told : OfEveryWrite (λ w row u offset width value r left.
    (why : Refusal) → given_at why ≡ at_command → IfRefused r why (λ opcode at done actions. Told w r.unit why opcode))
reason_told w row u offset width value r left h why g opcode at done actions a =
    told r.unit w why opcode ((refusal_kept w row u offset width value r left h).at_a_command why g opcode at done actions a).fails
