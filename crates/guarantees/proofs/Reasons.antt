-- Which refusals come from where: a command that stays is refused for a command's reason, with its opcode; an access that fails its checks with 2 or
-- 3; a write before that with 1 or 10, and a sound unit not with 1.
-- Assumes nothing.
use Rattle.std.specs.Prelude.{Err, None, Ok, Option, Some}
use Prim.Native.Nat.{ℕ}
use mathlib.Core.Path.{◌≡◌, refl, subst}
use mathlib.Core.Bool.{Bool, true, false, not}
use mathlib.Core.List.{List}
use mathlib.Core.Logic.{◌⊎◌, inl, inr}
use lib.Dec.{leb}
use Rattle.model.specs.declared.ItsDeviceId.{ItsDeviceId}
use Rattle.model.specs.declared.EventId.{EventId}
use Rattle.model.specs.declared.CollectionId.{CollectionId}
use Rattle.model.specs.declared.LpiId.{LpiId}
use Rattle.model.specs.declared.ItsConfig.{ItsConfig}
use Rattle.model.specs.declared.ItsState.{ItsState}
use Rattle.model.specs.declared.Command.{Command}
use Rattle.model.specs.declared.Command.TheVariants.{Mapd, Mapc, Mapti, Mapi, Movi, Int, Clear, Discard, Inv, Invall, Sync}
use Rattle.model.specs.declared.Refusal.{Refusal}
use Rattle.model.specs.declared.Refusal.TheVariants.{Unsound, RowTooShort, InvalidAccess, Identification, NotInWindow}
use Rattle.model.specs.declared.Refusal.TheVariants.{LpiOutOfRange, DeviceUnmapped, EventBeyondBits, CollectionUnmapped, PairUnmapped, ProcessorUnlisted, DeviceTooLarge, ResourceNotFound, TableFull}
use Rattle.model.specs.Answer.{Decoded, Verdict}
use Rattle.model.specs.Choose.{◌or◌then◌, if_found}
use Rattle.model.specs.Arm.{is_identification}
use Rattle.model.specs.Keys.{event_as_lpi}
use Rattle.model.specs.Config.{listed, sound_unit}
use Rattle.model.specs.Decode.{opcode_of, decode}
use Rattle.model.specs.Step.{lpi_in_range, device_mapped, event_fits, collection_mapped, pair_mapped, pair_translates, room_for_device, room_for_collection, room_for_pair, check_mapping, check_in01, names_too_large, check}
use Rattle.model.specs.Queue.{Window, command_at, command_address, Turn, passes, stays, judged, turn_on, turn}
use Rattle.model.specs.Register.{register_at, takes_width}
use Rattle.model.specs.Access.{in_frame, check_access, check_read, check_write}
use Rattle.model.proofs.Cases.{never}
use Rattle.guarantees.specs.Refusals.{at_entry, at_command, given_at}

-- if it is a refusal, it is one of which P holds
abbrev pub Only : (Refusal → Type 0) → Verdict → Type 0
Only P (Ok _) = Unit {0}
Only P (Err why) = P why

-- a check with such a refusal, and others after it
check_only : (P : Refusal → Type 0) (b : Bool) (why : Refusal) (k : Verdict) → P why → Only P k → Only P (b or Err why then k)
check_only P true why k h i = i
check_only P false why k h i = h

-- A command.

abbrev Commands : Refusal → Type 0
Commands why = given_at why ≡ at_command

module _ (u : ItsState) where
  mapping_only : (d : ItsDeviceId) (e : EventId) (l : LpiId) (c : CollectionId) → Only Commands (check_mapping u d e l c)
  unfolding check_mapping
  mapping_only d e l c =
      check_only Commands (lpi_in_range u.config l) LpiOutOfRange _ refl
      (check_only Commands (device_mapped u d) DeviceUnmapped _ refl
      (check_only Commands (event_fits u d e) EventBeyondBits _ refl
      (check_only Commands (collection_mapped u c) CollectionUnmapped _ refl
      (check_only Commands (room_for_pair u d e) TableFull _ refl tt))))

  in_01_only : (x : Command) → Only Commands (check_in01 u x)
  in_01_only (Mapd d bits true) = check_only Commands (room_for_device u d) TableFull _ refl tt
  in_01_only (Mapd d bits false) = tt
  in_01_only (Mapc c p true) =
      check_only Commands (listed u.config p) ProcessorUnlisted _ refl
      (check_only Commands (room_for_collection u c) TableFull _ refl tt)
  in_01_only (Mapc c p false) = tt
  in_01_only (Mapti d e l c) = mapping_only d e l c
  in_01_only (Mapi d e c) = mapping_only d e (event_as_lpi e) c
  in_01_only (Movi d e c) =
      check_only Commands (collection_mapped u c) CollectionUnmapped _ refl
      (check_only Commands (pair_mapped u d e) PairUnmapped _ refl tt)
  in_01_only (Int d e) = check_only Commands (pair_translates u d e) ResourceNotFound _ refl tt
  in_01_only (Clear d e) = check_only Commands (pair_translates u d e) ResourceNotFound _ refl tt
  in_01_only (Discard d e) = check_only Commands (pair_mapped u d e) PairUnmapped _ refl tt
  in_01_only (Inv d e) = check_only Commands (pair_mapped u d e) PairUnmapped _ refl tt
  in_01_only (Invall c) = check_only Commands (collection_mapped u c) CollectionUnmapped _ refl tt
  in_01_only Sync = tt

  command_only : (x : Command) → Only Commands (check u x)
  command_only x = check_only Commands (not (names_too_large u.config x)) DeviceTooLarge (check_in01 u x) refl (in_01_only x)

  -- one that stays, with the opcode told
  abbrev Stays : ℕ → Turn → Type 0
  Stays told (passes x) = Unit {0}
  Stays told (stays why opcode) = (given_at why ≡ at_command) × (opcode ≡ told)

  stays_verdict : (v : Verdict) (x : Command) (opcode : ℕ) → Only Commands v → Stays opcode (judged v x opcode)
  stays_verdict (Ok _) x opcode h = tt
  stays_verdict (Err why) x opcode h = (h, refl)

  stays_decoded : (k : Decoded) (opcode : ℕ) → Stays opcode (turn_on u opcode k)
  stays_decoded (Ok x) opcode = stays_verdict (check u x) x opcode (command_only x)
  stays_decoded (Err n) opcode = (refl, refl)

  stays_words : (o : Option (List ℕ)) → Stays (if_found o opcode_of 0) (if_found o (λ ws. turn_on u (opcode_of ws) (decode ws)) (stays NotInWindow 0))
  stays_words None = (refl, refl)
  stays_words (Some ws) = stays_decoded (decode ws) (opcode_of ws)

  pub staying : (w : Window) (why : Refusal) (opcode : ℕ) → turn w u ≡ stays why opcode →
      (given_at why ≡ at_command) × (opcode ≡ if_found (command_at w (command_address u.registers u.registers.creadr)) opcode_of 0)
  unfolding turn
  staying w why opcode h =
      let there = command_at w (command_address u.registers u.registers.creadr) in
      subst (Stays (if_found there opcode_of 0)) h (stays_words there)

-- An access.

module _ (P : Refusal → Type 0) (two : P InvalidAccess) (three : P Identification) where
  access_only : (k : ItsConfig) (offset width : ℕ) → Only P (check_access k offset width)
  unfolding check_access
  access_only k offset width =
      check_only P (in_frame k offset width) InvalidAccess _ two
      (check_only P (not (is_identification offset)) Identification _ three
      (check_only P (takes_width (register_at offset) width) InvalidAccess _ two tt))

-- a read is refused with 1, 2 or 3
abbrev pub OfRead : Refusal → Type 0
OfRead why = (why ≡ Unsound) ⊎ ((why ≡ InvalidAccess) ⊎ (why ≡ Identification))

pub read_only : (u : ItsState) (offset width : ℕ) → Only OfRead (check_read u.config u.registers offset width)
unfolding check_read
read_only u offset width =
    check_only OfRead (sound_unit u) Unsound _ (inl refl) (access_only OfRead (inr (inl refl)) (inr (inr refl)) u.config offset width)

-- that of a sound unit not with 1
abbrev pub NotOne : Refusal → Type 0
NotOne why = why ≡ Unsound → ⊥

pub sound_read : (u : ItsState) (offset width : ℕ) → sound_unit u ≡ true → Only NotOne (check_read u.config u.registers offset width)
unfolding check_read
sound_read u offset width sound = rw sound (access_only NotOne (λ h. never true refl (cc)) (λ h. never true refl (cc)) u.config offset width)

-- the checks of a write refuse before anything is stored
abbrev pub Entries : Refusal → Type 0
Entries why = given_at why ≡ at_entry

module _ (u : ItsState) (room offset width : ℕ) where
  pub write_only : Only Entries (check_write u.config u.registers room offset width)
  unfolding check_write
  write_only =
      check_only Entries (sound_unit u) Unsound _ refl
      (check_only Entries (leb u.config.command_budget room) RowTooShort _ refl (access_only Entries refl refl u.config offset width))

  -- and those of a sound unit not with 1
  pub sound_only : sound_unit u ≡ true → Only NotOne (check_write u.config u.registers room offset width)
  unfolding check_write
  sound_only sound =
      rw sound
      (check_only NotOne (leb u.config.command_budget room) RowTooShort _ (λ h. never true refl (cc))
      (access_only NotOne (λ h. never true refl (cc)) (λ h. never true refl (cc)) u.config offset width))
