-- A command that stays is never refused with 1 or 5: no check of a command answers one of these.
-- Assumes nothing.
use Rattle.std.specs.Prelude.{Err, None, Ok, Option, Some}
use Prim.Native.Nat.{ℕ}
use mathlib.Core.Path.{◌≡◌, refl, subst}
use mathlib.Core.Bool.{Bool, true, false, ◌&&◌, not}
use mathlib.Core.List.{List}
use lib.Dec.{eqb}
use Rattle.model.specs.declared.ItsDeviceId.{ItsDeviceId}
use Rattle.model.specs.declared.EventId.{EventId}
use Rattle.model.specs.declared.CollectionId.{CollectionId}
use Rattle.model.specs.declared.LpiId.{LpiId}
use Rattle.model.specs.declared.ItsState.{ItsState}
use Rattle.model.specs.declared.Command.{Command}
use Rattle.model.specs.declared.Command.TheVariants.{Mapd, Mapc, Mapti, Mapi, Movi, Int, Clear, Discard, Inv, Invall, Sync}
use Rattle.model.specs.declared.Refusal.{Refusal}
use Rattle.model.specs.declared.Refusal.TheVariants.{NotInWindow, LpiOutOfRange, DeviceUnmapped, EventBeyondBits, CollectionUnmapped, PairUnmapped, ProcessorUnlisted, DeviceTooLarge, ResourceNotFound, TableFull}
use Rattle.model.specs.Answer.{Decoded, Verdict}
use Rattle.model.specs.Choose.{◌or◌then◌, if_found}
use Rattle.model.specs.Refusal.{verdict_number}
use Rattle.model.specs.Keys.{event_as_lpi}
use Rattle.model.specs.Config.{listed}
use Rattle.model.specs.Decode.{opcode_of, decode}
use Rattle.model.specs.Step.{lpi_in_range, device_mapped, event_fits, collection_mapped, pair_mapped, pair_translates, room_for_device, room_for_collection, room_for_pair, check_mapping, check_in01, names_too_large, check}
use Rattle.model.specs.Queue.{Window, command_at, command_address, Turn, passes, stays, judged, turn_on, turn}

-- the number is neither 1 nor 5
abbrev pub apart : Verdict → Bool
apart v = not (eqb (verdict_number v) 1) && not (eqb (verdict_number v) 5)

-- a check with such a refusal, and others after it
pub check_apart : (b : Bool) (r : Refusal) (k : Verdict) → apart (Err r) ≡ true → apart k ≡ true → apart (b or Err r then k) ≡ true
check_apart true r k h i = i
check_apart false r k h i = h

module _ (u : ItsState) where
  mapping_apart : (d : ItsDeviceId) (e : EventId) (l : LpiId) (c : CollectionId) → apart (check_mapping u d e l c) ≡ true
  unfolding check_mapping
  mapping_apart d e l c =
      check_apart (lpi_in_range u.config l) LpiOutOfRange _ refl
      (check_apart (device_mapped u d) DeviceUnmapped _ refl
      (check_apart (event_fits u d e) EventBeyondBits _ refl
      (check_apart (collection_mapped u c) CollectionUnmapped _ refl
      (check_apart (room_for_pair u d e) TableFull _ refl refl))))

  in_01_apart : (x : Command) → apart (check_in01 u x) ≡ true
  in_01_apart (Mapd d bits true) = check_apart (room_for_device u d) TableFull _ refl refl
  in_01_apart (Mapd d bits false) = refl
  in_01_apart (Mapc c p true) =
      check_apart (listed u.config p) ProcessorUnlisted _ refl (check_apart (room_for_collection u c) TableFull _ refl refl)
  in_01_apart (Mapc c p false) = refl
  in_01_apart (Mapti d e l c) = mapping_apart d e l c
  in_01_apart (Mapi d e c) = mapping_apart d e (event_as_lpi e) c
  in_01_apart (Movi d e c) =
      check_apart (collection_mapped u c) CollectionUnmapped _ refl (check_apart (pair_mapped u d e) PairUnmapped _ refl refl)
  in_01_apart (Int d e) = check_apart (pair_translates u d e) ResourceNotFound _ refl refl
  in_01_apart (Clear d e) = check_apart (pair_translates u d e) ResourceNotFound _ refl refl
  in_01_apart (Discard d e) = check_apart (pair_mapped u d e) PairUnmapped _ refl refl
  in_01_apart (Inv d e) = check_apart (pair_mapped u d e) PairUnmapped _ refl refl
  in_01_apart (Invall c) = check_apart (collection_mapped u c) CollectionUnmapped _ refl refl
  in_01_apart Sync = refl

  command_apart : (x : Command) → apart (check u x) ≡ true
  command_apart x = check_apart (not (names_too_large u.config x)) DeviceTooLarge (check_in01 u x) refl (in_01_apart x)

  abbrev Stays : Turn → Type 0
  Stays (passes x) = Unit {0}
  Stays (stays r opcode) = apart (Err r) ≡ true

  stays_verdict : (v : Verdict) (x : Command) (opcode : ℕ) → apart v ≡ true → Stays (judged v x opcode)
  stays_verdict (Ok _) x opcode h = tt
  stays_verdict (Err r) x opcode h = h

  stays_decoded : (k : Decoded) (opcode : ℕ) → Stays (turn_on u opcode k)
  stays_decoded (Ok x) opcode = stays_verdict (check u x) x opcode (command_apart x)
  stays_decoded (Err n) opcode = refl

  stays_words : (o : Option (List ℕ)) → Stays (if_found o (λ ws. turn_on u (opcode_of ws) (decode ws)) (stays NotInWindow 0))
  stays_words None = refl
  stays_words (Some ws) = stays_decoded (decode ws) (opcode_of ws)

  pub staying : (w : Window) (r : Refusal) (opcode : ℕ) → turn w u ≡ stays r opcode → apart (Err r) ≡ true
  unfolding turn
  staying w r opcode h = subst Stays h (stays_words (command_at w (command_address u.registers u.registers.creadr)))
