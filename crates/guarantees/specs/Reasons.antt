-- Document 02, A1 and A3: what the number of a refused command says, and exactly when it is said. The checks stand here one by one, each under the number
-- that it gives, with those before it held: a number is never told for a check that comes after one that fails.
-- Assumes nothing.
use Rattle.std.specs.Prelude.{ℕ, ◌≤◌, ◌<◌, ◌^◌, ◌≡◌, true, false, List, Err, None, Ok, Some}
use Rattle.model.specs.declared.ItsDeviceId.{ItsDeviceId}
use Rattle.model.specs.declared.EventId.{EventId}
use Rattle.model.specs.declared.CollectionId.{CollectionId}
use Rattle.model.specs.declared.LpiId.{LpiId}
use Rattle.model.specs.declared.GicVcpuId.{GicVcpuId}
use Rattle.model.specs.declared.ItsDevice.{ItsDevice}
use Rattle.model.specs.declared.ItsCollection.{ItsCollection}
use Rattle.model.specs.declared.ItsState.{ItsState}
use Rattle.model.specs.declared.Command.{Command}
use Rattle.model.specs.declared.Command.TheVariants.{Mapd, Mapc, Mapti, Mapi, Movi, Int, Clear, Discard, Inv, Invall}
use Rattle.model.specs.declared.UnknownOpcode.{UnknownOpcode}
use Rattle.model.specs.declared.Refusal.{Refusal}
use Rattle.model.specs.declared.Refusal.TheVariants.{NotInWindow, OpcodeUnknown, LpiOutOfRange, DeviceUnmapped, EventBeyondBits, CollectionUnmapped, PairUnmapped, ProcessorUnlisted, DeviceTooLarge, ResourceNotFound, TableFull}
use Rattle.model.specs.Keys.{event_as_lpi}
use Rattle.model.specs.Config.{listed}
use Rattle.model.specs.Decode.{opcode_of, decode}
use Rattle.model.specs.Profile.{strict, profile_of}
use Rattle.model.specs.Step.{device_of, collection_of, translation_of, delivery_in, lpi_in_range, room_for_device, room_for_collection, room_for_pair, device_named}
use Rattle.model.specs.Queue.{Window, command_at, command_address}

-- The commands that map a pair: MAPTI, and MAPI, whose LPI is its event.
pub data MapsPair : Command → ItsDeviceId → EventId → LpiId → CollectionId → Type 0 where
  mapti : {d : ItsDeviceId} {e : EventId} {l : LpiId} {c : CollectionId} → MapsPair (Mapti d e l c) d e l c
  mapi : {d : ItsDeviceId} {e : EventId} {c : CollectionId} → MapsPair (Mapi d e c) d e (event_as_lpi e) c

-- The checks of such a command that have held so far.
pub record LpiHeld (u : ItsState) (x : Command) (d : ItsDeviceId) (e : EventId) (l : LpiId) (c : CollectionId) : Type 0 where
  pub maps : MapsPair x d e l c
  pub in_range : lpi_in_range u.config l ≡ true

-- and its device is mapped, with r
pub record DeviceHeld (u : ItsState) (x : Command) (d : ItsDeviceId) (e : EventId) (l : LpiId) (c : CollectionId) (r : ItsDevice) : Type 0 where
  pub lpi : LpiHeld u x d e l c
  pub mapped : device_of u d ≡ Some r

-- `BecauseIn01 u x why`: why 01's checks of the command x fail in the unit u.
pub data BecauseIn01 (u : ItsState) : Command → Refusal → Type 0 where
  -- 21: the LPI of a MAPTI or MAPI lies outside 8192..limit
  lpi : {x : Command} {d : ItsDeviceId} {e : EventId} {l : LpiId} {c : CollectionId} →
      MapsPair x d e l c → lpi_in_range u.config l ≡ false → BecauseIn01 u x LpiOutOfRange
  -- 22: its device is not mapped
  device : {x : Command} {d : ItsDeviceId} {e : EventId} {l : LpiId} {c : CollectionId} →
      LpiHeld u x d e l c → device_of u d ≡ None → BecauseIn01 u x DeviceUnmapped
  -- 23: its event is 2^bits or more, bits being its device's
  event : {x : Command} {d : ItsDeviceId} {e : EventId} {l : LpiId} {c : CollectionId} {r : ItsDevice} →
      DeviceHeld u x d e l c r → 2 ^ r.event_bits ≤ e.0 → BecauseIn01 u x EventBeyondBits
  -- 24: its collection is not mapped
  collection : {x : Command} {d : ItsDeviceId} {e : EventId} {l : LpiId} {c : CollectionId} {r : ItsDevice} →
      DeviceHeld u x d e l c r → e.0 < 2 ^ r.event_bits → collection_of u c ≡ None → BecauseIn01 u x CollectionUnmapped
  -- 24: the collection to which a MOVI moves is not mapped, be the pair mapped or not
  movi_collection : {d : ItsDeviceId} {e : EventId} {c : CollectionId} → collection_of u c ≡ None → BecauseIn01 u (Movi d e c) CollectionUnmapped
  -- 24: the collection of an INVALL is not mapped
  invall_collection : {c : CollectionId} → collection_of u c ≡ None → BecauseIn01 u (Invall c) CollectionUnmapped
  -- 25: the pair of a MOVI is not mapped, and the collection is
  movi_pair : {d : ItsDeviceId} {e : EventId} {c : CollectionId} {k : ItsCollection} →
      collection_of u c ≡ Some k → translation_of u d e ≡ None → BecauseIn01 u (Movi d e c) PairUnmapped
  -- 25: the pair of a DISCARD or an INV is not mapped
  discard_pair : {d : ItsDeviceId} {e : EventId} → translation_of u d e ≡ None → BecauseIn01 u (Discard d e) PairUnmapped
  inv_pair : {d : ItsDeviceId} {e : EventId} → translation_of u d e ≡ None → BecauseIn01 u (Inv d e) PairUnmapped
  -- 26: the processor of a valid MAPC is not listed
  processor : {c : CollectionId} {p : GicVcpuId} → listed u.config p ≡ false → BecauseIn01 u (Mapc c p true) ProcessorUnlisted
  -- 8: the pair of an INT or a CLEAR, or its collection, is not mapped
  int_nowhere : {d : ItsDeviceId} {e : EventId} → delivery_in u d e ≡ None → BecauseIn01 u (Int d e) ResourceNotFound
  clear_nowhere : {d : ItsDeviceId} {e : EventId} → delivery_in u d e ≡ None → BecauseIn01 u (Clear d e) ResourceNotFound
  -- 9, last: a new record is needed, and its table is full
  devices_full : {d : ItsDeviceId} {bits : ℕ} → room_for_device u d ≡ false → BecauseIn01 u (Mapd d bits true) TableFull
  collections_full : {c : CollectionId} {p : GicVcpuId} →
      listed u.config p ≡ true → room_for_collection u c ≡ false → BecauseIn01 u (Mapc c p true) TableFull
  pairs_full : {x : Command} {d : ItsDeviceId} {e : EventId} {l : LpiId} {c : CollectionId} {r : ItsDevice} {k : ItsCollection} →
      DeviceHeld u x d e l c r → e.0 < 2 ^ r.event_bits → collection_of u c ≡ Some k → room_for_pair u d e ≡ false → BecauseIn01 u x TableFull

-- In strict, the device that the command names is above 65535 (02, A3).
pub record TooLarge (u : ItsState) (x : Command) : Type 0 where
  pub profile : profile_of u.config ≡ strict
  pub device : ItsDeviceId
  pub named : device_named x ≡ Some device
  pub above : 65535 < device.0

-- `Because u x why`: why the unit u refuses the command x.
pub data Because (u : ItsState) : Command → Refusal → Type 0 where
  -- 27: before any other check
  above_16_bits : {x : Command} → TooLarge u x → Because u x DeviceTooLarge
  -- the others, of a command whose device is not too large
  in_01 : {x : Command} {why : Refusal} → (TooLarge u x → ⊥) → BecauseIn01 u x why → Because u x why

-- the words of the command on which CREADR stands
abbrev pub CommandRead : Window → ItsState → List ℕ → Type 0
CommandRead w u ws = command_at w (command_address u.registers u.registers.creadr) ≡ Some ws

-- `Told w u why opcode`: why the command on which the unit's CREADR stands is refused, and the opcode told.
pub data Told (w : Window) (u : ItsState) : Refusal → ℕ → Type 0 where
  -- 6: it does not lie in the window, and has no opcode
  not_there : command_at w (command_address u.registers u.registers.creadr) ≡ None → Told w u NotInWindow 0
  -- 20: it is of none of the kinds
  opcode_unknown : {ws : List ℕ} {n : UnknownOpcode} → CommandRead w u ws → decode ws ≡ Err n → Told w u OpcodeUnknown (opcode_of ws)
  -- 21 to 27, 8 and 9: it is of one, and the unit refuses it
  because : {ws : List ℕ} {x : Command} {why : Refusal} → CommandRead w u ws → decode ws ≡ Ok x → Because u x why → Told w u why (opcode_of ws)
