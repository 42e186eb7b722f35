-- Arm's mappings, without tables and sizes: what a command does to them, when a command is an error, when Arm leaves open what happens, and how
-- a message is translated. By the facts of docs/ARM.md (F01 and on) alone.
-- Assumes nothing.
use Rattle.std.specs.Prelude.{ℕ, ◌+◌, ◌^◌, Bool, true, false, ◌&&◌, leb, ltb, eqb, if◌then◌else◌, None, Option, Some}
use Rattle.model.specs.Choose.{when_found, if_found, is_found}
use Rattle.model.specs.Arm.{◌of◌, TYPER_ID_bits, TYPER_Devbits, LPI_base}
use Rattle.arm_agreement.specs.Commands.{ArmCommand, MAPD, MAPC, MAPTI, MAPI, MOVI, INT, CLEAR, DISCARD, INV, INVALL, SYNC, MOVALL}

-- what an ITT holds of a mapped event: its LPI and its collection (F32)
pub record Interrupt : Type 0 where
  pub pINTID : ℕ
  pub ICID : ℕ

-- an LPI and a collection
abbrev pub interrupt : ℕ → ℕ → Interrupt
interrupt l c = record { pINTID = l; ICID = c }

-- what MAPD, MAPC and MAPTI map
pub record Mappings : Type 0 where
  -- the EventID bits of a mapped device
  pub device : ℕ → Option ℕ
  -- the processor of a mapped collection
  pub collection : ℕ → Option ℕ
  -- the interrupt of a device and an event
  pub event : ℕ → ℕ → Option Interrupt

-- What TYPER and the tables announce, and what the machine has.
pub record Announced : Type 0 where
  -- GITS_TYPER
  pub TYPER : ℕ
  -- the GITS_BASER of devices, of type 1, has room for the DeviceID
  pub device_table : ℕ → Bool
  -- the GITS_BASER of collections, of type 4, has room for the ICID
  pub collection_table : ℕ → Bool
  -- the highest LPI
  pub last_LPI : ℕ
  -- RDbase names a processor
  pub processor : ℕ → Bool

-- f, with v at the number n
abbrev pub put : {A : Type 0} → ℕ → A → (ℕ → A) → ℕ → A
put n v f k = if eqb n k then v else f k

-- nothing is mapped
abbrev pub nothing : Mappings
nothing = record { device = λ d. None; collection = λ c. None; event = λ d e. None }

-- MAPD: the device has these EventID bits, or is gone; its events are those of an ITT that was cleared, as software is told to, or gone: it has none (F47, F48)
abbrev pub with_device : ℕ → Option ℕ → Mappings → Mappings
with_device d o m = record { device = put d o m.device; collection = m.collection; event = put d (λ e. None) m.event }

-- MAPC: the collection has this processor, or is gone (F49, F50)
abbrev pub with_collection : ℕ → Option ℕ → Mappings → Mappings
with_collection c o m = record { device = m.device; collection = put c o m.collection; event = m.event }

-- MAPTI, MAPI, MOVI, DISCARD: the event has this interrupt, or none (F51, F52, F54)
abbrev pub with_event : ℕ → ℕ → Option Interrupt → Mappings → Mappings
with_event d e o m = record { device = m.device; collection = m.collection; event = put d (put e o (m.event d)) m.event }

-- What a command does to the mappings.
abbrev pub does : ArmCommand → Mappings → Mappings
does (MAPD d size itt true) m = with_device d (Some (size + 1)) m
does (MAPD d size itt false) m = with_device d None m
does (MAPC c p true) m = with_collection c (Some p) m
does (MAPC c p false) m = with_collection c None m
does (MAPTI d e l c) m = with_event d e (Some (interrupt l c)) m
does (MAPI d e c) m = with_event d e (Some (interrupt e c)) m
does (MOVI d e c) m = with_event d e (when_found (m.event d e) (λ x. Some (interrupt x.pINTID c))) m
does (INT d e) m = m
does (CLEAR d e) m = m
does (DISCARD d e) m = with_event d e None m
does (INV d e) m = m
does (INVALL c) m = m
does (SYNC p) m = m
does (MOVALL p q) m = m

-- the device is mapped, and the event within its Size
abbrev pub event_of : Mappings → ℕ → ℕ → Bool
event_of m d e = if_found (m.device d) (λ size. ltb e (2 ^ size)) false

-- When a command is no error (F60 to F67).
module _ (a : Announced) (m : Mappings) where
  -- the DeviceID is within Devbits and the table
  abbrev pub device_announced : ℕ → Bool
  device_announced d = ltb d (2 ^ (TYPER_Devbits of a.TYPER + 1)) && a.device_table d

  -- the EventID is within ID_bits
  abbrev pub event_announced : ℕ → Bool
  event_announced e = ltb e (2 ^ (TYPER_ID_bits of a.TYPER + 1))

  -- an LPI that there is
  abbrev pub is_LPI : ℕ → Bool
  is_LPI l = leb LPI_base l && leb l a.last_LPI

  -- numbers that are announced, of a mapped device
  abbrev pub names_event : ℕ → ℕ → Bool
  names_event d e = device_announced d && (event_announced e && event_of m d e)

  -- a mapped collection
  abbrev pub names_collection : ℕ → Bool
  names_collection c = a.collection_table c && is_found (m.collection c)

  -- a mapped interrupt, whether or not its collection is mapped
  abbrev pub names_interrupt : ℕ → ℕ → Bool
  names_interrupt d e = names_event d e && is_found (m.event d e)

  -- of each command: none of the numbers, the device, the interrupt or the collection that it names is wrong. MAPTI and MAPI may name a collection that
  -- is not mapped; MAPD and MAPC with V 0 a device or a collection that is not
  abbrev pub no_error : ArmCommand → Bool
  no_error (MAPD d size itt true) = device_announced d && leb size (TYPER_ID_bits of a.TYPER)
  no_error (MAPD d size itt false) = device_announced d
  no_error (MAPC c p true) = a.collection_table c && a.processor p
  no_error (MAPC c p false) = a.collection_table c
  no_error (MAPTI d e l c) = names_event d e && (is_LPI l && a.collection_table c)
  no_error (MAPI d e c) = names_event d e && (is_LPI e && a.collection_table c)
  no_error (MOVI d e c) = names_interrupt d e && names_collection c
  no_error (INT d e) = names_interrupt d e
  no_error (CLEAR d e) = names_interrupt d e
  no_error (DISCARD d e) = names_interrupt d e
  no_error (INV d e) = names_interrupt d e
  no_error (INVALL c) = names_collection c
  no_error (SYNC p) = a.processor p
  no_error (MOVALL p q) = a.processor p && a.processor q

-- The mappings after a command: an error changes none of them (F68).
abbrev pub next_mappings : Announced → Mappings → ArmCommand → Mappings
next_mappings a m x = if no_error a m x then does x m else m

-- A message is translated where the unit is enabled and has its tables, and its device, its event and the event's collection are mapped (F36): into what
pub record Target : Type 0 where
  pub LPI : ℕ
  pub processor : ℕ

-- the LPI of an event, and the processor of its collection
abbrev pub target_of : Mappings → ℕ → ℕ → Option Target
target_of m d e =
    when_found (m.event d e) (λ x.
    when_found (m.collection x.ICID) (λ p.
    Some (record { LPI = x.pINTID; processor = p })))

-- a message of an enabled unit whose tables of devices and of collections are given, of an event within its device's Size
abbrev pub translation : Bool → Bool → Mappings → ℕ → ℕ → Option Target
translation Enabled given m d e = if Enabled && (given && event_of m d e) then target_of m d e else None
