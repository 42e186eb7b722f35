-- Under which conditions the unit does what Arm says. Each condition carries the number of the entry of docs/DIFFERENCES.md that it shuts out;
-- where Arm leaves open what happens, it says so.
-- Assumes nothing.
use Rattle.std.specs.Prelude.{ℕ, ◌+◌, ◌*◌, ◌≤◌, ◌<◌, ◌^◌, ◌≡◌, Bool, true, false, List, length, leb, ltb, eqb, None, Some}
use Rattle.model.specs.declared.ItsState.{ItsState}
use Rattle.model.specs.declared.ItsAction.{ItsAction}
use Rattle.model.specs.declared.Register.TheVariants.{Cbaser, Cwriter, Baser}
use Rattle.model.specs.Choose.{is_found}
use Rattle.model.specs.Arm.{bits, bit, ◌of◌, ◌from◌, TYPER_ID_bits, TYPER_Devbits, CBASER_Valid, BASER_Page_Size, CWRITER_Retry, CWRITER_Offset, Opcode, RDbase, op_MAPC, command_size}
use Rattle.model.specs.Config.{queue_base, queue_size, listed, sound_unit}
use Rattle.model.specs.Register.{register_at, typer_value, value_written}
use Rattle.model.specs.Step.{room_for_device, room_for_collection, room_for_pair}
use Rattle.arm_agreement.specs.Commands.{ArmCommand, MAPD, MAPC, MAPTI, MAPI, MOVI, INT, CLEAR, DISCARD, INV, INVALL, SYNC, MOVALL, op_MOVALL}
use Rattle.arm_agreement.specs.Mappings.{Interrupt, Mappings, event_of}
use Rattle.arm_agreement.specs.Seen.{dev, ev, col, cpu, arm_of, tables_given, stopped, Tables}

-- of decoding four doublewords
pub record Decodable (ws : List ℕ) : Type 0 where
  -- R21: of MAPC's RDbase only the low 16 bits are read, so the others are 0
  pub R21_processor_of_16_bits : eqb (Opcode from ws) op_MAPC ≡ true → RDbase from ws < 2 ^ 16
  -- R36: MOVALL is unknown to the unit
  pub R36_no_MOVALL : eqb (Opcode from ws) op_MOVALL ≡ false

-- Of the mappings that are there: each mapped event lies within its device's Size, and its collection is mapped. Arm's commands keep that.
pub record WellMapped (m : Mappings) : Type 0 where
  -- R02: a device mapped again with a smaller Size keeps its events beyond it; S12: a unit put together by hand
  pub R02_within_its_Size : (d e : ℕ) (x : Interrupt) → m.event d e ≡ Some x → event_of m d e ≡ true
  -- R09: the collection of a mapped event was unmapped; S12
  pub R09_in_a_collection : (d e : ℕ) (x : Interrupt) → m.event d e ≡ Some x → is_found (m.collection x.ICID) ≡ true

module _ (u : ItsState) (t : Tables) where
  -- of a command's DeviceID
  pub record ADevice (d : ℕ) : Type 0 where
    -- R17: device numbers beyond Devbits are accepted
    pub R17_announced : ltb d (2 ^ (TYPER_Devbits of typer_value u.config.lpi_limit + 1)) ≡ true
    -- R22, R23: and those beyond the table, also where none was offered
    pub R22_R23_in_the_table : t.devices d ≡ true

  -- of its DeviceID and its EventID
  pub record AnEvent (d e : ℕ) : Type 0 where
    pub of_device_lem : ADevice d
    -- R18: event numbers beyond ID_bits are accepted
    pub R18_announced : ltb e (2 ^ (TYPER_ID_bits of typer_value u.config.lpi_limit + 1)) ≡ true

  -- of its ICID
  pub record ACollection (c : ℕ) : Type 0 where
    -- R20, R22: collection numbers beyond the table are accepted, also where none was offered
    pub R20_in_the_table : t.collections c ≡ true

  -- MAPD, valid
  pub record MapsDevice (d size : ℕ) : Type 0 where
    pub of_device_lem : ADevice d
    -- R18: more EventID bits than ID_bits are accepted
    pub R18_announced : leb size (TYPER_ID_bits of typer_value u.config.lpi_limit) ≡ true
    -- R01: a device that is mapped again keeps its events. (That the ITT was cleared is assumed here: F47, R26)
    pub R01_device_is_new : (e : ℕ) → (arm_of u).event d e ≡ None
    -- S01: at most 32 devices
    pub S01_room : room_for_device u (dev d) ≡ true

  -- MAPC, valid
  pub record MapsCollection (c : ℕ) : Type 0 where
    pub of_collection : ACollection c
    -- S01: at most 32 collections. R08: a second MAPC moves the collection, and needs no condition
    pub S01_room : room_for_collection u (col c) ≡ true

  -- MAPC, not valid
  pub record DropsCollection (c : ℕ) : Type 0 where
    pub of_collection : ACollection c
    -- R09: unmapping a collection in use drops its events; Arm leaves it open
    pub R09_unused : (d e : ℕ) (x : Interrupt) → (arm_of u).event d e ≡ Some x → eqb x.ICID c ≡ false

  -- MAPTI, MAPI
  pub record MapsEvent (d e c : ℕ) : Type 0 where
    pub of_event : AnEvent d e
    pub of_collection : ACollection c
    -- R48: with a collection that is not mapped they are refused; by Arm they map the event, and its messages go nowhere until a MAPC
    pub R48_collection_mapped : is_found ((arm_of u).collection c) ≡ true
    -- R06: a second MAPTI of an event replaces the first; Arm leaves it open
    pub R06_event_is_new : (arm_of u).event d e ≡ None
    -- S01: at most 256 events. R07: two events may have one LPI, and need no condition
    pub S01_room : room_for_pair u (dev d) (ev e) ≡ true

  -- MOVI. R05: an interrupt that is waiting is not moved; the mappings are
  pub record MovesEvent (d e c : ℕ) : Type 0 where
    pub of_event : AnEvent d e
    pub of_collection : ACollection c

  -- SYNC
  pub record Waits (p : ℕ) : Type 0 where
    -- R38: the processor is not looked at
    pub R38_processor : listed u.config (cpu p) ≡ true

  -- The conditions of a command. R04, DISCARD, and R35, INV and INVALL: what is waiting or cached is not part of the mappings.
  abbrev pub Under : ArmCommand → Type 0
  Under (MAPD d size itt true) = MapsDevice d size
  -- R10: also of a device that is not mapped
  Under (MAPD d size itt false) = ADevice d
  Under (MAPC c p true) = MapsCollection c
  Under (MAPC c p false) = DropsCollection c
  Under (MAPTI d e l c) = MapsEvent d e c
  Under (MAPI d e c) = MapsEvent d e c
  Under (MOVI d e c) = MovesEvent d e c
  Under (INT d e) = AnEvent d e
  Under (CLEAR d e) = AnEvent d e
  Under (DISCARD d e) = AnEvent d e
  Under (INV d e) = AnEvent d e
  Under (INVALL c) = ACollection c
  Under (SYNC p) = Waits p
  -- R36: MOVALL is refused
  Under (MOVALL p q) = ⊥

-- of a message
pub record Heard (u : ItsState) : Type 0 where
  -- S04, S12: a unit of a refused configuration, or put together by hand, answers 1
  pub S12_sound : sound_unit u ≡ true
  -- R03: a message is translated while the unit is switched off
  pub R03_enabled : u.registers.enabled ≡ true
  -- R47: and while a table of devices or of collections is not given
  pub R47_tables_given : tables_given u ≡ true

-- of every write
pub record Writable (u : ItsState) (row : List ItsAction) : Type 0 where
  -- S04, S12: a unit of a refused configuration, or put together by hand, answers 1
  pub S12_sound : sound_unit u ≡ true
  -- S03: the host lends a row that is long enough
  pub S03_row : leb u.config.command_budget (length row) ≡ true

-- of a write of GITS_CBASER, with the value that it stores
pub record StoresBase (u : ItsState) (value : ℕ) : Type 0 where
  -- R32: writes are ignored while the unit is enabled; Arm leaves them open
  pub R32_disabled : u.registers.enabled ≡ false
  -- R30: a ring at address zero is refused
  pub R30_base : eqb (queue_base value) 0 ≡ false
  -- R29: CWRITER becomes 0 too
  pub R29_writer_at_0 : u.registers.cwriter ≡ 0
  -- R31: reserved bits are kept
  pub R31_no_reserved : (bits 9 8 of value ≡ 0) × (bit 52 of value ≡ 0) × (bits 58 56 of value ≡ 0) × (bit 62 of value ≡ 0)

-- of GITS_BASER n, with the value that it stores
pub record StoresTable (u : ItsState) (n value : ℕ) : Type 0 where
  -- R32: writes are ignored while the unit is enabled; Arm leaves them open
  pub R32_disabled : u.registers.enabled ≡ false
  -- S12: the unit has its eight
  pub S12_eight : length u.registers.basers ≡ 8
  -- R25: those of Type 0, 2 to 7, keep what is written
  pub R25_has_a_type : ltb n 2 ≡ true
  -- R24: the reserved Page_Size is kept
  pub R24_page_size : eqb (BASER_Page_Size of value) 3 ≡ false

-- of GITS_CWRITER, with the value that it stores
pub record StoresWriter (u : ItsState) (value : ℕ) : Type 0 where
  -- R34: before CBASER is written
  pub R34_base : eqb u.registers.cbaser 0 ≡ false
  -- R14: in base Retry is refused; in strict it is taken, and the conditions here are those of base
  pub R14_no_Retry : CWRITER_Retry of value ≡ 0
  -- R33: with reserved bits, or outside the ring, it is refused
  pub R33_no_reserved : bits 4 1 of value ≡ 0
  pub R33_in_the_ring : (CWRITER_Offset of value) * command_size < queue_size u.registers.cbaser

-- of a write by offset, width and value: of the register to which it goes
pub record AWrite (u : ItsState) (row : List ItsAction) (offset width value : ℕ) : Type 0 where
  -- S03: with a shorter row it is refused
  pub S03_row : leb u.config.command_budget (length row) ≡ true
  pub base : register_at offset ≡ Cbaser → StoresBase u (value_written u.config u.registers offset width value Cbaser)
  pub table : (n : ℕ) → register_at offset ≡ Baser n → StoresTable u n (value_written u.config u.registers offset width value (Baser n))
  pub writer : register_at offset ≡ Cwriter → StoresWriter u (value_written u.config u.registers offset width value Cwriter)

-- Of reads. The value of IIDR agrees as it stands (R41: of the fields only Implementer is not 0).

-- of GITS_CTLR
pub record ReadsCTLR (u : ItsState) : Type 0 where
  -- R39: Quiescent is shown while the unit is enabled, too. A disabled one leaves no work undone
  pub R39_disabled : u.registers.enabled ≡ false

-- of GITS_TYPER: EventIDs have b + 1 bits
pub record ReadsTYPER (u : ItsState) (b : ℕ) : Type 0 where
  -- S04, S12: a unit of a refused configuration, or put together by hand, answers 1
  pub S12_sound : sound_unit u ≡ true
  -- R19: ID_bits is worked out from the highest LPI, so it is Arm's where that has as many bits
  pub R19_bits_of_the_LPIs : (2 ^ b ≤ u.config.lpi_limit) × (u.config.lpi_limit < 2 ^ (b + 1))

-- of GITS_CREADR
pub record ReadsCREADR (u : ItsState) : Type 0 where
  pub S12_sound : sound_unit u ≡ true
  -- R13: in base Stalled is never shown; in strict it is, and the conditions here are those of base
  pub R13_not_stopped : stopped u ≡ false

-- Of the ring: what a write stores in CTLR.Enabled, and CBASER.
pub record ARing (enabled : Bool) (cbaser : ℕ) : Type 0 where
  -- R27: commands are fetched with Valid 0, too
  pub R27_valid : enabled ≡ true → eqb (CBASER_Valid of cbaser) 1 ≡ true
  -- R28: a ring may start at any multiple of 4 KB; Arm leaves those that are no multiple of 64 KB open
  pub R28_aligned : enabled ≡ true → bits 15 12 of cbaser ≡ 0
