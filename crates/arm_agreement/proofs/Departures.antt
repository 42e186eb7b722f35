-- Without its condition the agreement fails: the departure of each entry, computed on the smallest case.
-- Assumes nothing.
use Rattle.std.specs.Prelude.{Err, None, Ok, Some}
use Prim.Native.Nat.{ℕ, zero, suc}
use mathlib.Core.Path.{◌≡◌, refl}
use mathlib.Core.Bool.{true, false}
use mathlib.Core.List.{List, [], ◌∷◌, ◌++◌}
use Rattle.model.specs.declared.ItsState.{ItsState}
use Rattle.model.specs.declared.Command.TheVariants.{Mapc}
use Rattle.model.specs.declared.Refusal.TheVariants.{BaseZero, WriterRefused}
use Rattle.model.specs.Answer.{write_refused}
use Rattle.model.specs.Choose.{is_found}
use Rattle.model.specs.Arm.{◌of◌, ◌in_place◌, BASER_Physical_Address, CTLR_Quiescent, CREADR_Stalled, GITS_CTLR, GITS_CBASER, GITS_CWRITER, GITS_BASER}
use Rattle.model.specs.Keys.{delivery}
use Rattle.model.specs.With.{with_registers, with_enabled, with_ring}
use Rattle.model.specs.Config.{fresh_unit}
use Rattle.model.specs.Decode.{decode}
use Rattle.model.specs.Entry.{translate, write}
use Rattle.model.specs.Corners.{with_limit, writing}
use Rattle.model.proofs.Computed.{shown}
use Rattle.arm_agreement.specs.Commands.{ArmCommand, MAPD, MAPC, MAPTI, INT, SYNC, MOVALL, command_in}
use Rattle.arm_agreement.specs.Registers.{CTLR, CWRITER, CREADR, BASER}
use Rattle.arm_agreement.specs.Mappings.{Mappings, Announced, nothing, event_of, no_error, translation}
use Rattle.arm_agreement.specs.Seen.{dev, ev, col, lpi, cpu, takes, arm_of, held, tables_given, stopped, Tables, announced_by}
use Rattle.arm_agreement.specs.Ring.{arm_run}
use Rattle.arm_agreement.specs.Runs.{done_by, passed_by_lem, unit_run, AllUnder, none_left, one_more}
use Rattle.arm_agreement.proofs.AsArm.{fresh_as_arm}
use Rattle.arm_agreement.proofs.ExampleLived.{window, row, after}

-- The unit of 01's example after the commands, and Arm's mappings after them. There are tables for all numbers.
abbrev all : Tables
all = record { devices = λ d. true; collections = λ c. true }

abbrev said : Announced
said = announced_by (with_limit 65535) all

-- and none, as the unit never asks for one
abbrev unoffered : Announced
unoffered = announced_by (with_limit 65535) (record { devices = λ d. false; collections = λ c. false })

abbrev unit : List ArmCommand → ItsState
unit xs = unit_run (fresh_unit (with_limit 65535)) xs

abbrev arms : List ArmCommand → Mappings
arms xs = arm_run said nothing xs

-- device 5 has 4 bits, collection 2 is processor 1, and (5, 9) becomes LPI 8200
abbrev example : List ArmCommand
example = MAPD 5 3 0x500000 true ∷ MAPC 2 1 true ∷ MAPTI 5 9 8200 2 ∷ []

-- it meets all conditions, so up to here the unit is Arm's
pub example_under : AllUnder all (unit []) example
unfolding shown
example_under =
    one_more (MAPD 5 3 0x500000 true) (record { of_device_lem = record { R17_announced = refl; R22_R23_in_the_table = refl }; R18_announced = refl; R01_device_is_new = λ e. refl; S01_room = refl })
    (one_more (MAPC 2 1 true) (record { of_collection = record { R20_in_the_table = refl }; S01_room = refl })
    (one_more (MAPTI 5 9 8200 2)
    (record {
      of_event = record { of_device_lem = record { R17_announced = refl; R22_R23_in_the_table = refl }; R18_announced = refl };
      of_collection = record { R20_in_the_table = refl };
      R48_collection_mapped = refl;
      R06_event_is_new = refl;
      S01_room = refl;
    })
    none_left))

pub example_as_arm : arm_of (unit example) ≡ arms example
example_as_arm = fresh_as_arm (with_limit 65535) all example example_under

-- both translate it
pub example_agrees : (translate (unit example) (dev 5) (ev 9) ≡ Ok (delivery (lpi 8200) (cpu 1)))
    × (translation true true (arms example) 5 9 ≡ Some (record { LPI = 8200; processor = 1 }))
unfolding shown
example_agrees = (refl, refl)

-- R01, the cause of the misfiled visits: device 5 is mapped again, and the unit still gives its old LPI where Arm's unit has none
pub R01_departs : (translate (unit (example ++ MAPD 5 3 0x501000 true ∷ [])) (dev 5) (ev 9) ≡ Ok (delivery (lpi 8200) (cpu 1)))
    × (translation true true (arms (example ++ MAPD 5 3 0x501000 true ∷ [])) 5 9 ≡ None)
unfolding shown
R01_departs = (refl, refl)

-- R02: mapped again with 1 bit, the device keeps an event beyond its Size: a MAPTI cannot replace it, and an INT of it, an error by Arm, is taken
abbrev smaller : ItsState
smaller = unit (example ++ MAPD 5 0 0x501000 true ∷ [])

pub R02_departs : (is_found ((arm_of smaller).event 5 9) ≡ true) × (event_of (arm_of smaller) 5 9 ≡ false) × (takes smaller (MAPTI 5 9 8201 2) ≡ false) × (takes smaller (INT 5 9) ≡ true)
    × (no_error said (arm_of smaller) (INT 5 9) ≡ false)
unfolding shown
R02_departs = (refl, refl, refl, refl, refl)

-- R03: the unit was never switched on
pub R03_departs : (translate (unit example) (dev 5) (ev 9) ≡ Ok (delivery (lpi 8200) (cpu 1))) × (translation false true (arms example) 5 9 ≡ None)
unfolding shown
R03_departs = (refl, refl)

-- R17, R18, R38: a device of 17 bits, a device with 17 bits of events, and SYNC of a processor that is not there are errors, and are taken
pub numbers_depart :
    ((takes (unit []) (MAPD 65536 0 0 true) ≡ true) × (no_error said nothing (MAPD 65536 0 0 true) ≡ false))
    × ((takes (unit []) (MAPD 5 16 0 true) ≡ true) × (no_error said nothing (MAPD 5 16 0 true) ≡ false))
    × ((takes (unit []) (SYNC 7) ≡ true) × (no_error said nothing (SYNC 7) ≡ false))
unfolding shown
numbers_depart = ((refl, refl), (refl, refl), (refl, refl))

-- and a message with such a number is translated
abbrev beyond : List ArmCommand
beyond = MAPD 65536 3 0 true ∷ MAPD 5 16 0 true ∷ MAPC 2 1 true ∷ MAPTI 65536 9 8200 2 ∷ MAPTI 5 65536 8201 2 ∷ []

pub messages_beyond_depart :
    ((translate (unit beyond) (dev 65536) (ev 9) ≡ Ok (delivery (lpi 8200) (cpu 1))) × (translation true true (arms beyond) 65536 9 ≡ None))
    × ((translate (unit beyond) (dev 5) (ev 65536) ≡ Ok (delivery (lpi 8201) (cpu 1))) × (translation true true (arms beyond) 5 65536 ≡ None))
unfolding shown
messages_beyond_depart = ((refl, refl), (refl, refl))

-- R10 is no departure: V 0 of what is not mapped is taken, and is no error
pub R10_agrees : ((takes (unit []) (MAPD 5 3 0 false) ≡ true) × (no_error said nothing (MAPD 5 3 0 false) ≡ true))
    × ((takes (unit []) (MAPC 2 1 false) ≡ true) × (no_error said nothing (MAPC 2 1 false) ≡ true))
unfolding shown
R10_agrees = ((refl, refl), (refl, refl))

-- R48: (5, 9) is mapped before its collection, which Arm allows; a MAPC then makes it whole
pub R48_departs : (takes (unit (MAPD 5 3 0 true ∷ [])) (MAPTI 5 9 8200 2) ≡ false) × (no_error said (arms (MAPD 5 3 0 true ∷ [])) (MAPTI 5 9 8200 2) ≡ true)
    × (translation true true (arms (MAPD 5 3 0 true ∷ MAPTI 5 9 8200 2 ∷ [])) 5 9 ≡ None)
    × (translation true true (arms (MAPD 5 3 0 true ∷ MAPTI 5 9 8200 2 ∷ MAPC 2 1 true ∷ [])) 5 9 ≡ Some (record { LPI = 8200; processor = 1 }))
unfolding shown
R48_departs = (refl, refl, refl, refl)

-- R46: the unit, switched off, is given another table of devices. It translates (5, 9) as before; by Arm the new table, which the driver has cleared, maps
-- nothing
abbrev moved : ItsState
moved = after (unit example) GITS_BASER 8 0x8000000060000000

pub R46_departs : (BASER_Physical_Address in_place held moved (BASER 0) ≡ 0x60000000) × (translate moved (dev 5) (ev 9) ≡ Ok (delivery (lpi 8200) (cpu 1)))
    × (translation true true nothing 5 9 ≡ None)
unfolding shown
R46_departs = (refl, refl, refl)

-- R47: no table was given, and the message is translated
pub R47_departs : (tables_given (unit example) ≡ false) × (translate (unit example) (dev 5) (ev 9) ≡ Ok (delivery (lpi 8200) (cpu 1)))
    × (translation true false (arms example) 5 9 ≡ None)
unfolding shown
R47_departs = (refl, refl, refl)

-- R20, R22, R23: no table was offered
pub tables_depart :
    ((takes (unit []) (MAPD 5 3 0 true) ≡ true) × (no_error unoffered nothing (MAPD 5 3 0 true) ≡ false))
    × ((takes (unit []) (MAPC 2 1 true) ≡ true) × (no_error unoffered nothing (MAPC 2 1 true) ≡ false))
unfolding shown
tables_depart = ((refl, refl), (refl, refl))

-- R21: processor 65537 is taken for processor 1
pub R21_departs : (decode (9 ∷ 0 ∷ 0x8000000100010002 ∷ 0 ∷ []) ≡ Ok (Mapc (col 2) (cpu 1) true))
    × (command_in (9 ∷ 0 ∷ 0x8000000100010002 ∷ 0 ∷ []) ≡ Some (MAPC 2 65537 true))
unfolding shown command_in
R21_departs = (refl, refl)

-- R36: MOVALL is unknown
pub R36_departs : (decode (14 ∷ 0 ∷ 0 ∷ 0x10000 ∷ []) ≡ Err (record { 0 = 14 })) × (command_in (14 ∷ 0 ∷ 0 ∷ 0x10000 ∷ []) ≡ Some (MOVALL 0 1))
unfolding shown command_in
R36_departs = (refl, refl)

-- S01: the 33rd device
abbrev devices : ℕ → List ArmCommand
devices zero = []
devices (suc n) = MAPD n 3 0 true ∷ devices n

pub S01_departs : (takes (unit (devices 32)) (MAPD 32 3 0 true) ≡ false) × (no_error said (arms (devices 32)) (MAPD 32 3 0 true) ≡ true)
unfolding shown
S01_departs = (refl, refl)

-- The registers. R13, R39: the unit is enabled and has stopped; Quiescent reads 1, and Stalled, as always in base, 0
abbrev stuck : ItsState
stuck = with_registers (unit []) (with_ring (with_enabled (unit []).registers true) 0x8000000040000000 0 32)

pub R13_R39_depart : (stopped stuck ≡ true) × (CREADR_Stalled of held stuck CREADR ≡ 0) × (CTLR_Quiescent of held stuck CTLR ≡ 1)
unfolding shown
R13_R39_depart = (refl, refl, refl)

-- R29: a write of CBASER puts CWRITER back to 0; R30: at address zero it is refused; R14: so is, in base, CWRITER with Retry
abbrev ready : ItsState
ready = (writing (writing (unit []) GITS_CBASER 0x8000000040000000).unit GITS_CWRITER 32).unit

pub R29_departs : (held ready CWRITER ≡ 32) × (held (writing ready GITS_CBASER 0x8000000040000000).unit CWRITER ≡ 0)
unfolding shown
R29_departs = (refl, refl)

pub R30_departs : (writing (unit []) GITS_CBASER 0x8000000000000000).answer ≡ write_refused BaseZero 0 0 0 0
unfolding shown
R30_departs = refl

pub R14_departs : (writing ready GITS_CWRITER 65).answer ≡ write_refused WriterRefused 0 65 0 0
unfolding shown
R14_departs = refl

-- R27: 01's example with CBASER.Valid 0: Arm fetches no command, and the unit carries out all four
abbrev invalid : ItsState
invalid = after (after (unit []) GITS_CBASER 8 0x40000000) GITS_CTLR 4 1

pub R27_departs : (done_by (write window row invalid GITS_CWRITER 8 128) ≡ 4) × (passed_by_lem window row invalid GITS_CWRITER 8 128 ≡ [])
unfolding shown
R27_departs = (refl, refl)
