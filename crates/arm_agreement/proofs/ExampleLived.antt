-- 01's example meets all the conditions, once the driver has given the two tables that Arm demands (R47; 01's example gives none): the two writes of
-- BASER, the example's three, and the four commands in the window are such a life as LifeAsArm.antt speaks of. So the theorems there are not empty.
-- Assumes nothing.
use Rattle.std.specs.Prelude.{Some}
use Prim.Native.Nat.{ℕ, zero, suc, ◌+◌, ◌<◌}
use native.Mathlib.Omega.{arith}
use mathlib.Core.Path.{◌≡◌, refl}
use mathlib.Core.Bool.{true, false}
use mathlib.Core.Logic.{inl, inr}
use mathlib.Core.List.{List, [], ◌∷◌}
use lib.ListN.{replicate}
use Rattle.model.specs.declared.ItsState.{ItsState}
use Rattle.model.specs.declared.ItsAction.{ItsAction}
use Rattle.model.specs.Arm.{GITS_CTLR, GITS_CBASER, GITS_CWRITER, GITS_BASER}
use Rattle.model.specs.With.{with_registers}
use Rattle.model.specs.Queue.{Window, command_at}
use Rattle.model.specs.Entry.{stores, write}
use Rattle.model.specs.Example.{example_commands}
use Rattle.model.specs.Corners.{with_limit, fresh}
use Rattle.model.proofs.Cases.{never}
use Rattle.model.proofs.Computed.{shown}
use Rattle.arm_agreement.specs.Commands.{MAPD, MAPC, MAPTI, INT, command_in}
use Rattle.arm_agreement.specs.Mappings.{nothing}
use Rattle.arm_agreement.specs.Ring.{arm_after, command_place}
use Rattle.arm_agreement.specs.Seen.{tables_given, Tables, announced_by}
use Rattle.arm_agreement.specs.Conditions.{Decodable}
use Rattle.arm_agreement.specs.Runs.{EachUnder, passed_by_lem, WriteUnder, no_command_lem, and_then, Lived, configured, written}

abbrev all : Tables
all = record { devices = λ d. true; collections = λ c. true }

abbrev pub window : Window
window = record { address = 0x40000000; bytes = example_commands }

abbrev pub row : List ItsAction
row = replicate 64 (record { target = record { 0 = 0 }; lpi = record { 0 = 0 }; pending = false })

abbrev pub after : ItsState → ℕ → ℕ → ℕ → ItsState
after u offset width value = (write window row u offset width value).written.unit

abbrev with_devices_lem : ItsState
with_devices_lem = after (fresh 65535) GITS_BASER 8 0x8000000050000000

abbrev with_tables : ItsState
with_tables = after with_devices_lem (GITS_BASER + 8) 8 0x8000000050010000

abbrev with_base : ItsState
with_base = after with_tables GITS_CBASER 8 0x8000000040000000

abbrev enabled : ItsState
enabled = after with_base GITS_CTLR 4 1

devices_under : WriteUnder all window row (fresh 65535) GITS_BASER 8 0x8000000050000000
unfolding shown
devices_under =
    record {
      register = record {
        S03_row = refl;
        base = λ e. never true refl (cc);
        table = λ n e. let k : 0 ≡ n = cc in rw (← k) (record { R32_disabled = refl; S12_eight = refl; R25_has_a_type = refl; R24_page_size = refl });
        writer = λ e. never true refl (cc);
      };
      R46_tables_stay = inl refl;
      ring = record { R27_valid = λ e. (cc); R28_aligned = λ e. refl };
      R11_not_stalled = λ e. refl;
      decodable = λ m l. absurd (omega arith);
      commands = no_command_lem;
    }

tables_under : WriteUnder all window row with_devices_lem (GITS_BASER + 8) 8 0x8000000050010000
unfolding shown
tables_under =
    record {
      register = record {
        S03_row = refl;
        base = λ e. never true refl (cc);
        table = λ n e. let k : 1 ≡ n = cc in rw (← k) (record { R32_disabled = refl; S12_eight = refl; R25_has_a_type = refl; R24_page_size = refl });
        writer = λ e. never true refl (cc);
      };
      R46_tables_stay = inl refl;
      ring = record { R27_valid = λ e. (cc); R28_aligned = λ e. refl };
      R11_not_stalled = λ e. refl;
      decodable = λ m l. absurd (omega arith);
      commands = no_command_lem;
    }

base_under : WriteUnder all window row with_tables GITS_CBASER 8 0x8000000040000000
unfolding shown
base_under =
    record {
      register = record {
        S03_row = refl;
        base = λ e. record { R32_disabled = refl; R30_base = refl; R29_writer_at_0 = refl; R31_no_reserved = (refl, refl, refl, refl) };
        table = λ n e. never true refl (cc);
        writer = λ e. never true refl (cc);
      };
      R46_tables_stay = inr refl;
      ring = record { R27_valid = λ e. (cc); R28_aligned = λ e. refl };
      R11_not_stalled = λ e. refl;
      decodable = λ m l. absurd (omega arith);
      commands = no_command_lem;
    }

enable_under : WriteUnder all window row with_base GITS_CTLR 4 1
unfolding shown
enable_under =
    record {
      register = record {
        S03_row = refl;
        base = λ e. never true refl (cc);
        table = λ n e. never true refl (cc);
        writer = λ e. never true refl (cc);
      };
      R46_tables_stay = inr refl;
      ring = record { R27_valid = λ e. refl; R28_aligned = λ e. refl };
      R11_not_stalled = λ e. refl;
      decodable = λ m l. absurd (omega arith);
      commands = no_command_lem;
    }

each_decodable : (m : ℕ) → m < 4 → (ws : List ℕ) → command_at window (command_place 0x8000000040000000 0 m) ≡ Some ws → Decodable ws
unfolding shown
each_decodable zero l ws h =
    let k : 0x500000008 ∷ 3 ∷ 0x8000000000000000 ∷ 0 ∷ [] ≡ ws = cc in rw (← k) (record { R21_processor_of_16_bits = λ e. omega arith; R36_no_MOVALL = refl })
each_decodable (suc zero) l ws h =
    let k : 9 ∷ 0 ∷ 0x8000000000010002 ∷ 0 ∷ [] ≡ ws = cc in rw (← k) (record { R21_processor_of_16_bits = λ e. omega arith; R36_no_MOVALL = refl })
each_decodable (suc (suc zero)) l ws h =
    let k : 0x50000000A ∷ 0x200800000009 ∷ 2 ∷ 0 ∷ [] ≡ ws = cc in rw (← k) (record { R21_processor_of_16_bits = λ e. omega arith; R36_no_MOVALL = refl })
each_decodable (suc (suc (suc zero))) l ws h =
    let k : 0x500000003 ∷ 9 ∷ 0 ∷ 0 ∷ [] ≡ ws = cc in rw (← k) (record { R21_processor_of_16_bits = λ e. omega arith; R36_no_MOVALL = refl })
each_decodable (suc (suc (suc (suc m)))) l ws h = absurd (omega arith)

run_under : WriteUnder all window row enabled GITS_CWRITER 8 128
unfolding shown command_in
run_under = record {
  register = record {
    S03_row = refl;
    base = λ e. never true refl (cc);
    table = λ n e. never true refl (cc);
    writer = λ e. record { R34_base = refl; R14_no_Retry = refl; R33_no_reserved = refl; R33_in_the_ring = omega arith };
  };
  R46_tables_stay = inr refl;
  ring = record { R27_valid = λ e. refl; R28_aligned = λ e. refl };
  R11_not_stalled = λ e. refl;
  decodable = each_decodable;
  commands = mapped;
}
  where
    mapped : EachUnder all (with_registers enabled (stores row enabled GITS_CWRITER 8 128).registers) (passed_by_lem window row enabled GITS_CWRITER 8 128)
    mapped =
        and_then
        (and_then
        (and_then
        (and_then no_command_lem (MAPD 5 3 0 true)
        (record { of_device_lem = record { R17_announced = refl; R22_R23_in_the_table = refl }; R18_announced = refl; R01_device_is_new = λ e. refl; S01_room = refl }))
        (MAPC 2 1 true) (record { of_collection = record { R20_in_the_table = refl }; S01_room = refl }))
        (MAPTI 5 9 8200 2)
        (record {
          of_event = record { of_device_lem = record { R17_announced = refl; R22_R23_in_the_table = refl }; R18_announced = refl };
          of_collection = record { R20_in_the_table = refl };
          R48_collection_mapped = refl;
          R06_event_is_new = refl;
          S01_room = refl;
        }))
        (INT 5 9) (record { of_device_lem = record { R17_announced = refl; R22_R23_in_the_table = refl }; R18_announced = refl })

-- the unit after the example, and Arm's mappings
pub example_lived : Lived (with_limit 65535) all (after enabled GITS_CWRITER 8 128) (arm_after (announced_by (with_limit 65535) all) nothing (INT 5 9 ∷ MAPTI 5 9 8200 2 ∷ MAPC 2 1 true ∷ MAPD 5 3 0 true ∷ []))
unfolding shown command_in
example_lived =
    written
    (written
    (written
    (written
    (written (configured refl) window row GITS_BASER 8 0x8000000050000000 devices_under)
    window row (GITS_BASER + 8) 8 0x8000000050010000 tables_under)
    window row GITS_CBASER 8 0x8000000040000000 base_under)
    window row GITS_CTLR 4 1 enable_under)
    window row GITS_CWRITER 8 128 run_under

-- so its message is translated as Arm says
pub example_heard : ((after enabled GITS_CWRITER 8 128).registers.enabled ≡ true) × (tables_given (after enabled GITS_CWRITER 8 128) ≡ true)
unfolding shown
example_heard = (refl, refl)
