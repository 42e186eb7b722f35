-- 01's example in both profiles, so that neither the common statement nor demand 3 in strict is empty (02, A3); after it, in strict, device 5 mapped again;
-- and then a command that stalls the unit, and Retry (02, A4). Beside each call stands the line that the trace prints of it (model: Example.strict_trace).
-- Assumes nothing.
use Rattle.std.specs.Prelude.{◌≡◌, true, false, [], ◌∷◌, Err, Ok}
use Rattle.model.specs.declared.ItsState.{ItsState}
use Rattle.model.specs.declared.Refusal.TheVariants.{OpcodeUnknown, ResourceNotFound}
use Rattle.model.specs.Answer.{write_refused, write_taken}
use Rattle.model.specs.Arm.{GITS_CWRITER}
use Rattle.model.specs.Keys.{delivery}
use Rattle.model.specs.Queue.{Window}
use Rattle.model.specs.Example.{words}
use Rattle.model.specs.Corners.{configured, with_limit, mapd, example_met}
use Rattle.its.specs.Promises.{Writes, Translates}
use Rattle.guarantees.specs.MappingsInForce.{Led}
use Rattle.guarantees.specs.Profiles.{LedAlike}
use Rattle.guarantees.specs.ExampleCalls.{row}

-- GM at 0x40000080, 32 bytes: MAPD of device 5, valid, 4 bits
abbrev pub again_window : Window
again_window = record { address = 0x40000080; bytes = words (0x500000008 ∷ 3 ∷ 0x8000000000000000 ∷ 0 ∷ []) }

-- GM at 0x400000A0, 32 bytes: the opcode 0E; and SYNC in its place
abbrev pub stop_window : Window
stop_window = record { address = 0x400000A0; bytes = words (0x0E ∷ 0 ∷ 0 ∷ 0 ∷ []) }

abbrev pub sync_window : Window
sync_window = record { address = 0x400000A0; bytes = words (5 ∷ 0 ∷ 0 ∷ 0 ∷ []) }

pub record ExampleStrict : Type 0 where
  -- the base unit and the strict one after the example, which is a run on which they agree
  pub ended : ItsState
  pub ended_strict : ItsState
  pub alike : LedAlike (with_limit 65535) ended ended_strict
  -- TR 0 8200 1, of both: the four commands were carried out
  pub tr_base : Translates ended (record { 0 = 5 }) (record { 0 = 9 }) (Ok (delivery (record { 0 = 8200 }) (record { 0 = 1 })))
  pub tr_strict : Translates ended_strict (record { 0 = 5 }) (record { 0 = 9 }) (Ok (delivery (record { 0 = 8200 }) (record { 0 = 1 })))
  -- WR 0 0 0 1 0: device 5 is mapped again
  pub again : ItsState
  pub wr_again : Writes again_window row ended_strict GITS_CWRITER 8 160 (record { unit = again; answer = write_taken 1 0 }) row
  -- such calls lead to that unit in strict
  pub led : Led (configured 65535 1) again (mapd 4 ∷ example_met)
  -- TR 8 0 0: a late message of the pair
  pub tr_late : Translates again (record { 0 = 5 }) (record { 0 = 9 }) (Err ResourceNotFound)
  -- WR 20 14 160 0 0: the opcode 0E stops the ring, and the unit is stalled
  pub stopped : ItsState
  pub wr_stopped : Writes stop_window row again GITS_CWRITER 8 192 (record { unit = stopped; answer = write_refused OpcodeUnknown 14 160 0 0 }) row
  pub led_stopped : Led (configured 65535 1) stopped (mapd 4 ∷ example_met)
  pub stalled_there : stopped.registers.stalled ≡ true
  -- WR 0 0 0 1 0: 192 with Retry goes on, and the unit is no longer stalled
  pub went_on : ItsState
  pub wr_retry : Writes sync_window row stopped GITS_CWRITER 8 193 (record { unit = went_on; answer = write_taken 1 0 }) row
  pub is_clear : went_on.registers.stalled ≡ false
