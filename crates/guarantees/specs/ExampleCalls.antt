-- Document 01, "The trace": the example, call by call, so that neither demand is empty, and after it 01's last corner, a refused write that hands over an
-- action (02, A2). Beside each call stands the line that the trace prints of it.
-- Assumes nothing.
use Rattle.std.specs.Prelude.{ℕ, true, false, List, [], ◌∷◌, replicate, Err, Ok}
use Rattle.model.specs.declared.ItsState.{ItsState}
use Rattle.model.specs.declared.ItsAction.{ItsAction}
use Rattle.model.specs.declared.Command.TheVariants.{Int}
use Rattle.model.specs.declared.Refusal.TheVariants.{OpcodeUnknown, ResourceNotFound}
use Rattle.model.specs.Answer.{write_refused, write_taken}
use Rattle.model.specs.Arm.{GITS_CTLR, GITS_CBASER, GITS_CWRITER, GITS_CREADR}
use Rattle.model.specs.Keys.{delivery}
use Rattle.model.specs.Queue.{Window}
use Rattle.model.specs.Example.{example_commands, corner_commands}
use Rattle.model.specs.Corners.{with_limit, example_met}
use Rattle.its.specs.Promises.{Configures, Reads, Writes, Translates}
use Rattle.host.specs.Calls.{CallConfigures, CallReads, CallWrites, CallTranslates}
use Rattle.guarantees.specs.Actions.{an_action}
use Rattle.guarantees.specs.MappingsInForce.{Led}
use Rattle.guarantees.specs.CallsInForce.{LedByCalls}

-- GM at 0x40000000, 128 bytes
abbrev pub window : Window
window = record { address = 0x40000000; bytes = example_commands }

-- GM at 0x40000080, 64 bytes: INT (5, 9), and opcode 0E
abbrev pub corner_window : Window
corner_window = record { address = 0x40000080; bytes = corner_commands }

-- a row of 64 records, by value and as numbers
abbrev pub no_action : ItsAction
no_action = an_action (record { 0 = 0 }) (record { 0 = 0 }) false

abbrev pub row : List ItsAction
row = replicate 64 no_action

abbrev pub number_row : List ℕ
number_row = replicate 64 0

-- the row after the third write and after the fourth, of which each carries out an INT (5, 9): it makes LPI 8200 pending at processor 1
abbrev pub row_left : List ItsAction
row_left = an_action (record { 0 = 1 }) (record { 0 = 8200 }) true ∷ replicate 63 no_action

abbrev pub number_row_left : List ℕ
number_row_left = 0x1_0001_0000_2008 ∷ replicate 63 0

-- By the entries.
pub record ExampleByEntries : Type 0 where
  -- the unit after the configuration and after each of the writes
  pub fresh : ItsState
  pub based : ItsState
  pub enabled : ItsState
  pub ended : ItsState
  pub stopped : ItsState
  -- CF 0
  pub cf : Configures (with_limit 65535) (record { unit = fresh; verdict = Ok tt })
  -- WR 0 0 0 0 0
  pub wr_cbaser : Writes window row fresh GITS_CBASER 8 0x8000000040000000 (record { unit = based; answer = write_taken 0 0 }) row
  -- RD 0 1073741824
  pub rd_cbaser : Reads based GITS_CBASER 4 (Ok 1073741824)
  -- WR 0 0 0 0 0
  pub wr_ctlr : Writes window row based GITS_CTLR 4 1 (record { unit = enabled; answer = write_taken 0 0 }) row
  -- WR 0 0 0 4 1 and AC 1 8200 1
  pub wr_cwriter : Writes window row enabled GITS_CWRITER 8 128 (record { unit = ended; answer = write_taken 4 1 }) row_left
  -- RD 0 128
  pub rd_creadr : Reads ended GITS_CREADR 8 (Ok 128)
  -- TR 0 8200 1
  pub tr_5_9 : Translates ended (record { 0 = 5 }) (record { 0 = 9 }) (Ok (delivery (record { 0 = 8200 }) (record { 0 = 1 })))
  -- TR 8 0 0
  pub tr_5_8 : Translates ended (record { 0 = 5 }) (record { 0 = 8 }) (Err ResourceNotFound)
  -- such calls lead to that unit, and carry out the four commands
  pub led : Led (with_limit 65535) ended example_met
  -- WR 20 14 160 1 1 and AC 1 8200 1
  pub wr_corner : Writes corner_window row ended GITS_CWRITER 8 192 (record { unit = stopped; answer = write_refused OpcodeUnknown 14 160 1 1 }) row_left
  -- the INT is carried out, and the command behind it is not
  pub led_on : Led (with_limit 65535) stopped (Int (record { 0 = 5 }) (record { 0 = 9 }) ∷ example_met)

-- By the C calls for hosts, in the numbers that they return and tell.
pub record ExampleByCalls : Type 0 where
  pub fresh : ItsState
  pub based : ItsState
  pub enabled : ItsState
  pub ended : ItsState
  pub stopped : ItsState
  -- CF 0
  pub cf : CallConfigures (65535 ∷ 64 ∷ 65536 ∷ []) (0 ∷ 1 ∷ []) fresh 0 (0 ∷ 0 ∷ 0 ∷ 0 ∷ 0 ∷ [])
  -- WR 0 0 0 0 0
  pub wr_cbaser : CallWrites window number_row fresh GITS_CBASER 8 0x8000000040000000 based number_row 0 (0 ∷ 0 ∷ 0 ∷ 0 ∷ 0 ∷ [])
  -- RD 0 1073741824
  pub rd_cbaser : CallReads based GITS_CBASER 4 0 (0 ∷ 1073741824 ∷ 0 ∷ 0 ∷ 0 ∷ [])
  -- WR 0 0 0 0 0
  pub wr_ctlr : CallWrites window number_row based GITS_CTLR 4 1 enabled number_row 0 (0 ∷ 0 ∷ 0 ∷ 0 ∷ 0 ∷ [])
  -- WR 0 0 0 4 1 and AC 1 8200 1
  pub wr_cwriter : CallWrites window number_row enabled GITS_CWRITER 8 128 ended number_row_left 0 (0 ∷ 0 ∷ 0 ∷ 4 ∷ 1 ∷ [])
  -- RD 0 128
  pub rd_creadr : CallReads ended GITS_CREADR 8 0 (0 ∷ 128 ∷ 0 ∷ 0 ∷ 0 ∷ [])
  -- TR 0 8200 1
  pub tr_5_9 : CallTranslates ended 5 9 0 (0 ∷ 8200 ∷ 1 ∷ 0 ∷ 0 ∷ [])
  -- TR 8 0 0
  pub tr_5_8 : CallTranslates ended 5 8 8 (8 ∷ 0 ∷ 0 ∷ 0 ∷ 0 ∷ [])
  -- such calls lead to that unit, and carry out the four commands
  pub led : LedByCalls (with_limit 65535) ended example_met
  -- WR 20 14 160 1 1 and AC 1 8200 1
  pub wr_corner : CallWrites corner_window number_row ended GITS_CWRITER 8 192 stopped number_row_left 20 (20 ∷ 14 ∷ 160 ∷ 1 ∷ 1 ∷ [])
  -- the INT is carried out, and the command behind it is not
  pub led_on : LedByCalls (with_limit 65535) stopped (Int (record { 0 = 5 }) (record { 0 = 9 }) ∷ example_met)
