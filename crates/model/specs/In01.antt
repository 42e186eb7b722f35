-- DOCUMENT 01'S UNIT, with A1's numbers and A2's actions, and without a profile: what a configuration, a read, a translation and a write are there.
-- Stalled is carried along, and not looked at. `guarantees: Profiles` says that a base unit is this one. Checks and effects of a command are in Step
-- (check_in01, effect_in01), the sizes in Config (sizes_in01).
-- Assumes nothing.
use Rattle.std.specs.Prelude.{ℕ, zero, suc, Bool, ◌&&◌, List, length, leb, if◌then◌else◌, Err, None, Ok, Some}
use Rattle.model.specs.declared.ItsDeviceId.{ItsDeviceId}
use Rattle.model.specs.declared.EventId.{EventId}
use Rattle.model.specs.declared.ItsConfig.{ItsConfig}
use Rattle.model.specs.declared.ItsRegisters.{ItsRegisters}
use Rattle.model.specs.declared.ItsState.{ItsState}
use Rattle.model.specs.declared.ItsAction.{ItsAction}
use Rattle.model.specs.declared.Register.{Register}
use Rattle.model.specs.declared.Command.{Command}
use Rattle.model.specs.declared.RegisterWrite.{RegisterWrite}
use Rattle.model.specs.declared.Refusal.TheVariants.{Unsound, RowTooShort, BudgetExceeded, NotInWindow, OpcodeUnknown, ResourceNotFound}
use Rattle.model.specs.declared.Configured.{Configured}
use Rattle.model.specs.Answer.{Decoded, ReadAnswer, TranslateAnswer}
use Rattle.model.specs.Choose.{◌or◌then◌, if_found}
use Rattle.model.specs.With.{with_registers, with_writer}
use Rattle.model.specs.Config.{sizes_in01, sound_ring, fresh_unit, answers_no_unit}
use Rattle.model.specs.Decode.{opcode_of, decode}
use Rattle.model.specs.Step.{delivery_in, check_in01, effect_in01, actions_of}
use Rattle.model.specs.Queue.{Window, command_at, waiting, command_address, Turn, passes, stays, judged, past_command, Ran, ended, and_then}
use Rattle.model.specs.Register.{register_at, value_with, read_by, written_by}
use Rattle.model.specs.Access.{check_access, if_accepted}
use Rattle.model.specs.Writing.{refusing, with_cbaser, storing_base, writer_taken, storing_writer, write_with}
use Rattle.model.specs.Entry.{Outcome, after_run}

-- configuration and ring are sound
abbrev pub sound_in01 : ItsConfig → ItsRegisters → Bool
sound_in01 k r = sizes_in01 k && sound_ring r

-- a configuration
unfoldable pub configure_in01 : ItsConfig → Configured
configure_in01 k =
    if sizes_in01 k
    then record { unit = fresh_unit k; verdict = Ok tt }
    else record { unit = answers_no_unit; verdict = Err Unsound }

-- what a register holds: CREADR its offset
abbrev pub value_in01 : ItsState → Register → ℕ
value_in01 u n = value_with u.registers.creadr u.config u.registers n

-- a read
unfoldable pub read_in01 : ItsState → ℕ → ℕ → ReadAnswer
read_in01 u offset width =
    if_accepted (sound_in01 u.config u.registers or Err Unsound then check_access u.config offset width)
    (Ok (read_by (value_in01 u) offset width (register_at offset)))
    Err

-- a translation
unfoldable pub translate_in01 : ItsState → ItsDeviceId → EventId → TranslateAnswer
translate_in01 u d e =
    sound_in01 u.config u.registers or Err Unsound then
    if_found (delivery_in u d e) Ok (Err ResourceNotFound)

-- The queue: each command in turn.
abbrev pub turn_on_in01 : ItsState → ℕ → Decoded → Turn
turn_on_in01 u opcode (Ok x) = judged (check_in01 u x) x opcode
turn_on_in01 u opcode (Err n) = stays OpcodeUnknown opcode

unfoldable pub turn_in01 : Window → ItsState → Turn
turn_in01 w u =
    if_found (command_at w (command_address u.registers u.registers.creadr))
    (λ ws. turn_on_in01 u (opcode_of ws) (decode ws))
    (stays NotInWindow 0)

unfoldable pub carry_out_in01 : ItsState → Command → ItsState
carry_out_in01 u x = with_registers (effect_in01 u x) (past_command (effect_in01 u x).registers)

abbrev pub go_on_in01 : ItsState → Turn → (ItsState → Ran) → Ran
go_on_in01 u (passes x) rest = and_then (actions_of u x) (rest (carry_out_in01 u x))
go_on_in01 u (stays r opcode) rest = ended u (Some (record { refusal = r; opcode = opcode }))

abbrev pub run_in01 : Window → ℕ → ItsState → Ran
run_in01 w zero u = ended u None
run_in01 w (suc n) u = go_on_in01 u (turn_in01 w u) (run_in01 w n)

-- an enabled unit runs its queue: 5 is tested once, then each command in turn
unfoldable pub run_queue_in01 : Window → ItsState → Ran
run_queue_in01 w u =
    if u.registers.enabled
    then (leb (waiting u.registers) u.config.command_budget or ended u (Some (record { refusal = BudgetExceeded; opcode = 0 })) then
    run_in01 w (waiting u.registers) u)
    else ended u None

-- a write of CBASER stores the value, one of CWRITER the writer that is taken of the value
abbrev pub to_cbaser_in01 : ItsRegisters → ℕ → RegisterWrite
to_cbaser_in01 r value = storing_base r value (with_cbaser r value)

abbrev pub to_cwriter_in01 : ItsRegisters → ℕ → RegisterWrite
to_cwriter_in01 r value = storing_writer r (writer_taken r value) (with_writer r (writer_taken r value))

abbrev pub write_register_in01 : ItsRegisters → ℕ → Register → RegisterWrite
write_register_in01 r value n = write_with (to_cbaser_in01 r) (to_cwriter_in01 r) r value n

-- a write
unfoldable pub stores_in01 : List ItsAction → ItsState → ℕ → ℕ → ℕ → RegisterWrite
stores_in01 row u offset width value =
    if_accepted
    (sound_in01 u.config u.registers or Err Unsound then
    leb u.config.command_budget (length row) or Err RowTooShort then
    check_access u.config offset width)
    (write_register_in01 u.registers (written_by (value_in01 u) offset width value (register_at offset)) (register_at offset))
    (refusing u.registers 0)

abbrev pub concluded_in01 : Window → List ItsAction → ItsState → RegisterWrite → Outcome
concluded_in01 w row u s =
    if_found s.answer
    (λ a. record { written = record { unit = with_registers u s.registers; answer = a }; row = row })
    (after_run (run_queue_in01 w (with_registers u s.registers)) row)

unfoldable pub write_in01 : Window → List ItsAction → ItsState → ℕ → ℕ → ℕ → Outcome
write_in01 w row u offset width value = concluded_in01 w row u (stores_in01 row u offset width value)
