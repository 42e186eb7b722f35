-- Document 01, "Refusal numbers" and "Registers": the public entries: what each answers, and what it leaves in the unit and in the row.
-- Assumes nothing.
use Rattle.std.specs.Prelude.{ℕ, List, ◌++◌, length, drop, if◌then◌else◌, Err, Ok}
use Rattle.model.specs.declared.ItsDeviceId.{ItsDeviceId}
use Rattle.model.specs.declared.EventId.{EventId}
use Rattle.model.specs.declared.ItsConfig.{ItsConfig}
use Rattle.model.specs.declared.ItsRegisters.{ItsRegisters}
use Rattle.model.specs.declared.ItsState.{ItsState}
use Rattle.model.specs.declared.ItsAction.{ItsAction}
use Rattle.model.specs.declared.RegisterWrite.{RegisterWrite}
use Rattle.model.specs.declared.Refusal.TheVariants.{Unsound, ResourceNotFound}
use Rattle.model.specs.declared.Configured.{Configured}
use Rattle.model.specs.declared.Written.{Written}
use Rattle.model.specs.Answer.{ReadAnswer, TranslateAnswer, WriteAnswer, write_refused, write_taken}
use Rattle.model.specs.Choose.{◌or◌then◌, if_found}
use Rattle.model.specs.Refusal.{verdict_number, ReadNumbers, read_numbers, WriteNumbers, write_numbers, TranslateNumbers, translate_numbers}
use Rattle.model.specs.With.{with_registers}
use Rattle.model.specs.Config.{sound_config, sound_unit, fresh_unit, answers_no_unit}
use Rattle.model.specs.Step.{delivery_in}
use Rattle.model.specs.Queue.{Window, Ran, run_queue}
use Rattle.model.specs.Register.{register_at, read_of}
use Rattle.model.specs.Access.{check_read, if_accepted}
use Rattle.model.specs.Writing.{register_write}

-- Configuration. A refused one gives a unit that answers 1 to everything.
unfoldable pub configure : ItsConfig → Configured
configure k =
    if sound_config k
    then record { unit = fresh_unit k; verdict = Ok tt }
    else record { unit = answers_no_unit; verdict = Err Unsound }

-- A read, of configuration and registers.
unfoldable pub read_from : ItsConfig → ItsRegisters → ℕ → ℕ → ReadAnswer
read_from k r offset width = if_accepted (check_read k r offset width) (Ok (read_of k r offset width (register_at offset))) Err

-- of a unit
abbrev pub read : ItsState → ℕ → ℕ → ReadAnswer
read u offset width = read_from u.config u.registers offset width

-- A translation works on a disabled unit too.
unfoldable pub translate : ItsState → ItsDeviceId → EventId → TranslateAnswer
translate u d e =
    sound_unit u or Err Unsound then
    if_found (delivery_in u d e) Ok (Err ResourceNotFound)

-- A write: the unit and the answer, and the row.
pub record Outcome : Type 0 where
  pub written : Written
  pub row : List ItsAction

-- what a write answers after a run: opcode is the command's, else 0; offset for 5, 6 and refused commands is CREADR's, without Stalled; actions is the
-- number handed over, k: that of the actions that the run made, whether a command was refused or not (02, A2). 5 runs no command and has none
abbrev pub answer_of : Ran → WriteAnswer
answer_of r =
    if_found r.stopped
    (λ s. write_refused s.refusal s.opcode r.unit.registers.creadr r.done (length r.actions))
    (write_taken r.done (length r.actions))

-- the row's first k records hold the actions of the k INT and CLEAR carried out, refusal or not; the others are unchanged
abbrev pub row_after : List ItsAction → List ItsAction → List ItsAction
row_after actions row = actions ++ drop (length actions) row

-- what a run leaves, and its answer
abbrev pub after_run : Ran → List ItsAction → Outcome
after_run r row = record { written = record { unit = r.unit; answer = answer_of r }; row = row_after r.actions row }

-- then the queue runs, where it may
unfoldable pub running : Window → ItsState → List ItsAction → Outcome
running w u row = after_run (run_queue w u) row

-- what a write comes to: its registers are left in the unit, and the queue runs where it is let; else unit and answer are this, and the row stays
abbrev pub concluded : Window → List ItsAction → ItsState → RegisterWrite → Outcome
concluded w row u s =
    if_found s.answer
    (λ a. record { written = record { unit = with_registers u s.registers; answer = a }; row = row })
    (running w (with_registers u s.registers) row)

-- what a write does to the registers of a unit, with this row
abbrev pub stores : List ItsAction → ItsState → ℕ → ℕ → ℕ → RegisterWrite
stores row u offset width value = register_write u.config u.registers (length row) offset width value

-- a write of any offset, width and value, with any window and any row. 1, 10, 2, 3, 4 and 7 at CWRITER leave the unit unchanged, and the row
unfoldable pub write : Window → List ItsAction → ItsState → ℕ → ℕ → ℕ → Outcome
write w row u offset width value = concluded w row u (stores row u offset width value)

-- What each entry answers, in the paper's numbers.

-- a configuration: its refusal
abbrev pub configure_tells : ItsConfig → ℕ
configure_tells k = verdict_number (configure k).verdict

-- a read: refusal, value
abbrev pub read_tells : ItsState → ℕ → ℕ → ReadNumbers
read_tells u offset width = read_numbers (read u offset width)

-- a write: refusal, opcode, offset, done, actions
abbrev pub write_tells : Window → List ItsAction → ItsState → ℕ → ℕ → ℕ → WriteNumbers
write_tells w row u offset width value = write_numbers (write w row u offset width value).written.answer

-- a translation: refusal, LPI, processor
abbrev pub translate_tells : ItsState → ItsDeviceId → EventId → TranslateNumbers
translate_tells u d e = translate_numbers (translate u d e)
