-- WHAT A WRITE KEEPS, of the ring, of the commands and of a refusal: three records, and no field follows from the others. w is the window, row the row
-- before the write and left what stands in it afterwards, u the unit before the write, s what the write does to its registers (model: `Entry.stores`),
-- r the unit and the answer. What follows from the three is said in Follows.antt, and what becomes of Stalled in Stalled.antt.
-- Assumes nothing.
use Rattle.std.specs.Prelude.{ℕ, ◌≤◌, ◌<◌, ◌≡◌, true, false, List, ◌++◌, length, drop}
use Rattle.model.specs.declared.ItsState.{ItsState}
use Rattle.model.specs.declared.ItsAction.{ItsAction}
use Rattle.model.specs.declared.Register.TheVariants.{Cwriter}
use Rattle.model.specs.declared.RegisterWrite.{RegisterWrite}
use Rattle.model.specs.declared.Refusal.{Refusal}
use Rattle.model.specs.declared.Refusal.TheVariants.{WriterRefused, BudgetExceeded, LineDoesNotFit}
use Rattle.model.specs.declared.Written.{Written}
use Rattle.model.specs.Answer.{write_refused, write_taken}
use Rattle.model.specs.With.{with_registers, unit_stalled}
use Rattle.model.specs.Config.{sound_unit}
use Rattle.model.specs.Queue.{Window, waiting, stays, turn, may_run}
use Rattle.model.specs.Register.{register_at}
use Rattle.model.specs.Passed.{CarriedOut}
use Rattle.model.specs.Writing.{then_runs}
use Rattle.guarantees.specs.Actions.{done_in, actions_in, passed_by}
use Rattle.guarantees.specs.Refusals.{at_entry, at_command, given_at, writer_by, IfRefused}

-- THE RING, of a sound unit, also one that was built by hand. That done is CREADR's advance follows (Follows.RingFollows).
pub record RingKept (u : ItsState) (s : RegisterWrite) (r : Written) : Type 0 where
  -- unit and ring stay sound
  pub sound : sound_unit r.unit ≡ true
  -- no more was done than waited
  pub at_most : done_in r ≤ waiting s.registers
  -- a write that lets no queue run does none, nor does one after which the queue may not run: the unit is disabled, or in strict CBASER's bit 63 is 0 or
  -- the unit stalled
  pub not_run : then_runs s ≡ false → done_in r ≡ 0
  pub may_not : may_run u.config s.registers ≡ false → done_in r ≡ 0

-- THE COMMANDS, of every unit, and of a write that is refused too.
pub record CommandsKept (w : Window) (row : List ItsAction) (u : ItsState) (s : RegisterWrite) (r : Written) (left : List ItsAction) : Type 0 where
  -- every command that was done lay whole in the window and is of one of the kinds: there are as many as the answer says
  pub shown : length (passed_by w u r) ≡ done_in r
  -- the actions of these commands, the first one first
  pub handed : List ItsAction
  -- exactly those were carried out, from the unit with the value stored, each accepted by the unit that met it, and they led to this unit
  pub led_to : ItsState
  pub carried : CarriedOut (with_registers u s.registers) (passed_by w u r) handed led_to
  -- it is the unit that is left, but for Stalled, which a refused command sets in strict
  pub unit_left : r.unit ≡ unit_stalled led_to r.unit.registers.stalled
  -- the row's first records hold their actions, in order, and the others are unchanged
  pub in_row : left ≡ handed ++ drop (length handed) row
  -- the row has room for them: it has as many records as before
  pub room : length left ≡ length row
  -- the write hands over all of them, refused or not (02, A2): actions is their number
  pub handed_over : actions_in r ≡ length handed

-- The command on which CREADR stands was refused, the first one or a later one: the reason why, the opcode and the offset answered are its own.
pub record StopsAt (w : Window) (s : RegisterWrite) (r : Written) (why : Refusal) (opcode at : ℕ) : Type 0 where
  -- the queue was let run, and may run
  pub lets_run : then_runs s ≡ true
  pub may : may_run r.unit.config s.registers ≡ true
  -- the command waits still
  pub waits : 0 < waiting r.unit.registers
  -- the unit that is left refuses it, for this reason and with this opcode
  pub fails : turn w r.unit ≡ stays why opcode
  -- the offset answered is CREADR's, without Stalled
  pub offset : at ≡ r.unit.registers.creadr

-- REFUSAL AND ANSWER, of every unit, by the place where a refusal is given (Refusals.given_at). offset, width and value are those of the write.
pub record RefusalKept (w : Window) (u : ItsState) (offset width value : ℕ) (s : RegisterWrite) (r : Written) : Type 0 where
  -- 1, 10, 2, 3, 4: the unit is unchanged; opcode, offset, done and actions are 0
  pub before_all : (why : Refusal) → given_at why ≡ at_entry → IfRefused r why (λ opcode at done actions. r ≡ record { unit = u; answer = write_refused why 0 0 0 0 })
  -- 7, of CWRITER: the same, but the offset is the refused writer
  pub writer : IfRefused r WriterRefused (λ opcode at done actions.
      (register_at offset ≡ Cwriter) × (r ≡ record { unit = u; answer = write_refused WriterRefused 0 (writer_by u offset width value) 0 0 }))
  -- 5 is tested once, before any command: where more wait than the budget, that is the answer; the offset is CREADR, nothing is done, nothing handed
  -- over, and nothing but what the write stores changed
  pub too_many : then_runs s ≡ true → may_run u.config s.registers ≡ true → u.config.command_budget < waiting s.registers →
      r ≡ record { unit = with_registers u s.registers; answer = write_refused BudgetExceeded 0 s.registers.creadr 0 0 }
  -- and 5 is answered only then
  pub only_then : IfRefused r BudgetExceeded (λ opcode at done actions.
      (then_runs s ≡ true) × (may_run u.config s.registers ≡ true) × (u.config.command_budget < waiting s.registers))
  -- 20 to 27, 6, 8 and 9: of a command
  pub at_a_command : (why : Refusal) → given_at why ≡ at_command → IfRefused r why (λ opcode at done actions. StopsAt w s r why opcode at)
  -- 11 is the C call's: no write answers it
  pub never_11 : IfRefused r LineDoesNotFit (λ opcode at done actions. ⊥)
  -- a write that is taken and lets a queue run that may leaves no command waiting
  pub taken : (done actions : ℕ) → r.answer ≡ write_taken done actions → then_runs s ≡ true → may_run u.config s.registers ≡ true →
      r.unit.registers.creadr ≡ s.registers.cwriter
