-- WHAT FOLLOWS from what a write keeps (Kept), in sentences of 01 and 02: nothing more is asked of a write here. Behind each sentence stand the fields that it
-- follows from. The names of parameters are those of Kept.antt; "what is stored" is what model: `Entry.stores` says of s.
-- Assumes nothing.
use Rattle.std.specs.Prelude.{ℕ, ◌-◌, ◌/◌, ◌≤◌, ◌<◌, ◌≡◌, true, false, List}
use Rattle.model.specs.declared.ItsState.{ItsState}
use Rattle.model.specs.declared.ItsAction.{ItsAction}
use Rattle.model.specs.declared.RegisterWrite.{RegisterWrite}
use Rattle.model.specs.declared.Refusal.{Refusal}
use Rattle.model.specs.declared.Refusal.TheVariants.{BudgetExceeded}
use Rattle.model.specs.declared.Written.{Written}
use Rattle.model.specs.Answer.{write_refused}
use Rattle.model.specs.Choose.{if_found}
use Rattle.model.specs.Arm.{command_size}
use Rattle.model.specs.With.{with_registers, with_stalled, with_reader, unit_stalled}
use Rattle.model.specs.Config.{queue_size, sound_unit}
use Rattle.model.specs.Decode.{opcode_of}
use Rattle.model.specs.Queue.{Window, command_at, command_address, distance, waiting, may_run}
use Rattle.model.specs.Passed.{ring_offset}
use Rattle.guarantees.specs.Actions.{done_in, actions_in, passed_by, ints_and_clears}
use Rattle.guarantees.specs.Refusals.{at_command, given_at, IfRefused}

-- DONE IS CREADR'S ADVANCE, of a sound unit, also one that was built by hand.
pub record RingFollows (u : ItsState) (s : RegisterWrite) (r : Written) : Type 0 where
  -- CREADR passed as many commands as were done, and the other registers are as they were stored, but for Stalled (shown, carried, unit_left)
  pub registers : r.unit.registers ≡ with_stalled (with_reader s.registers (ring_offset s.registers (done_in r))) r.unit.registers.stalled
  -- so it advanced by exactly 32 times that number, modulo the queue size (what is stored: but for CBASER's write, base and CREADR are as they were)
  pub advance : s.rebased ≡ false → r.unit.registers.creadr ≡ ring_offset u.registers (done_in r)
  -- and done is the number of commands from the old CREADR to the new one, round the ring (at_most)
  pub done : s.rebased ≡ false → done_in r ≡ distance u.registers.creadr r.unit.registers.creadr (queue_size u.registers.cbaser) / command_size
  -- no other number of those that waited leads to where CREADR stands: done cannot be made up (at_most)
  pub only : (n : ℕ) → n ≤ waiting s.registers → r.unit.registers.creadr ≡ ring_offset s.registers n → n ≡ done_in r
  -- a stored CBASER write resets CREADR, and has done 0 (not_run, what is stored)
  pub new_base : s.rebased ≡ true → (done_in r ≡ 0) × (r.unit.registers.creadr ≡ 0)
  -- no more was done than the budget allows (at_most, not_run, may_not, too_many)
  pub in_budget : done_in r ≤ u.config.command_budget

-- THE COMMANDS, of every unit.
pub record CommandsFollow (w : Window) (row : List ItsAction) (u : ItsState) (s : RegisterWrite) (r : Written) (left : List ItsAction) : Type 0 where
  -- the configuration never changes (carried, unit_left)
  pub config : r.unit.config ≡ u.config
  -- actions is k, the number of INT and CLEAR carried out in this write, refused or not: none is of the refused command, none of an earlier write
  -- (02, A2; carried, handed_over)
  pub as_many : actions_in r ≡ ints_and_clears (passed_by w u r)
  -- where none was done, nothing changed but what the write stores, and Stalled where the first one was refused; the row is as it was (carried,
  -- unit_left, in_row)
  pub none_done : done_in r ≡ 0 → (r.unit ≡ unit_stalled (with_registers u s.registers) r.unit.registers.stalled) × (left ≡ row)

-- A refused command, the first one or a later one. Beside this stand StopsAt (its reason, its opcode, its offset) and, as of every write, the earlier
-- commands carried out and the row that holds their actions (carried, in_row).
pub record CommandRefused (w : Window) (u : ItsState) (s : RegisterWrite) (r : Written) (opcode done : ℕ) : Type 0 where
  -- the unit was sound, so what is kept of the ring is kept (an unsound unit answers 1)
  pub sound : sound_unit u ≡ true
  -- CREADR stands on it: as many commands on from the old CREADR as were done (advance)
  pub reader : r.unit.registers.creadr ≡ ring_offset u.registers done
  -- it is one of those that waited, which are within the budget (waits, too_many)
  pub waited : done < waiting s.registers
  pub within : waiting s.registers ≤ u.config.command_budget
  -- it waits still, with those behind it, in a unit whose queue may run, in strict once Stalled is cleared (registers, at_most, may)
  pub remain : waiting r.unit.registers ≡ waiting s.registers - done
  pub may_still : may_run r.unit.config (with_stalled r.unit.registers false) ≡ true
  -- opcode is the command's, and 0 where it was not read (fails)
  pub opcode_read : opcode ≡ if_found (command_at w (command_address r.unit.registers r.unit.registers.creadr)) opcode_of 0

-- more commands wait than the budget: only what the write stores changed; the offset is CREADR, which did not move, and nothing is handed over
abbrev pub OnlyStored : ItsState → RegisterWrite → Written → Type 0
OnlyStored u s r = r ≡ record { unit = with_registers u s.registers; answer = write_refused BudgetExceeded 0 u.registers.creadr 0 0 }

-- A REFUSAL, of every unit.
pub record RefusalFollows (w : Window) (row : List ItsAction) (u : ItsState) (s : RegisterWrite) (r : Written) (left : List ItsAction) : Type 0 where
  -- unless it is a command's, no command was done, nothing is handed over, and the row is as it was (before_all, writer, too_many, none_done)
  pub elsewhere : (why : Refusal) → (given_at why ≡ at_command → ⊥) → IfRefused r why (λ opcode at done actions.
      (opcode ≡ 0) × (done ≡ 0) × (actions ≡ 0) × (left ≡ row))
  -- after 5 the register write stays stored, and nothing else changed (only_then, too_many)
  pub by_5 : IfRefused r BudgetExceeded (λ opcode at done actions. OnlyStored u s r)
  -- and of a refused command
  pub of_a_command : (why : Refusal) → given_at why ≡ at_command → IfRefused r why (λ opcode at done actions. CommandRefused w u s r opcode done)
