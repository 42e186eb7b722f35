-- The counts of a run, as the code of both texts keeps them: what a turn of the model makes of them, and what they answer at the end. No sentence of
-- document 01 stands here: proofs/Counting.antt shows that the counts are the model's run.
-- Assumes nothing.
use Rattle.std.specs.Prelude.{ℕ, ◌+◌, ◌-◌, Bool, true, false, List, [], ◌∷◌, if◌then◌else◌, None, Option, Some, Ok, Err, Result}
use Rattle.model.specs.declared.ItsState.{ItsState}
use Rattle.model.specs.declared.ItsAction.{ItsAction}
use Rattle.model.specs.declared.Refusal.{Refusal}
use Rattle.model.specs.declared.WriteDone.{WriteDone}
use Rattle.model.specs.declared.WriteRefusal.{WriteRefusal}
use Rattle.model.specs.declared.Refusal.TheVariants.{BudgetExceeded}
use Rattle.model.specs.Answer.{WriteAnswer, write_refused, write_taken}
use Rattle.model.specs.Step.{actions_of}
use Rattle.model.specs.Queue.{Turn, passes, stays, carry_out, Stop, stall}
use Rattle.answers.specs.declared.Stopped.{Stopped}
use Rattle.answers.specs.declared.Stopped.TheVariants.{Ended, Over, Halted}
use Rattle.answers.specs.declared.Halt.{Halt}
use Rattle.answers.specs.declared.Counts.{Counts}

-- One turn.

-- the unit after it
abbrev pub unit_past : ItsState → Turn → ItsState
unit_past u (passes x) = carry_out u x
unit_past u (stays r opcode) = u

-- the actions that it hands over
abbrev pub handed_by : ItsState → Turn → List ItsAction
handed_by u (passes x) = actions_of u x
handed_by u (stays r opcode) = []

-- the code's account of it
abbrev pub acts : List ItsAction → Bool
acts [] = false
acts (a ∷ l) = true

abbrev pub Turned : Type 0
Turned = Result Bool Halt

abbrev pub passing : Bool → Turned
passing acted = Ok acted

abbrev pub staying : Refusal → ℕ → Turned
staying r opcode = Err (record { refusal = r; opcode = opcode })

abbrev pub turned_by : ItsState → Turn → Turned
turned_by u (passes x) = passing (acts (actions_of u x))
turned_by u (stays r opcode) = staying r opcode

-- The counts.

-- before the first turn
abbrev pub begun : ℕ → Counts
begun left = record { left = left; made = record { done = 0; actions = 0 }; stopped = Ended }

-- of a run that did not begin: more commands wait than the budget
abbrev pub over : Counts
over = record { left = 0; made = record { done = 0; actions = 0 }; stopped = Over }

-- what was done, and one command more
abbrev pub one_more : WriteDone → Bool → WriteDone
one_more m acted = record { done = m.done + 1; actions = if acted then m.actions + 1 else m.actions }

-- after a turn
abbrev pub counted_on : Counts → Turned → Counts
counted_on n (Ok acted) = record { left = n.left - 1; made = one_more n.made acted; stopped = Ended }
counted_on n (Err h) = record { left = 0; made = n.made; stopped = Halted h }

-- why they ended, as the model says it
abbrev pub stop_of : Stopped → Option Stop
stop_of Ended = None
stop_of Over = Some (record { refusal = BudgetExceeded; opcode = 0 })
stop_of (Halted h) = Some (record { refusal = h.refusal; opcode = h.opcode })

-- a command was refused
abbrev pub is_halted : Stopped → Bool
is_halted Ended = false
is_halted Over = false
is_halted (Halted h) = true

-- the unit that such a run leaves: a refused command stalls it, in strict
abbrev pub unit_left : Stopped → ItsState → ItsState
unit_left s u = if is_halted s then stall u else u

-- what a command's refusal makes of the write, after what was done, with CREADR
abbrev pub refused_at : Halt → WriteDone → ℕ → WriteRefusal
refused_at h made reader =
    record { refusal = h.refusal; opcode = h.opcode; offset = reader; done = made.done; actions = made.actions }

-- what they answer, with CREADR
abbrev pub answering_by : Stopped → ℕ → ℕ → ℕ → WriteAnswer
answering_by Ended reader done actions = write_taken done actions
answering_by Over reader done actions = write_refused BudgetExceeded 0 reader done actions
answering_by (Halted h) reader done actions = write_refused h.refusal h.opcode reader done actions

abbrev pub answering : Counts → ℕ → WriteAnswer
answering n reader = answering_by n.stopped reader n.made.done n.made.actions
