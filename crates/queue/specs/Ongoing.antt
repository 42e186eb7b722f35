-- A run between two commands, as the code holds it, and how a turn of the model moves it on. No sentence of document 01 stands here:
-- proofs/Ongoing.antt shows that the turns add up to the model's run.
-- Assumes nothing.
use Rattle.std.specs.Prelude.{ℕ, ◌+◌, ◌<◌, ◌≤◌, ◌≡◌, Bool, true, List, [], ◌∷◌, leb, ltb, if◌then◌else◌, None, Option, Some}
use Rattle.model.specs.declared.ItsState.{ItsState}
use Rattle.model.specs.declared.ItsAction.{ItsAction}
use Rattle.model.specs.declared.Written.{Written}
use Rattle.model.specs.Answer.{WriteAnswer}
use Rattle.model.specs.Choose.{◌or◌then◌}
use Rattle.model.specs.Queue.{Window, Stands, Turn, waiting, command_address, run, halting, may_run}
use Rattle.model.specs.Entry.{Outcome, after_run}
use Rattle.answers.specs.declared.Counts.{Counts}
use Rattle.answers.specs.Counting.{unit_past, handed_by, turned_by, begun, over, counted_on, unit_left, answering}
use Rattle.decoding.specs.Reading.{turn_read}
use Rattle.queue.specs.declared.Progress.{Progress}

-- a turn may be made: a command is left, no count can wrap, and CREADR stands in the queue
pub record Ready (t : Progress) : Type 0 where
  pub some_left : 0 < t.counts.left
  pub counted : t.counts.made.done + t.counts.left ≤ 1024
  pub handed : t.counts.made.actions + t.counts.left ≤ 1024
  pub stands : Stands t.unit

-- whether a command is left
abbrev pub goes_on : Progress → Bool
goes_on t = ltb 0 t.counts.left

-- what a turn handed over, which is one action at most
abbrev pub first_of : List ItsAction → Option ItsAction
first_of [] = None
first_of (a ∷ l) = Some a

-- the unit and the counts; the action that the last turn made, if any, and its place in the row
abbrev pub progress_with : ItsState → Counts → Option ItsAction → ℕ → Progress
progress_with u n action at =
    record {
      action = action;
      at = at;
      wanted = command_address u.registers u.registers.creadr;
      counts = n;
      answer = answering n u.registers.creadr;
      unit = u;
    }

-- the same from what the last turn handed over
abbrev pub progress_of : ItsState → Counts → List ItsAction → ℕ → Progress
progress_of u n handed at = progress_with u n (first_of handed) at

-- the counts before the first turn: 5 is tested once
unfoldable pub first_counts : ItsState → Counts
first_counts u =
    if may_run u.config u.registers
    then (leb (waiting u.registers) u.config.command_budget or over then begun (waiting u.registers))
    else begun 0

unfoldable pub start_of : ItsState → Progress
start_of u = progress_of u (first_counts u) [] 0

-- a turn
unfoldable pub turned_on : Progress → Turn → Progress
turned_on t y = progress_of (unit_past t.unit y) (counted_on t.counts (turned_by t.unit y)) (handed_by t.unit y) t.counts.made.actions

-- of the command whose words were read, or of one that is not there
abbrev pub turn_of : Progress → Option (List ℕ) → Progress
turn_of t words = turned_on t (turn_read t.unit words)

-- a write whose queue is not to run
abbrev pub settled_of : ItsState → WriteAnswer → Progress
settled_of u a =
    record { action = None; at = 0; wanted = 0; counts = begun 0; answer = a; unit = u }

-- The end.

abbrev pub finish_of : Progress → Written
finish_of t = record { unit = unit_left t.counts.stopped t.unit; answer = t.answer }

-- what a write comes to from its beginning: the run of the commands that are left, or nothing more
abbrev pub end_of : Window → Progress → List ItsAction → Outcome
end_of w t row = if goes_on t then after_run (halting (run w t.counts.left t.unit)) row else record { written = finish_of t; row = row }

-- such a beginning, with a row of this many records: where the queue is to run it is a start, with room for each action
pub record Begun (t : Progress) (room : ℕ) : Type 0 where
  pub starts : goes_on t ≡ true → t ≡ progress_of t.unit (begun t.counts.left) [] 0
  pub few : goes_on t ≡ true → t.counts.left ≤ 1024
  pub room_left : goes_on t ≡ true → t.counts.left ≤ room
  pub stands : goes_on t ≡ true → Stands t.unit
