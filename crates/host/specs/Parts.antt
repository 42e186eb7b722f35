-- What the parts of the C calls promise: a configuration as it is made of what the host gives, and a write before its answer is told.
-- Assumes nothing.
use Rattle.std.specs.Prelude.{ℕ, ◌≡◌, List, map, length, ltb, if◌then◌else◌}
use Rattle.model.specs.Answer.{WriteAnswer}
use Rattle.model.specs.Queue.{Window}
use Rattle.model.specs.Entry.{write}
use Rattle.lent_tables.specs.Numbers.{unit_in}
use Rattle.lent_queue.specs.Actions.{action_in, row_with}
use Rattle.host.specs.Calls.{setting, none_further, actions_made, LeftAlone}

-- how many processors there are; seventeen stands for any number above sixteen
abbrev pub count_given : List ℕ → ℕ
count_given ps = if ltb (length ps) 17 then length ps else 17

-- the limit as it is made: where there is a setting that this unit does not know it is 0, with which no configuration is accepted
abbrev pub limit_given : List ℕ → ℕ
limit_given ss = if none_further ss then setting ss 0 else 0

-- a write before its answer is told: given and s are the row and the numbers before it, after and left those afterwards
pub record Wrote (w : Window) (given s : List ℕ) (offset width value : ℕ) (r : WriteAnswer) (left after : List ℕ) : Type 0 where
  pub unit : unit_in left ≡ (write w (map action_in given) (unit_in s) offset width value).written.unit
  pub answer : r ≡ (write w (map action_in given) (unit_in s) offset width value).written.answer
  pub alone : LeftAlone s left
  pub row : after ≡ row_with (actions_made w (map action_in given) (unit_in s) offset width value) given
