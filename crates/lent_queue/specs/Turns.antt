-- What a turn and a run leave in the numbers that are lent and in the row. No sentence of document 01 stands here: the turns and the runs are the
-- model's.
-- Assumes nothing.
use Rattle.std.specs.Prelude.{ℕ, ◌≡◌, List, [], ◌∷◌, set}
use Rattle.model.specs.declared.ItsAction.{ItsAction}
use Rattle.model.specs.Answer.{WriteAnswer}
use Rattle.model.specs.Queue.{Turn, Ran}
use Rattle.model.specs.Entry.{answer_of}
pub use Rattle.decoding.specs.Reading.{lent}
use Rattle.answers.specs.Counting.{Turned, unit_past, handed_by, turned_by}
use Rattle.lent_tables.specs.Numbers.{unit_in}
use Rattle.lent_queue.specs.Actions.{action_word, row_with}

-- the row after a turn: its action, if it made one, stands at the place given
abbrev pub row_past : List ItsAction → ℕ → List ℕ → List ℕ
row_past [] at row = row
row_past (a ∷ l) at row = set row at (action_word a)

-- the turn y: s and row are the numbers and the row before it, left and after those afterwards
pub record Turns (y : Turn) (s row : List ℕ) (at : ℕ) (r : Turned) (left after : List ℕ) : Type 0 where
  pub unit : unit_in left ≡ unit_past (unit_in s) y
  pub told : r ≡ turned_by (unit_in s) y
  pub rows : after ≡ row_past (handed_by (unit_in s) y) at row

-- the run m: row is the row before it, r what it answers, left and after the numbers and the row afterwards
pub record Leaves (m : Ran) (row : List ℕ) (r : WriteAnswer) (left after : List ℕ) : Type 0 where
  pub unit : unit_in left ≡ m.unit
  pub answer : r ≡ answer_of m
  pub rows : after ≡ row_with m.actions row
