-- What the public entries promise: the predicate that each `ensures` names, over the inputs and what comes back. Each says that the answer is that of
-- the model's entry, and so that its numbers are the paper's; it asks nothing of the inputs.
-- Assumes nothing.
use Rattle.std.specs.Prelude.{ℕ, ◌≡◌, List, ◌++◌, take, drop, ltb, if◌then◌else◌}
use Rattle.model.specs.declared.ItsDeviceId.{ItsDeviceId}
use Rattle.model.specs.declared.EventId.{EventId}
use Rattle.model.specs.declared.ItsConfig.{ItsConfig}
use Rattle.model.specs.declared.ItsState.{ItsState}
use Rattle.model.specs.declared.ItsAction.{ItsAction}
use Rattle.model.specs.declared.Configured.{Configured}
use Rattle.model.specs.declared.Written.{Written}
use Rattle.model.specs.Answer.{ReadAnswer, TranslateAnswer}
use Rattle.model.specs.Refusal.{verdict_number, read_numbers, write_numbers, translate_numbers}
use Rattle.model.specs.Config.{answers_no_unit}
use Rattle.model.specs.Queue.{Window}
use Rattle.model.specs.Entry.{configure, configure_tells, read, read_tells, write, write_tells, translate, translate_tells}
use Rattle.model.specs.Trace.{lent_row}
use Rattle.its.specs.declared.WrittenRow.{WrittenRow}

-- the unit that stands where none was configured
abbrev pub NoUnit : ItsState → Type 0
NoUnit r = r ≡ answers_no_unit

pub record Configures (k : ItsConfig) (r : Configured) : Type 0 where
  -- unit and verdict
  pub answer : r ≡ configure k
  pub numbers : verdict_number r.verdict ≡ configure_tells k

-- a read leaves the unit as it is: none comes back
pub record Reads (u : ItsState) (offset width : ℕ) (r : ReadAnswer) : Type 0 where
  pub answer : r ≡ read u offset width
  pub numbers : read_numbers r ≡ read_tells u offset width

-- w is the lent window; row is the lent row before the call and left what stands in it afterwards
pub record Writes (w : Window) (row : List ItsAction) (u : ItsState) (offset width value : ℕ) (r : Written) (left : List ItsAction) : Type 0 where
  -- unit and answer
  pub answer : r ≡ (write w row u offset width value).written
  pub row_is : left ≡ (write w row u offset width value).row
  pub numbers : write_numbers r.answer ≡ write_tells w row u offset width value

-- what a write answers, beside the row as it is left
abbrev pub beside_row : Written → List ItsAction → WrittenRow
beside_row r left = record { unit = r.unit; answer = r.answer; row = left }

-- Follows the code: how many records the helper `lent_of` lends where a caller asks for `room`. It is what `take room lent_row` comes to.
abbrev pub lent_of : ℕ → ℕ
lent_of room = if ltb room 1024 then room else 1024

-- the same write with the first `room` of the 1,024 records of a row, which is lent to it and comes back
pub record WritesLent (w : Window) (room : ℕ) (u : ItsState) (offset width value : ℕ) (r : WrittenRow) : Type 0 where
  pub answer : r ≡ beside_row (write w (take room lent_row) u offset width value).written ((write w (take room lent_row) u offset width value).row ++ drop room lent_row)
  pub numbers : write_numbers r.answer ≡ write_tells w (take room lent_row) u offset width value

pub record Translates (u : ItsState) (d : ItsDeviceId) (e : EventId) (r : TranslateAnswer) : Type 0 where
  pub answer : r ≡ translate u d e
  pub numbers : translate_numbers r ≡ translate_tells u d e
