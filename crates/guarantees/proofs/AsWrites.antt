-- `write_lent` and `its_write` are `write_its`, with a row that is lent in another form: what holds of every write holds of them.
-- Assumes nothing.
use Prim.Native.Nat.{ℕ}
use mathlib.Core.Path.{◌≡◌, refl, ap}
use mathlib.Core.List.{List, ◌++◌, map}
use lib.ListN.{take, drop}
use Rattle.model.specs.declared.ItsState.{ItsState}
use Rattle.model.specs.declared.ItsAction.{ItsAction}
use Rattle.model.specs.Answer.{WriteAnswer}
use Rattle.model.specs.Queue.{Window}
use Rattle.model.specs.Entry.{write}
use Rattle.model.specs.Trace.{lent_row}
use Rattle.its.specs.declared.WrittenRow.{WrittenRow}
use Rattle.its.specs.Promises.{Writes, WritesLent}
use Rattle.host.specs.Calls.{Tells, numbers_of_write, action_in, CallWrites}

pub lent_writes : (w : Window) (room : ℕ) (u : ItsState) (offset width value : ℕ) (r : WrittenRow) → WritesLent w room u offset width value r →
    (left : List ItsAction) × (Writes w (take room lent_row) u offset width value (record { unit = r.unit; answer = r.answer }) left × (r.row ≡ left ++ drop room lent_row))
lent_writes w room u offset width value r e = (
  (write w (take room lent_row) u offset width value).row,
  (
    record { answer = ap (λ z. record { unit = z.unit; answer = z.answer }) e.answer; row_is = refl; numbers = e.numbers },
    ap (λ z. z.row) e.answer,
  ),
)

pub call_writes : (w : Window) (row : List ℕ) (u : ItsState) (offset width value : ℕ) (left : ItsState) (after : List ℕ) (r : ℕ) (told : List ℕ) →
    CallWrites w row u offset width value left after r told →
    (a : WriteAnswer) × (Writes w (map action_in row) u offset width value (record { unit = left; answer = a }) (map action_in after) × Tells (numbers_of_write a) r told)
call_writes w row u offset width value left after r told c =
    let a = (write w (map action_in row) u offset width value).written.answer in
    (a, (record { answer = ap (λ v. record { unit = v; answer = a }) c.unit; row_is = c.row_reads; numbers = refl }, c.told))
