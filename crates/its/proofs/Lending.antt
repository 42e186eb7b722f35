-- The row of 1,024 records, lent as a whole: what `write_lent` answers then.
-- Assumes nothing.
use Prim.Native.Nat.{ℕ}
use native.Mathlib.Omega.{arith}
use mathlib.Core.Bool.{false}
use mathlib.Core.Path.{◌≡◌, ◌∙◌, ap}
use mathlib.Core.List.{List, ◌++◌, append-nil}
use lib.ListN.{length, drop, drop_of_length-le, length-replicate}
use lib.Seq.{take_all}
use Rattle.model.specs.declared.ItsState.{ItsState}
use Rattle.model.specs.declared.ItsAction.{ItsAction}
use Rattle.model.specs.Queue.{Window}
use Rattle.model.specs.Entry.{write}
use Rattle.model.specs.Trace.{lent_row}
use Rattle.its.specs.declared.WrittenRow.{WrittenRow}
use Rattle.its.specs.Promises.{WritesLent, beside_row}

-- where the whole row is lent, the write is that with the whole row
pub whole_row : (w : Window) (st : ItsState) (offset width value : ℕ) (o : WrittenRow) → WritesLent w 1024 st offset width value o →
    o ≡ beside_row (write w lent_row st offset width value).written (write w lent_row st offset width value).row
whole_row w st offset width value o e =
    e.answer ∙ ap (λ (l : List ItsAction). beside_row (write w l st offset width value).written ((write w l st offset width value).row ++ drop 1024 lent_row)) (take_all 1024 lent_row (omega (arith, long)))
    ∙ ap (λ (l : List ItsAction). beside_row (write w lent_row st offset width value).written ((write w lent_row st offset width value).row ++ l)) (drop_of_length-le lent_row {i = 1024} (omega (arith, long)))
    ∙ ap (λ (l : List ItsAction). beside_row (write w lent_row st offset width value).written l) (append-nil (write w lent_row st offset width value).row)
  where
    long : length lent_row ≡ 1024
    long = length-replicate {A = ItsAction} 1024 (record { target = record { 0 = 0 }; lpi = record { 0 = 0 }; pending = false })
