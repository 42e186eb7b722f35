-- `trace::records::put_written` meets its contract. The invariant: the lines of the actions that are left, laid from here on, give the same output as all of them.
use Prim.Native.Nat.{◌≤◌}
use mathlib.Core.Path.{◌≡◌}
use lib.ListN.{length}
use Rattle.text.specs.Laying.{output, lay_all}
use Rattle.trace.proofs.Handed.{left}
use Rattle.trace.proofs.records.put_written.Given as goal

abbrev pub invariant-loop-action : goal.invariant-loop-action
invariant-loop-action l = (lay_all (output l.out l.next) (left l.action-index l.action-items) ≡ lay_all (output l.initial.out l.initial.next) (left 0 l.action-items)) × (length l.out ≡ length l.initial.out) × (l.action-index ≤ length l.action-items)
