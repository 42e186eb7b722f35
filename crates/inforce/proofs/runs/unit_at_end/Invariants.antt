-- `inforce::runs::unit_at_end` meets its contract: what is left gives the same end as the whole.
use Prim.Native.Nat.{◌-◌}
use mathlib.Core.Path.{◌≡◌, refl, sym, ◌∙◌}
use lib.ListN.{length}
use Rattle.inforce.proofs.Leading.{Leading, begins, ready, again, less, at_end}
use borrow.Author.Rules.{rules}
use Rattle.inforce.proofs.runs.unit_at_end.Given as goal

abbrev pub invariant-loop-run : goal.invariant-loop-run
invariant-loop-run l = (length l.unseen ≡ 1) × Leading l.trace l.run

abbrev pub decreases-loop-run : goal.decreases-loop-run
decreases-loop-run l = length l.trace - l.run.at
