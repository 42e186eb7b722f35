-- `inforce::runs::list_each` meets its contract: what is left to lay gives the same output as the whole.
use Prim.Native.Nat.{◌-◌}
use lib.ListN.{length}
use Rattle.inforce.proofs.Leading.{Listing, lists, ready, list_again, list_less, all_listed}
use borrow.Author.Rules.{rules}
use Rattle.inforce.proofs.runs.list_each.Given as goal

abbrev pub invariant-loop-run : goal.invariant-loop-run
invariant-loop-run l = Listing l.trace l.initial.out l.out l.run

abbrev pub decreases-loop-run : goal.decreases-loop-run
decreases-loop-run l = length l.trace - l.run.at
