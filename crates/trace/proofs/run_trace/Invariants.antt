-- `trace::run_trace` meets its contract. The invariant is `Going`: what is left to do gives the same end as the whole.
use Prim.Native.Nat.{◌-◌}
use lib.ListN.{length}
use Rattle.trace.proofs.Going.{Going}
use Rattle.trace.proofs.run_trace.Given as goal

abbrev pub invariant-loop-out : goal.invariant-loop-out
invariant-loop-out l = Going l.trace l.initial.out l.out l.run

abbrev pub decreases-loop-out : goal.decreases-loop-out
decreases-loop-out l = length l.trace - l.run.at
