-- `inforce::runs::list_each` meets its contract: what is left to lay gives the same output as the whole.
use Prim.Native.Nat.{◌-◌}
use lib.ListN.{length}
use Rattle.inforce.proofs.Leading.{Listing, lists, ready, list_again, list_less, all_listed}
use borrow.Author.Rules.{rules}
use Rattle.inforce.proofs.runs.list_each.Goals as goal

pub loop-run-init : goal.loop-run-init
loop-run-init c = lists c.args.trace.now c.args.out.now c.start-run.result c.start-run.ensures

pub loop-run-smaller : goal.loop-run-smaller
loop-run-smaller c =
    let h = c.loop-run in
    let a = c.args in
    list_less a.trace.now a.out.now h.out h.run h.invariant c.loop-run-test.true _ _ c.step_listed-run.ensures

pub loop-run-preserved : goal.loop-run-preserved
loop-run-preserved c =
    let h = c.loop-run in
    let a = c.args in
    let s = c.step_listed-run in
    list_again a.trace.now a.out.now h.out h.run h.invariant c.loop-run-test.true _ _ s.ensures s.auto.out
