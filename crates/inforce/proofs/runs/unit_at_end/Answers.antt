-- `inforce::runs::unit_at_end` meets its contract: what is left gives the same end as the whole.
use Prim.Native.Nat.{◌-◌}
use mathlib.Core.Path.{◌≡◌, refl, sym, ◌∙◌}
use lib.ListN.{length}
use Rattle.inforce.proofs.Leading.{Leading, begins, ready, again, less, at_end}
use borrow.Author.Rules.{rules}
use Rattle.inforce.proofs.runs.unit_at_end.Goals as goal

pub loop-run-init : goal.loop-run-init
loop-run-init c = (refl, begins c.args.trace.now c.start-run.result c.start-run.ensures)

pub loop-run-smaller : goal.loop-run-smaller
loop-run-smaller c =
    let h = c.loop-run in
    less c.args.trace.now h.run h.invariant.1 c.loop-run-test.true _ _ _ c.step-run.ensures

pub loop-run-preserved : goal.loop-run-preserved
loop-run-preserved c =
    let h = c.loop-run in
    (c.step-run.auto.out ∙ h.invariant.0, again c.args.trace.now h.run h.invariant.1 c.loop-run-test.true _ _ _ c.step-run.ensures)
