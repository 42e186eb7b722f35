-- `trace::run_trace` meets its contract. The invariant is `Going`: what is left to do gives the same end as the whole.
use mathlib.Core.Path.{sym, ◌∙◌}
use Rattle.trace.proofs.Going.{begins, ready, again, less, within, answer}
use Rattle.trace.proofs.run_trace.Goals as goal

pub loop-out-init : goal.loop-out-init
loop-out-init c = begins c.args.trace.now c.args.out.now c.start-run.result c.start-run.ensures

pub step-run-requires : goal.step-run-requires
step-run-requires c = let h = c.loop-out in ready c.args.trace.now c.args.out.now h.out h.run h.invariant

pub loop-out-smaller : goal.loop-out-smaller
loop-out-smaller c =
    let h = c.loop-out in
    let a = c.args in
    let s = c.step-run in
    less a.trace.now a.out.now h.out h.run h.invariant (sym c.goes_on.ensures ∙ c.loop-out-test.true) s.new.out s.result s.ensures

pub loop-out-preserved : goal.loop-out-preserved
loop-out-preserved c =
    let h = c.loop-out in
    let a = c.args in
    let s = c.step-run in
    again a.trace.now a.out.now h.out h.run h.invariant (sym c.goes_on.ensures ∙ c.loop-out-test.true) s.new.out s.result s.ensures s.auto.out

pub number_returned-requires : goal.number_returned-requires
number_returned-requires c =
    let h = c.loop-out in
    within c.args.trace.now c.args.out.now h.out h.run h.invariant (sym c.goes_on.ensures ∙ c.loop-out-test.false)

pub returns : goal.returns
returns c =
    let h = c.loop-out in
    let a = c.args in
    let t = answer a.trace.now a.out.now h.out h.run h.invariant (sym c.goes_on.ensures ∙ c.loop-out-test.false) in
    (c.number_returned.ensures ∙ t.0, t.1)
