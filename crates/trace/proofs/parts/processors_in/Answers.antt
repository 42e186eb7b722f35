-- One processor more, and at the end all of them, or sixteen.
use Rattle.std.proofs.Common.{rules}
use native.Mathlib.Omega.{arith}
use mathlib.Core.Path.{◌≡◌, ◌∙◌}
use mathlib.Core.Logic.{inl, inr}
use lib.Dec.{leb}
use borrow.Author.Tests.{leb-true, leb-false}
use Rattle.model.proofs.Cases.{cases}
use Rattle.trace.proofs.Processors.{filled_more, filled_taken}
use Rattle.trace.proofs.parts.processors_in.Goals as goal

pub loop-i-preserved : goal.loop-i-preserved
loop-i-preserved c =
    let h = c.loop-i in
    let a = c.args in
    (rw (h.invariant.0, c.number_at.ensures.0) (filled_more h.i a.bytes.now (omega arith)), omega arith, omega arith)

pub returns : goal.returns
returns c =
    let h = c.loop-i in
    let a = c.args in
    h.invariant.0 ∙ filled_taken a.count h.i a.bytes.now (omega arith) (omega arith)
    (cases (leb a.count 16) (λ t. inl (omega (arith, leb-true a.count 16 t, c.min-i-end.ensures))) (λ f. inr (omega (arith, leb-false a.count 16 f, c.min-i-end.ensures))))
