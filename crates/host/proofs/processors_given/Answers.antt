-- One processor more, and at the end all of them, or sixteen.
use native.Mathlib.Omega.{arith}
use Prim.Native.Nat.{◌≤◌}
use mathlib.Core.Path.{◌≡◌, ◌∙◌}
use mathlib.Core.Logic.{inl, inr}
use lib.Dec.{leb}
use lib.ListN.{length}
use borrow.Author.Tests.{leb-true, leb-false}
use Rattle.model.proofs.Cases.{cases}
use Rattle.host.proofs.Given.{filled_more, filled_taken}
use Rattle.host.proofs.processors_given.Goals as goal

pub loop-i-preserved : goal.loop-i-preserved
loop-i-preserved c =
    let h = c.loop-i in
    let a = c.args in
    (rw h.invariant.0 (filled_more h.i a.numbers.now (omega arith) (omega arith)), omega arith, omega arith)

pub returns : goal.returns
returns c =
    let h = c.loop-i in
    let n = length c.args.numbers.now in
    h.invariant.0 ∙ filled_taken h.i c.args.numbers.now (omega arith) (omega arith)
    (cases (leb n 16) (λ t. inl (omega (arith, leb-true n 16 t, c.min-i-end.ensures))) (λ f. inr (omega (arith, leb-false n 16 f, c.min-i-end.ensures))))
