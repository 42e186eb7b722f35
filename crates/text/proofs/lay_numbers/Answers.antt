-- `text::lay_numbers` meets its contract. The invariant: the numbers that are left, laid from here on, give the same list as all of them.
use native.Mathlib.Omega.{arith}
use mathlib.Core.Path.{sym, ◌∙◌, ap}
use lib.ListN.{length}
use Rattle.text.proofs.Spaced.{left_length, left_out, one_laid}
use Rattle.text.proofs.Places.{none}
use Rattle.text.proofs.lay_numbers.Goals as goal

pub loop-n-preserved : goal.loop-n-preserved
loop-n-preserved c =
    let h = c.loop-n in
    let a = c.args in
    let n = c.lay_number-place in (
      rw (n.ensures.0, n.ensures.1) (one_laid h.out h.place h.n-index a.numbers.now (omega arith) (omega arith) ∙ h.invariant.0),
      omega (arith, left_length h.n-index a.numbers.now (omega arith)),
    )

pub returns : goal.returns
returns c =
    let h = c.loop-n in
    let a = c.args in
    let over = left_out h.n-index a.numbers.now (omega arith) in
    (omega (arith, ap length over), sym (none h.out h.place) ∙ rw over at h.invariant.0)
