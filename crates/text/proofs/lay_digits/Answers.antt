-- `text::lay_digits` meets its contract. The invariant: what is left to lay gives the same list as the whole.
use native.Mathlib.Omega.{arith}
use mathlib.Core.Path.{◌∙◌}
use Rattle.text.proofs.Digits.{lay_none, lay_is}
use Rattle.text.proofs.lay_digits.Goals as goal

pub returns : goal.returns
returns c =
    let a = c.args in
    (lay_none _ _ _ _ c.loop-i-test.false ∙ c.loop-i.invariant) ∙ lay_is a.k a.at a.n a.out.now (omega arith)
