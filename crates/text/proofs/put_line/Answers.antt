-- `text::put_line` meets its contract: nothing after a line that did not fit; else the line whole, or none of it.
use native.Mathlib.Omega.{arith}
use Rattle.text.specs.Laying.{line_of}
use Rattle.text.proofs.Laying.{nothing, over, whole}
use Rattle.text.proofs.put_line.Goals as goal

pub returns-then-laid : goal.returns-then-laid
returns-then-laid g c = let a = c.args in nothing a.out.now a.laid (line_of a.line) c.if-laid.true

pub returns-in-None : goal.returns-in-None
returns-in-None g c =
    let a = c.args in
    rw c.full_at.ensures (over a.out.now a.laid (line_of a.line) c.if-laid.false (omega (arith, c.in-None.ensures)))

pub returns-in-Some : goal.returns-in-Some
returns-in-Some g c =
    let a = c.args in
    let h = c.in-Some in
    whole
    a.out.now
    a.laid
    (line_of a.line)
    c.lay_line.new.out
    h.end
    c.if-laid.false
    (omega (arith, h.ensures))
    c.lay_line.ensures
    (omega (arith, h.ensures))
