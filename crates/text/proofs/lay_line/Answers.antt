-- `text::lay_line` meets its contract: the mark, the numbers and the newline, one after the other.
use native.Mathlib.Omega.{arith}
use lib.ListN.{length-set}
use Rattle.text.proofs.WholeLine.{line_length, line_laid}
use Rattle.text.proofs.lay_line.Goals as goal

pub bounds-out-at : goal.bounds-out-at
bounds-out-at g c = omega (arith, line_length c.args.line.now)

pub bounds-out-at-2 : goal.bounds-out-at-2
bounds-out-at-2 g c = rw length-set (omega (arith, line_length c.args.line.now))

pub lay_numbers-end-requires : goal.lay_numbers-end-requires
lay_numbers-end-requires g c = rw (length-set, length-set) (omega (arith, line_length c.args.line.now))

pub bounds-out-end : goal.bounds-out-end
bounds-out-end g c =
    let n = c.lay_numbers-end in
    rw (n.auto.out, length-set, length-set) (omega (arith, n.ensures.0, line_length c.args.line.now))

pub returns : goal.returns
returns g c =
    let a = c.args in
    let n = c.lay_numbers-end in
    rw n.ensures.1 (line_laid a.out.now a.at n.result a.line.now (omega arith) n.ensures.0)
