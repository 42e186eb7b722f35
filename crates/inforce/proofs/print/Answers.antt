-- `inforce::print` meets its contract: the line LONG, or the lines as they were laid.
use Rattle.std.proofs.Common.{◌≤◌, length, sym}
use lib.Seq.{length-take-le}
use Rattle.inforce.proofs.Printing.{long, within, lines}
use Rattle.inforce.proofs.print.Goals as goal

pub returns-then-input-gt32768-clause-bytes : goal.returns-then-input-gt32768-clause-bytes
returns-then-input-gt32768-clause-bytes c = long c.args.input.now c.if-input-gt32768.true

pub slice_bounds-result-end-2 : goal.slice_bounds-result-end-2
slice_bounds-result-end-2 c =
    let s = c in
    let r = c.lay-laid in
    let inside : r.result.at ≤ length r.new.out =
    rw (r.auto.out, s.requires) (within s.args.input.now s.args.out.now s.requires r.new.out r.result r.ensures) in
    sym (length-take-le r.result.at r.new.out inside)

pub returns-clause-bytes : goal.returns-clause-bytes
returns-clause-bytes c =
    let s = c in
    let r = c.lay-laid in
    lines s.args.input.now s.args.out.now s.requires r.new.out r.result r.ensures c.if-input-gt32768.false
