-- `itstrace::print` meets its contract: the line LONG, or what the run wrote.
use Rattle.std.proofs.Common.{◌≤◌, ◌/◌, length, sym}
use lib.Seq.{length-take-le}
use Rattle.itstrace.proofs.Printing.{long, within, lines}
use Rattle.itstrace.proofs.print.Goals as goal

pub returns-then-input-gt32768-clause-bytes : goal.returns-then-input-gt32768-clause-bytes
returns-then-input-gt32768-clause-bytes c = long c.args.input.now c.if-input-gt32768.true

pub slice_bounds-result-end-2 : goal.slice_bounds-result-end-2
slice_bounds-result-end-2 c =
    let r = c.run_trace-number in
    let inside : r.result / 16 ≤ length r.new.out =
    rw (r.auto.out, c.requires) (within c.args.input.now c.args.out.now c.requires r.result r.new.out r.ensures) in
    sym (length-take-le (r.result / 16) r.new.out inside)

pub returns-clause-bytes : goal.returns-clause-bytes
returns-clause-bytes c =
    let r = c.run_trace-number in
    lines c.args.input.now c.args.out.now c.requires r.result r.new.out r.ensures c.if-input-gt32768.false
