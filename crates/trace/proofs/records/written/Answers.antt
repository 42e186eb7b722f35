-- `trace::records::written` meets its contract: a WR that is cut off, and a whole one.
use Prim.Native.Nat.{◌+◌, ◌-◌}
use native.Mathlib.Omega.{arith}
use mathlib.Core.Path.{ap}
use Rattle.its.proofs.Lending.{whole_row}
use Rattle.trace.proofs.Parsing.{wr_short}
use Rattle.trace.proofs.WriteRecord.{carries}
use Rattle.trace.proofs.records.written.Goals as goal

pub returns-then-bytes-lt19 : goal.returns-then-bytes-lt19
returns-then-bytes-lt19 c = rw (wr_short c.args.bytes.now c.if-bytes-lt19.true) c.broken_off.ensures

pub returns : goal.returns
returns c =
    let a = c.args in
    let w = c.write_lent-w in
    let all = whole_row _ _ _ _ _ _ w.ensures in
    carries
    a.trace.now
    a.bytes.now
    a.out.now
    a.run
    c.put_written.new.out
    c.put_written.result
    w.result.unit
    w.result.answer
    w.result.row
    (a.run.from + a.run.size - a.run.from)
    c.number_at-offset.result
    c.number_at-width.result
    c.number_at-value.result
    c.if-bytes-lt19.false
    (omega arith)
    c.number_at-offset.ensures.0
    c.number_at-width.ensures.0
    c.number_at-value.ensures.0
    (ap (λ r. r.unit) all)
    (ap (λ r. r.answer) all)
    (ap (λ r. r.row) all)
    c.put_written.ensures
