-- `trace::records::read` meets its contract: an RD that is cut off, and a whole one.
use Rattle.trace.proofs.Parsing.{rd_short, rd_whole}
use Rattle.trace.proofs.records.read.Goals as goal

pub returns-then-bytes-lt11 : goal.returns-then-bytes-lt11
returns-then-bytes-lt11 c =
    let a = c.args in
    rw (rd_short a.bytes.now c.if-bytes-lt11.true) c.broken_off.ensures

pub returns : goal.returns
returns c =
    let a = c.args in
    rw (
      rd_whole a.bytes.now c.if-bytes-lt11.false,
      c.moved.ensures,
      c.of_read.ensures,
      c.read_its-answer.ensures.answer,
      c.number_at-offset.ensures.0,
      c.number_at-width.ensures.0,
    )
