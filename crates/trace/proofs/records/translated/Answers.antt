-- `trace::records::translated` meets its contract: a TR that is cut off, and a whole one.
use Rattle.trace.proofs.Parsing.{tr_short, tr_whole}
use Rattle.trace.proofs.records.translated.Goals as goal

pub returns-then-bytes-lt10 : goal.returns-then-bytes-lt10
returns-then-bytes-lt10 c =
    let a = c.args in
    rw (tr_short a.bytes.now c.if-bytes-lt10.true) c.broken_off.ensures

pub returns : goal.returns
returns c =
    let a = c.args in
    rw (
      tr_whole a.bytes.now c.if-bytes-lt10.false,
      c.moved.ensures,
      c.of_translation.ensures,
      c.translate-answer.ensures.answer,
      c.number_at.ensures.0,
      c.number_at-2.ensures.0,
    )
