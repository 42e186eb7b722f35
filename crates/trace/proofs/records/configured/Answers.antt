-- `trace::records::configured` meets its contract: a CF that is too short, one that is cut off, and a whole one.
use native.Mathlib.Omega.{arith}
use mathlib.Core.Path.{◌∙◌, ap}
use Rattle.trace.specs.Records.{output_of, stretch_of, stand_at}
use Rattle.trace.proofs.Parsing.{cf_short, cf_cut, cf_whole}
use Rattle.trace.proofs.records.configured.Goals as goal

pub returns-then-bytes-lt16 : goal.returns-then-bytes-lt16
returns-then-bytes-lt16 c =
    let a = c.args in
    rw (cf_short a.bytes.now c.if-bytes-lt16.true) c.broken_off.ensures

pub returns-then-bytes-size : goal.returns-then-bytes-size
returns-then-bytes-size c =
    let a = c.args in
    rw (cf_cut a.bytes.now c.if-bytes-lt16.false (omega (arith, c.number_at-count.ensures.0))) c.broken_off-then-bytes-size.ensures

pub returns : goal.returns
returns c =
    let a = c.args in
    let count = c.number_at-count.ensures.0 in
    rw (cf_whole a.bytes.now (omega (arith, count)))
    (ap (λ t. stand_at (output_of t) t.run.at (stretch_of t.run) c.configure-configured.result.unit) c.moved.ensures
    ∙ rw (
      c.of_configuration-line.ensures,
      c.configure-configured.ensures.answer,
      c.config_in-config.ensures,
      count,
    ))
