-- `trace::records::windowed` meets its contract: a GM that is too short, one that is too long, one that is cut off, and a whole one.
use Prim.Native.Nat.{◌+◌}
use native.Mathlib.Omega.{arith}
use mathlib.Core.Path.{◌∙◌, ap}
use Rattle.trace.specs.Records.{output_of, stand_at}
use Rattle.trace.proofs.Parsing.{size_left, gm_short, gm_long, gm_cut, gm_whole}
use Rattle.trace.proofs.records.windowed.Goals as goal

pub returns-then-bytes-lt14 : goal.returns-then-bytes-lt14
returns-then-bytes-lt14 c =
    let a = c.args in
    rw (gm_short a.bytes.now c.if-bytes-lt14.true) c.broken_off.ensures

pub returns-then-size-gt4096 : goal.returns-then-size-gt4096
returns-then-size-gt4096 c =
    let a = c.args in
    rw (gm_long a.bytes.now c.if-bytes-lt14.false (omega (arith, c.number_at-size.ensures.0))) c.broken_off-then-size-gt4096.ensures

pub returns-then-bytes-whole : goal.returns-then-bytes-whole
returns-then-bytes-whole c =
    let a = c.args in
    let size = c.number_at-size.ensures.0 in
    rw (gm_cut a.bytes.now c.if-bytes-lt14.false (omega (arith, size)) (omega (arith, size))) c.broken_off-then-bytes-whole.ensures

pub returns : goal.returns
returns c =
    let a = c.args in
    let n = c.number_at-size in
    let size = n.ensures.0 in
    rw (gm_whole a.bytes.now (omega (arith, size)) (omega (arith, size)), size_left)
    (ap
    (λ t. stand_at (output_of t) t.run.at (record { address = c.number_at-address.result; from = a.run.at + 14; size = n.result }) t.run.unit)
    c.moved.ensures
    ∙ rw (
      c.of_window-line.ensures,
      c.number_at-address.ensures.0,
      size,
    ))
