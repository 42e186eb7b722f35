-- `words::event_below` meets its contract: every event lies below 2^32.
use Prim.Native.Nat.{◌<◌, ◌^◌}
use mathlib.Core.Path.{sym}
use native.Mathlib.Omega.{arith}
use lib.Pow.{pow_mono}
use borrow.Author.Rules.{rules}
use borrow.Author.Tests.{lt-ltb}
use Rattle.model.specs.Step.{event_below}
use Rattle.words.proofs.event_below.Goals as goal

pub returns-then-event_bits-ge32 : goal.returns-then-event_bits-ge32
unfolding event_below
returns-then-event_bits-ge32 c =
    let a = c.args in
    let small : a.event.0 < 2 ^ 32 = search rules in
    let below : a.event.0 < 2 ^ a.event_bits = omega (arith, pow_mono c.if-event_bits-ge32.true) in
    sym (lt-ltb a.event.0 (2 ^ a.event_bits) below)
