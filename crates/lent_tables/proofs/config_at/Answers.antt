-- Each processor is a quarter of its word.
use Prim.Native.Nat.{◌+◌, ◌/◌, ◌%◌}
use mathlib.Core.Path.{refl, sym}
use Rattle.std.proofs.Common.{rules}
use borrow.Author.Tests.{tests}
use Rattle.lent_tables.specs.Numbers.{PROCESSORS, processor_at, word}
use Rattle.lent_tables.proofs.Made.{made}
use Rattle.lent_tables.proofs.Parts.{config_is}
use Rattle.lent_tables.proofs.config_at.Goals as goal

pub returns : goal.returns
returns c =
    let s = c.args.state.now in
    config_is c.low32.ensures c.low32-2.ensures c.low32-3.ensures c.low32-4.ensures refl
    (sym (made _ _ (λ i. processor_at (word s (PROCESSORS + i / 4)) (i % 4)) (λ i y q k. search (rules, tests)) (record { 0 = 0 }) c.from_fn.result 16 c.from_fn.ensures.items))
