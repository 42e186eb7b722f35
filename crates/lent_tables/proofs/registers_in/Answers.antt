-- The eight BASER are the words from the first on.
use Prim.Native.Nat.{◌+◌}
use mathlib.Core.Path.{sym}
use Rattle.std.proofs.Common.{rules}
use borrow.Author.Tests.{tests}
use Rattle.lent_tables.specs.Numbers.{BASERS, word, registers_in}
use Rattle.lent_tables.proofs.Made.{made}
use Rattle.lent_tables.proofs.registers_in.Goals as goal

pub returns : goal.returns
unfolding registers_in
returns c = rw (sym (made _ _ (λ i. word c.args.state.now (BASERS + i)) (λ i y q k. search (rules, tests)) 0 c.from_fn.result 8 c.from_fn.ensures.items))
