-- A turn of the drop frees the record or leaves it.
use native.Mathlib.Omega.{arith}
use mathlib.Core.Path.{refl}
use Rattle.lent_tables.proofs.Drops.{down_starts, down_hit, down_miss, down_ends}
use Rattle.lent_tables.proofs.records.drop_translations_in.Goals as goal

pub loop-at-init : goal.loop-at-init
loop-at-init c = down_starts c.args.collection c.args.state.now

pub loop-at-preserved-then-pair_in : goal.loop-at-preserved-then-pair_in
loop-at-preserved-then-pair_in c =
    down_hit c.loop-at.invariant (omega (arith, c.loop-at-test.true)) c.pair_in.ensures c.if-pair_in.true refl c.free_pair.ensures

pub loop-at-preserved : goal.loop-at-preserved
loop-at-preserved c =
    down_miss c.loop-at.invariant (omega (arith, c.loop-at-test.true)) c.pair_in.ensures c.if-pair_in.false refl

pub returns : goal.returns
returns c = down_ends c.loop-at.invariant (omega arith)
