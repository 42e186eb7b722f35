-- At first no record is done.
use Rattle.lent_tables.proofs.Drops.{drops_start}
use Rattle.lent_tables.proofs.records.drop_translations.Goals as goal

pub loop-i-init : goal.loop-i-init
loop-i-init g c = drops_start (g.K.PairKey.is c.args.key) c.args.state.now
