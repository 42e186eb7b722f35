-- What a drop knows before record i: the records before it are done, and nothing else has changed.
use Rattle.lent_tables.proofs.Drops.{Drops}
use Rattle.lent_tables.proofs.records.drop_translations.Given as goal

abbrev pub invariant-loop-i : goal.invariant-loop-i
invariant-loop-i g l = Drops (g.K.PairKey.is l.fn.key) l.initial.state l.i l.state
