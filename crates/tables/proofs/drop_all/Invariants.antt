-- What a drop knows before record i: the records before it are done.
use Rattle.model.proofs.TableLoops.{Dropped}
use Rattle.tables.proofs.drop_all.Given as goal

abbrev pub invariant-loop-r : goal.invariant-loop-r
invariant-loop-r g l = Dropped g.row.N (g.R.Keyed.is l.fn.key) g.R.Record.free l.fn.table l.r-index l.r-items
