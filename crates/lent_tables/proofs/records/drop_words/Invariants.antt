-- What a drop knows before word i: the words before it are done.
use lib.ListN.{length}
use Rattle.model.proofs.TableLoops.{Dropped}
use Rattle.lent_tables.proofs.records.drop_words.Given as goal

abbrev pub invariant-loop-w : goal.invariant-loop-w
invariant-loop-w g l = Dropped (length l.fn.words) (g.K.Key.is l.fn.key) 0 l.fn.words l.w-index l.w-items
