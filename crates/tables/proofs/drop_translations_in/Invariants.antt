-- What a drop knows before record i: the records before it are done.
use Rattle.model.specs.Keys.{no_translation}
use Rattle.model.specs.Step.{pair_in}
use Rattle.model.proofs.TableLoops.{Dropped}
use Rattle.tables.proofs.drop_translations_in.Given as goal

abbrev pub invariant-loop-t : goal.invariant-loop-t
invariant-loop-t l = Dropped 256 (pair_in l.fn.collection l.fn.translations) no_translation l.fn.translations l.t-index l.t-items
