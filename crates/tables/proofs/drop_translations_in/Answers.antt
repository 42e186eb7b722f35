-- After the last turn all records are done.
use Rattle.std.proofs.Common.{rules}
use Rattle.model.proofs.TableLoops.{drop_ends}
use Rattle.tables.proofs.drop_translations_in.Goals as goal

pub returns : goal.returns
returns c = search (rules, drop_ends)
