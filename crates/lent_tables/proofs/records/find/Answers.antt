-- The first word that passes is the first record of the key: what the iterator's `position` gives is the place of the first that passes.
use Rattle.std.proofs.Common.{rules}
use borrow.Author.Tests.{tests}
use Rattle.std.proofs.lemmas.Iterator.{YieldsList-from_slice}
use Rattle.std.proofs.lemmas.Iterator.Search.{position_from_yields_List}
use Rattle.lent_tables.proofs.records.find.Goals as goal

pub returns : goal.returns
returns g c = position_from_yields_List (g.K.Key.is c.args.key) _ _ c.position.result c.position.ensures.ran (YieldsList-from_slice c.args.words.now cc) (λ x b q k. search (rules, tests))
