-- What the iterator's `position` gives is the place of the first that passes.
use mathlib.Core.Path.{◌∙◌}
use Rattle.std.proofs.Common.{rules}
use borrow.Author.Tests.{tests}
use Rattle.std.proofs.lemmas.Iterator.{YieldsList-from_slice}
use Rattle.std.proofs.lemmas.Iterator.Search.{position_from_yields_List}
use Rattle.model.proofs.TableLaws.{position_is}
use Rattle.tables.proofs.find.Goals as goal

pub returns : goal.returns
returns g c =
    let t = g.R.Keyed.is c.args.key in
    position_from_yields_List t _ _ c.position.result c.position.ensures.ran (YieldsList-from_slice c.args.table.now cc) (λ x b q k. search (rules, tests))
    ∙ position_is t c.args.table.now
