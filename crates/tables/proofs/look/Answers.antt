-- What the iterator's `find` gives is what a look finds.
use mathlib.Core.Path.{◌∙◌}
use Rattle.std.proofs.Common.{rules}
use borrow.Author.Tests.{tests}
use Rattle.std.proofs.lemmas.Iterator.{YieldsList-from_slice}
use Rattle.std.proofs.lemmas.Iterator.Search.{find_from_yields_List}
use Rattle.tables.proofs.Laws.{find_is}
use Rattle.tables.proofs.look.Goals as goal

pub returns : goal.returns
returns g c =
    let t = g.R.Keyed.is c.args.key in
    c.copied.ensures
    ∙ (find_from_yields_List t _ _ c.find.result c.find.ensures.ran (YieldsList-from_slice c.args.table.now cc) (λ x b q k. search (rules, tests))
    ∙ find_is t c.args.table.now)
