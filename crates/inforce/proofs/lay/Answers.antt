-- `inforce::lay` meets its contract: after each record, or at the end.
use mathlib.Core.Path.{sym, ◌∙◌}
use Rattle.inforce.specs.Shown.{shown_lines}
use Rattle.inforce.proofs.Printing.{asked, on_from_1}
use borrow.Author.Rules.{rules}
use Rattle.inforce.proofs.lay.Goals as goal

pub returns-then-asks_each : goal.returns-then-asks_each
unfolding shown_lines
returns-then-asks_each c = rw (sym c.asks_each.ensures ∙ c.if-asks_each.true) (rw on_from_1 at c.list_each.ensures)

pub returns : goal.returns
unfolding shown_lines
returns c = rw (sym c.asks_each.ensures ∙ c.if-asks_each.false, ← c.unit_at_end-unit.ensures) c.put_unit.ensures
