-- `host::its_write` meets its contract.
use mathlib.Core.Path.{ap, ◌∙◌}
use mathlib.Core.List.{map}
use borrow.Author.Rules.{rules}
use Rattle.lent_queue.specs.Actions.{action_in}
use Rattle.lent_queue.specs.Turns.{lent}
use Rattle.lent_tables.specs.Numbers.{unit_in}
use Rattle.host.specs.Calls.{numbers_of_write}
use Rattle.host.proofs.RowReads.{numbers_small, made_reads}
use Rattle.host.proofs.Tells.{retold}
use Rattle.host.proofs.its_write.Goals as goal

pub returns : goal.returns
returns c =
    let n = c in
    let k = n.write-answer.ensures in
    let a = c.args in
    let s = a.state.now in (
      record {
        unit = k.unit;
        row = k.row;
        row_reads = ap (map action_in) k.row ∙ made_reads (lent a.address a.bytes.now) a.row.now (unit_in s) (numbers_small s) a.offset a.width a.value;
        told = retold (n.write_numbers.ensures ∙ ap numbers_of_write k.answer) c.tell.ensures;
      },
      k.alone,
    )
