-- `lent_tables::put_processors` meets its contract: four words are stored one after the other, and no other part has a word among them.
use borrow.Author.Rules.{rules}
use Rattle.lent_tables.proofs.Parts.{processors_put}
use Rattle.lent_tables.proofs.put_processors.Goals as goal

pub returns : goal.returns
returns c =
    let a = c.args in
    processors_put a.state.now c.told-state a.processors (search rules) _ _ _ _ c.packed.ensures c.packed-2.ensures c.packed-3.ensures c.packed-4.ensures (search rules)
