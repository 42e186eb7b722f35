-- Thirteen words are stored one after the other, and no other part has a word among them.
use Rattle.std.proofs.Common.{rules}
use Rattle.lent_tables.proofs.Parts.{registers_put}
use Rattle.lent_tables.proofs.put_registers.Goals as goal

pub returns : goal.returns
returns c =
    let a = c.args in
    rw (c.bit_word.ensures, c.bit_word-2.ensures) (registers_put a.state.now c.told-state a.registers (search rules))
