-- `words::last_word` meets its contract: each of the eight bytes is the one at its place, or 0 beyond the end.
use Rattle.std.proofs.Common.{rules, ◌∙◌}
use Rattle.words.proofs.LittleEndian.{eight_bytes}
use Rattle.words.proofs.last_word.Goals as goal

pub returns : goal.returns
returns c = c.from_le_bytes.ensures ∙ eight_bytes c.from_fn.result c.args.bytes.now (λ i h. search (rules, c.from_fn.ensures.items.at i 0 h))
