-- `words::decode_words` meets its contract where all 32 bytes are there: they are the first of those from the place on.
use Rattle.std.proofs.Common.{◌∙◌}
use Rattle.words.proofs.LittleEndian.{words_of_command}
use Rattle.words.proofs.decode_words.Goals as goal

pub returns-in-Some : goal.returns-in-Some
returns-in-Some c = c.four_words.ensures ∙ words_of_command c.args.bytes.now c.args.at c.bytes_from-there.ensures c.in-Some.ensures.cases.same
