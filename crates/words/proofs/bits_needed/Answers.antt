-- `words::bits_needed` meets its contract: there are at most 32 leading zeros, and what is left of 32 is the bits needed.
use Rattle.words.proofs.Bits.{bits_needed_lem}
use Rattle.words.proofs.bits_needed.Goals as goal

pub returns : goal.returns
returns c = bits_needed_lem c.args.n c.ranges.n.fits
