-- `text::lay_number` meets its contract: a space stored, and then the digits.
use native.Mathlib.Omega.{arith}
use mathlib.Core.Path.{◌∙◌}
use lib.ListN.{length-set}
use Rattle.text.proofs.Digits.{decimal_length}
use Rattle.text.proofs.Spaced.{number_laid}
use Rattle.text.proofs.lay_number.Goals as goal

pub lay_digits-requires : goal.lay_digits-requires
lay_digits-requires c = rw length-set (omega (arith, decimal_length c.args.n))

pub returns : goal.returns
returns c =
    let a = c.args in
    let k = c.digit_count-k in (
      omega (arith, decimal_length a.n),
      c.lay_digits.ensures ∙ number_laid a.out.now a.at k.result a.n k.ensures.0 (omega arith),
    )
