-- `text::digit_count` meets its contract: the power of ten at or below a number has a digit fewer than the number.
use native.Mathlib.Omega.{arith}
use mathlib.Core.Path.{sym}
use Rattle.text.proofs.Digits.{count_power}
use Rattle.text.proofs.digit_count.Goals as goal

pub returns-in-Some : goal.returns-in-Some
returns-in-Some c =
    let h = c.in-Some in
    (sym (count_power 20 h.power c.args.n (omega (arith, h.ensures.bound)) h.ensures.power_le h.ensures.next_power_gt), omega (arith, h.ensures.bound))
