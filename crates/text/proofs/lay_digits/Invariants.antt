-- `text::lay_digits` meets its contract. The invariant: what is left to lay gives the same list as the whole.
use mathlib.Core.Path.{◌≡◌}
use Rattle.text.proofs.Digits.{lay}
use Rattle.text.proofs.lay_digits.Given as goal

abbrev pub invariant-loop-i : goal.invariant-loop-i
invariant-loop-i l = lay l.i l.at l.m l.out ≡ lay l.k l.at l.n l.initial.out
