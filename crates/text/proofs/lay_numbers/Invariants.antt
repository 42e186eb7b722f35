-- `text::lay_numbers` meets its contract. The invariant: the numbers that are left, laid from here on, give the same list as all of them.
use Prim.Native.Nat.{◌+◌}
use mathlib.Core.Path.{◌≡◌}
use lib.ListN.{length}
use Rattle.text.proofs.Spaced.{left}
use Rattle.text.specs.Laying.{laid_at}
use Rattle.text.proofs.lay_numbers.Given as goal

abbrev pub invariant-loop-n : goal.invariant-loop-n
invariant-loop-n l = (laid_at l.out l.place (left l.n-index l.numbers) ≡ laid_at l.initial.out l.at (left 0 l.numbers)) ×
    (l.place + length (left l.n-index l.numbers) ≡ l.at + length (left 0 l.numbers))
