-- `text::end_within` meets its contract. The invariant: what is left of the room, and of the numbers.
use Prim.Native.Nat.{◌+◌}
use mathlib.Core.Path.{◌≡◌}
use lib.ListN.{length}
use Rattle.text.proofs.Spaced.{left}
use Rattle.text.proofs.end_within.Given as goal

abbrev pub invariant-loop-n : goal.invariant-loop-n
invariant-loop-n g l = l.left + (l.at + (3 + length (left 0 l.line.numbers))) ≡ l.room + length (left l.n-index l.line.numbers)
