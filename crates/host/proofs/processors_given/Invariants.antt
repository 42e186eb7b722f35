-- The first i of the sixteen places are filled.
use Prim.Native.Nat.{◌≤◌}
use mathlib.Core.Path.{◌≡◌}
use lib.ListN.{length}
use Rattle.host.proofs.Given.{filled}
use Rattle.host.proofs.processors_given.Given as goal

abbrev pub invariant-loop-i : goal.invariant-loop-i
invariant-loop-i l = (l.processors ≡ filled l.i l.numbers) × (l.i ≤ 16) × (l.i ≤ length l.numbers)
