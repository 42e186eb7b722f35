-- The first i of the sixteen places are filled.
use Prim.Native.Nat.{◌≤◌}
use mathlib.Core.Path.{◌≡◌}
use Rattle.trace.proofs.Processors.{filled}
use Rattle.trace.proofs.parts.processors_in.Given as goal

abbrev pub invariant-loop-i : goal.invariant-loop-i
invariant-loop-i l = (l.processors ≡ filled l.i l.bytes) × (l.i ≤ 16) × (l.i ≤ l.count)
