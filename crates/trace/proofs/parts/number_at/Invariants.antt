-- The word is the number of the bytes from the place i on: those before it are left.
use Prim.Native.Nat.{◌+◌, ◌-◌, ◌≤◌}
use mathlib.Core.Path.{◌≡◌}
use lib.ListN.{drop}
use Rattle.model.specs.Queue.{little_endian}
use Rattle.trace.proofs.parts.number_at.Given as goal

abbrev pub invariant-loop-i : goal.invariant-loop-i
invariant-loop-i l = (l.i ≤ l.count) × (l.word ≡ little_endian (l.count - l.i) (drop (l.at + l.i) l.bytes))
