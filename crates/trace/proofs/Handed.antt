-- The lines of the actions that a write hands over, from a place on.
-- Assumes nothing.
use Prim.Native.Nat.{ℕ}
use mathlib.Core.List.{List, map}
use lib.ListN.{take, drop}
use Rattle.model.specs.declared.ItsAction.{ItsAction}
use Rattle.model.specs.Trace.{action_line}

-- the lines of those that are left from the place i on
abbrev pub left : ℕ → List ItsAction → List (List ℕ)
left i handed = map action_line (drop i handed)
