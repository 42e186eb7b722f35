-- For the corners: what a fresh unit that met the commands xs, the last one first, holds. A refused command changes nothing.
-- Assumes nothing.
use Rattle.std.specs.Prelude.{List, [], ◌∷◌}
use Rattle.model.specs.declared.ItsConfig.{ItsConfig}
use Rattle.model.specs.declared.ItsState.{ItsState}
use Rattle.model.specs.declared.Command.{Command}
use Rattle.model.specs.Config.{fresh_unit}
use Rattle.model.specs.Step.{stepped}

-- the unit after the commands
abbrev pub unit_after : ItsConfig → List Command → ItsState
unit_after k [] = fresh_unit k
unit_after k (x ∷ xs) = stepped (unit_after k xs) x
