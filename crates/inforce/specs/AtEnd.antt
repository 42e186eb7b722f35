-- What the unit at the end of a trace is: one to which calls led, so that its lists are those of the commands carried out; or none was configured.
-- Assumes nothing.
use Rattle.std.specs.Prelude.{◌≡◌, List, [], ◌⊎◌}
use Rattle.model.specs.declared.ItsConfig.{ItsConfig}
use Rattle.model.specs.declared.ItsState.{ItsState}
use Rattle.model.specs.declared.Command.{Command}
use Rattle.model.specs.Config.{answers_no_unit}
use Rattle.mappings.specs.Listed.{Listed}
use Rattle.guarantees.specs.MappingsInForce.{Led}
use Rattle.inforce.specs.Shown.{unit_lines}

-- calls led to the unit
pub record LedTo (u : ItsState) : Type 0 where
  pub config : ItsConfig
  pub history : List Command
  pub led : Led config u history

-- the unit of a trace: no configuration was accepted since the start or the last CF, or calls led to it
abbrev pub Standing : ItsState → Type 0
Standing u = (u ≡ answers_no_unit) ⊎ LedTo u

-- what is printed of it: no line; or the lines of the mappings in force and the mapped devices of a history to which calls led
abbrev pub Told : ItsState → Type 0
Told u = (unit_lines u ≡ []) ⊎ ((l : LedTo u) × Listed u l.history)
