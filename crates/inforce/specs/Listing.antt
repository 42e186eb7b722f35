-- A record of the trace, and then the lines of the unit.
-- Assumes nothing.
use Rattle.std.specs.Prelude.{ℕ, List, drop}
use Rattle.model.specs.Trace.{parse}
use Rattle.text.specs.Laying.{lay_all}
use Rattle.trace.specs.Records.{Stand, output_of, stretch_of, stand_at, stand_after}
use Rattle.inforce.specs.Shown.{unit_lines}

-- the lines of the unit are laid, and nothing else changes
abbrev pub with_unit : Stand → Stand
with_unit s = stand_at (lay_all (output_of s) (unit_lines s.run.unit)) s.run.at (stretch_of s.run) s.run.unit

abbrev pub listed_after : List ℕ → Stand → Stand
listed_after trace s = with_unit (stand_after trace s (parse (drop s.run.at trace)))
