-- One command as a function over units by value: it gives the unit after it, or the check that refuses it. A refused command gives no unit, and so
-- can change none.
-- Assumes nothing.
use Rattle.std.specs.Prelude.{Result}
use Rattle.std.specs.Result.{result_map_both}
use Rattle.model.specs.declared.Refusal.{Refusal}
use Rattle.model.specs.declared.Command.{Command}
use Rattle.model.specs.declared.ItsState.{ItsState}
use Rattle.model.specs.Step.{check, effect}

-- the unit with the effect of a command that is accepted, or the check that refuses it
unfoldable pub next : ItsState → Command → Result ItsState Refusal
next u x = result_map_both (λ _. effect u x) (λ why. why) (check u x)
