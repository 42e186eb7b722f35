-- The actions of a write in the row that a host lends, which is a row of numbers.
-- Assumes nothing.
use Rattle.std.specs.Prelude.{ℕ, ◌+◌, ◌*◌, ◌/◌, ◌%◌, ◌^◌, List, ◌++◌, map, length, drop, eqb}
use Rattle.model.specs.declared.ItsAction.{ItsAction}
use Rattle.model.specs.Register.{one_if}

-- an action as a number: the LPI, 2^32 times the processor, 2^48 if pending
abbrev pub action_word : ItsAction → ℕ
action_word a = one_if a.pending * 2 ^ 48 + a.target.0 * 2 ^ 32 + a.lpi.0

-- which action a number of the row is
abbrev pub action_in : ℕ → ItsAction
action_in w = record { target = record { 0 = w / 2 ^ 32 % 2 ^ 16 }; lpi = record { 0 = w % 2 ^ 32 }; pending = eqb (w / 2 ^ 48 % 2) 1 }

-- the row with these actions in its first numbers: the numbers behind them stay as they were
abbrev pub row_with : List ItsAction → List ℕ → List ℕ
row_with actions row = map action_word actions ++ drop (length actions) row
