-- The model's reading of a command, and of a word of it, from what a host lends; and the turn of a command by what was read of it.
-- Assumes nothing.
use Rattle.std.specs.Prelude.{ℕ, List, get_or, None, Option, Some}
use Rattle.model.specs.declared.ItsState.{ItsState}
use Rattle.model.specs.declared.Refusal.TheVariants.{NotInWindow}
use Rattle.model.specs.Choose.{if_found}
use Rattle.model.specs.Decode.{opcode_of, decode}
use Rattle.model.specs.Queue.{Window, Turn, stays, turn_on}

-- the model's window of a first address and bytes
abbrev pub lent : ℕ → List ℕ → Window
lent a l = record { address = a; bytes = l }

-- a word of a command, where it is read; a command has four, and any further one is 0
abbrev pub word_read : Option (List ℕ) → ℕ → Option ℕ
word_read None i = None
word_read (Some ws) i = Some (get_or ws i 0)

-- the turn of a command, by what was read of it
unfoldable pub turn_read : ItsState → Option (List ℕ) → Turn
turn_read u c = if_found c (λ ws. turn_on u (opcode_of ws) (decode ws)) (stays NotInWindow 0)
