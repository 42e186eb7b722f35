-- The turn of a command, by what was read of it: nothing, an unknown command, or a known one.
-- Assumes nothing.
use Rattle.std.specs.Prelude.{Err, None, Ok, Option, Some}
use Prim.Native.Nat.{ℕ}
use mathlib.Core.Path.{◌≡◌, sym, ap}
use mathlib.Core.List.{List}
use Rattle.model.specs.declared.ItsState.{ItsState}
use Rattle.model.specs.declared.Command.{Command}
use Rattle.model.specs.declared.UnknownOpcode.{UnknownOpcode}
use Rattle.model.specs.declared.Refusal.TheVariants.{NotInWindow, OpcodeUnknown}
use Rattle.model.specs.Decode.{opcode_of, decode}
use Rattle.model.specs.Step.{check}
use Rattle.model.specs.Queue.{Window, command_at, command_address, stays, judged, turn}
use Rattle.decoding.specs.Reading.{turn_read}

-- what was read of the command on which CREADR stands
pub turn_reads : (w : Window) (u : ItsState) {c : Option (List ℕ)} → c ≡ command_at w (command_address u.registers u.registers.creadr) → turn w u ≡ turn_read u c
unfolding turn turn_read
turn_reads w u reads = ap (turn_read u) (sym reads)

module _ (u : ItsState) (c : Option (List ℕ)) where
  pub unread : c ≡ None → turn_read u c ≡ stays NotInWindow 0
  unfolding turn_read
  unread n = rw n

  pub unknown : {ws : List ℕ} {opcode : ℕ} {n : UnknownOpcode} → c ≡ Some ws → opcode ≡ opcode_of ws → decode ws ≡ Err n → turn_read u c ≡ stays OpcodeUnknown opcode
  unfolding turn_read
  unknown k o d = rw (k, o, d)

  pub known : {ws : List ℕ} {opcode : ℕ} {x : Command} → c ≡ Some ws → opcode ≡ opcode_of ws → decode ws ≡ Ok x → turn_read u c ≡ judged (check u x) x opcode
  unfolding turn_read
  known k o d = rw (k, o, d)
