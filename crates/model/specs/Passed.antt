-- Demand 3: the commands that a write passes, read from the window at the old CREADR and on; and what carrying them out does to a unit, one command at
-- a time, without the run. A history lists the commands carried out, the last one first.
-- Assumes nothing.
use Rattle.std.specs.Prelude.{ℕ, zero, suc, ◌+◌, ◌*◌, ◌%◌, ◌≡◌, true, List, [], ◌∷◌, ◌++◌, Err, None, Ok, Option, Some}
use Rattle.model.specs.declared.ItsRegisters.{ItsRegisters}
use Rattle.model.specs.declared.ItsState.{ItsState}
use Rattle.model.specs.declared.ItsAction.{ItsAction}
use Rattle.model.specs.declared.Command.{Command}
use Rattle.model.specs.Answer.{Decoded}
use Rattle.model.specs.Choose.{when_found, list_of}
use Rattle.model.specs.Arm.{command_size}
use Rattle.model.specs.Config.{queue_size}
use Rattle.model.specs.Decode.{decode}
use Rattle.model.specs.Step.{accepts, actions_of}
use Rattle.model.specs.Queue.{Window, command_at, command_address, carry_out}

-- where the n-th command from CREADR on stands in the ring, n from 0
abbrev pub ring_offset : ItsRegisters → ℕ → ℕ
ring_offset r n = (r.creadr + command_size * n) % queue_size r.cbaser

-- one of the kinds, or nothing
abbrev pub if_known : Decoded → Option Command
if_known (Ok x) = Some x
if_known (Err opcode) = None

-- the n-th command from CREADR on, read from the window's bytes and decoded
unfoldable pub command_of : Window → ItsRegisters → ℕ → Option Command
command_of w r n = when_found (command_at w (command_address r (ring_offset r n))) (λ ws. if_known (decode ws))

-- the command on which CREADR stands. (In a sound ring it is the first of those from CREADR on; here CREADR is taken as it is, as the queue takes it.)
unfoldable pub command_here : Window → ItsRegisters → Option Command
command_here w r = when_found (command_at w (command_address r r.creadr)) (λ ws. if_known (decode ws))

-- the first n commands from CREADR on, the last one first
abbrev pub commands_passed : Window → ItsRegisters → ℕ → List Command
commands_passed w r zero = []
commands_passed w r (suc n) = list_of (command_of w r n) ++ commands_passed w r n

-- `CarriedOut u h handed v`: from the unit u, the commands of h were carried out, one after the other, and led to the unit v. Each was accepted by
-- the unit that met it; handed are their actions, the first one first
pub data CarriedOut (u : ItsState) : List Command → List ItsAction → ItsState → Type 0 where
  -- no command: no action, and the unit as it was
  nothing : CarriedOut u [] [] u
  -- one more command, which the unit accepts: it takes its effect, CREADR passes it, and its action, if it has one, comes last
  one_more : {v : ItsState} {h : List Command} {handed : List ItsAction} → CarriedOut u h handed v → (x : Command) → accepts v x ≡ true →
      CarriedOut u (x ∷ h) (handed ++ actions_of v x) (carry_out v x)
