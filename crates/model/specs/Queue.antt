-- Document 01, and 02, A3 and A4: the guest window of "Sizes", the waiting commands of "Registers", and the queue's run of "Refusal numbers" and "Commands".
-- Assumes nothing.
use Rattle.std.specs.Prelude.{ℕ, zero, suc, ◌+◌, ◌-◌, ◌*◌, ◌/◌, ◌%◌, ◌^◌, ◌<◌, Bool, ◌&&◌, ◌||◌, not, List, [], ◌∷◌, ◌++◌, length, drop, leb, eqb, if◌then◌else◌, Err, None, Ok, Option, Some}
use Rattle.model.specs.declared.ItsConfig.{ItsConfig}
use Rattle.model.specs.declared.ItsRegisters.{ItsRegisters}
use Rattle.model.specs.declared.ItsState.{ItsState}
use Rattle.model.specs.declared.ItsAction.{ItsAction}
use Rattle.model.specs.declared.Command.{Command}
use Rattle.model.specs.declared.Refusal.{Refusal}
use Rattle.model.specs.declared.Refusal.TheVariants.{BudgetExceeded, NotInWindow, OpcodeUnknown}
use Rattle.model.specs.Answer.{Decoded, Verdict}
use Rattle.model.specs.Choose.{◌or◌then◌, if_found}
use Rattle.model.specs.Arm.{◌of◌, CBASER_Valid, command_size}
use Rattle.model.specs.With.{with_registers, with_reader, unit_stalled}
use Rattle.model.specs.Profile.{is_strict}
use Rattle.model.specs.Config.{queue_base, queue_size}
use Rattle.model.specs.Decode.{opcode_of, decode}
use Rattle.model.specs.Step.{check, effect, actions_of}

-- The guest window: a lent run of bytes with the guest address of its first byte.
pub record Window : Type 0 where
  pub address : ℕ
  pub bytes : List ℕ

-- the number that the first n bytes of l are, little-endian
abbrev pub little_endian : ℕ → List ℕ → ℕ
little_endian zero l = 0
little_endian (suc n) [] = 0
little_endian (suc n) (b ∷ l) = b + 256 * little_endian n l

-- four little-endian 64-bit words, from the place i on
abbrev pub words_at : List ℕ → ℕ → List ℕ
words_at l i =
    little_endian 8 (drop i l) ∷ little_endian 8 (drop (i + 8) l) ∷ little_endian 8 (drop (i + 16) l) ∷ little_endian 8 (drop (i + 24) l) ∷ []

-- a command can be read exactly if all 32 bytes lie in the window, no address wrapping: guest addresses end at 2^64
abbrev pub in_window : Window → ℕ → Bool
in_window w a = leb w.address a && (leb (a + command_size) (w.address + length w.bytes) && leb (a + command_size) (2 ^ 64))

-- the words of the command at a guest address
unfoldable pub command_at : Window → ℕ → Option (List ℕ)
command_at w a = if in_window w a then Some (words_at w.bytes (a - w.address)) else None

-- writer minus reader, plus the size if negative
unfoldable pub distance : ℕ → ℕ → ℕ → ℕ
distance reader writer size = if leb reader writer then writer - reader else writer + size - reader

-- waiting commands: that distance, over 32
unfoldable pub waiting : ItsRegisters → ℕ
waiting r = distance r.creadr r.cwriter (queue_size r.cbaser) / command_size

-- where a command of the queue stands: base plus offset, not cut
abbrev pub command_address : ItsRegisters → ℕ → ℕ
command_address r offset = queue_base r.cbaser + offset

-- CREADR stands in the queue
abbrev pub Stands : ItsState → Type 0
Stands u = u.registers.creadr < queue_size u.registers.cbaser

-- What becomes of the command on which CREADR stands.
pub data Turn : Type 0 where
  -- it is carried out
  passes : Command → Turn
  -- it is refused: the reason, and the opcode, which is 0 where the command was not read
  stays : Refusal → ℕ → Turn

-- what a verdict makes of the command
abbrev pub judged : Verdict → Command → ℕ → Turn
judged (Ok _) x opcode = passes x
judged (Err r) x opcode = stays r opcode

-- its own checks; an unknown command refuses at once
abbrev pub turn_on : ItsState → ℕ → Decoded → Turn
turn_on u opcode (Ok x) = judged (check u x) x opcode
turn_on u opcode (Err n) = stays OpcodeUnknown opcode

-- each command in turn: 6, its own checks (20 to 27, or 8), 9 last
unfoldable pub turn : Window → ItsState → Turn
turn w u =
    if_found (command_at w (command_address u.registers u.registers.creadr))
    (λ ws. turn_on u (opcode_of ws) (decode ws))
    (stays NotInWindow 0)

-- CREADR goes on by 32, round the ring
abbrev pub past_command : ItsRegisters → ItsRegisters
past_command r = with_reader r ((r.creadr + command_size) % queue_size r.cbaser)

-- a command is carried out when CREADR passes it
unfoldable pub carry_out : ItsState → Command → ItsState
carry_out u x = with_registers (effect u x) (past_command (effect u x).registers)

-- The run.

-- why a run stopped before its last command
pub record Stop : Type 0 where
  pub refusal : Refusal
  pub opcode : ℕ

-- what a run comes to
pub record Ran : Type 0 where
  -- the unit after it
  pub unit : ItsState
  -- the number of commands by which CREADR advanced
  pub done : ℕ
  -- the actions of the INT and CLEAR carried out, the first first
  pub actions : List ItsAction
  pub stopped : Option Stop

-- a run with nothing more to do, or stopped here
abbrev pub ended : ItsState → Option Stop → Ran
ended u s = record { unit = u; done = 0; actions = []; stopped = s }

-- one command carried out, and then the rest
abbrev pub and_then : List ItsAction → Ran → Ran
and_then handed r = record { unit = r.unit; done = suc r.done; actions = handed ++ r.actions; stopped = r.stopped }

-- earlier commands stay applied, CREADR stays on the failing one, and that one changes nothing
abbrev pub go_on : ItsState → Turn → (ItsState → Ran) → Ran
go_on u (passes x) rest = and_then (actions_of u x) (rest (carry_out u x))
go_on u (stays r opcode) rest = ended u (Some (record { refusal = r; opcode = opcode }))

-- n waiting commands
abbrev pub run : Window → ℕ → ItsState → Ran
run w zero u = ended u None
run w (suc n) u = go_on u (turn w u) (run w n)

-- a refused command sets Stalled, in strict (02, A4)
unfoldable pub stall : ItsState → ItsState
stall u = unit_stalled u (is_strict u.config.profile || u.registers.stalled)

-- the run that a command stopped, or that came to its end
abbrev pub halting : Ran → Ran
halting q = record { unit = if_found q.stopped (λ s. stall q.unit) q.unit; done = q.done; actions = q.actions; stopped = q.stopped }

-- in strict, a queue whose CBASER bit 63 is 0 runs nothing and gives no 5 (02, A3), and so does that of a stalled unit (A4)
unfoldable pub held : ItsConfig → ItsRegisters → Bool
held k r = is_strict k.profile && (eqb (CBASER_Valid of r.cbaser) 0 || r.stalled)

-- the queue runs in an enabled unit, where it is not held
unfoldable pub may_run : ItsConfig → ItsRegisters → Bool
may_run k r = r.enabled && not (held k r)

-- a queue that may run is run: 5 is tested once, and sets no Stalled; then each command in turn
unfoldable pub run_queue : Window → ItsState → Ran
run_queue w u =
    if may_run u.config u.registers
    then (leb (waiting u.registers) u.config.command_budget or ended u (Some (record { refusal = BudgetExceeded; opcode = 0 })) then
    halting (run w (waiting u.registers) u))
    else ended u None
