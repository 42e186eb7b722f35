-- The seam for several commands: the unit after them, their conditions as each one's turn comes, and the unit's answers seen from Arm's.
-- Assumes nothing.
use Rattle.std.specs.Prelude.{ℕ, ◌<◌, ◌≡◌, Bool, true, false, ◌⊎◌, List, [], ◌∷◌, Err, None, Ok, Option, Some}
use Rattle.model.specs.declared.ItsConfig.{ItsConfig}
use Rattle.model.specs.declared.ItsRegisters.{ItsRegisters}
use Rattle.model.specs.declared.ItsState.{ItsState}
use Rattle.model.specs.declared.ItsAction.{ItsAction}
use Rattle.model.specs.declared.Refusal.TheVariants.{ResourceNotFound}
use Rattle.model.specs.Answer.{TranslateAnswer, write_taken}
use Rattle.model.specs.Choose.{if_found}
use Rattle.model.specs.Keys.{delivery}
use Rattle.model.specs.Refusal.{write_numbers}
use Rattle.model.specs.With.{with_registers}
use Rattle.model.specs.Queue.{Window, command_at, carry_out}
use Rattle.model.specs.Register.{is_stalled}
use Rattle.model.specs.Entry.{configure, Outcome, stores, write}
use Rattle.model.specs.Writing.{then_runs}
use Rattle.arm_agreement.specs.Commands.{ArmCommand}
use Rattle.arm_agreement.specs.Mappings.{Mappings, nothing, Target}
use Rattle.arm_agreement.specs.Ring.{command_place, fetches_if, arm_after}
use Rattle.arm_agreement.specs.Seen.{lpi, cpu, as_command, unit_after_lem, arm_of, Tables, announced_by}
use Rattle.arm_agreement.specs.Conditions.{Decodable, WellMapped, Under, AWrite, ARing}

-- the unit after the commands, the first one first
abbrev pub unit_run : ItsState → List ArmCommand → ItsState
unit_run u [] = u
unit_run u (x ∷ xs) = unit_run (unit_after_lem u x) xs

-- each command meets its conditions when the unit comes to it
pub data AllUnder (t : Tables) : ItsState → List ArmCommand → Type 0 where
  none_left : {u : ItsState} → AllUnder t u []
  one_more : {u : ItsState} (x : ArmCommand) {xs : List ArmCommand} → Under u t x → AllUnder t (unit_after_lem u x) xs → AllUnder t u (x ∷ xs)

-- the unit as CREADR passes the commands, the last one first
abbrev pub unit_past_lem : ItsState → List ArmCommand → ItsState
unit_past_lem u [] = u
unit_past_lem u (x ∷ xs) = if_found (as_command x) (λ y. carry_out (unit_past_lem u xs) y) (unit_past_lem u xs)

-- each command meets its conditions when CREADR comes to it
pub data EachUnder (t : Tables) (u : ItsState) : List ArmCommand → Type 0 where
  no_command_lem : EachUnder t u []
  and_then : {xs : List ArmCommand} → EachUnder t u xs → (x : ArmCommand) → Under (unit_past_lem u xs) t x → EachUnder t u (x ∷ xs)

-- the unit after a write
abbrev pub unit_by : Outcome → ItsState
unit_by o = o.written.unit

-- the number of commands by which its CREADR advanced, as the answer says
abbrev pub done_by : Outcome → ℕ
done_by o = (write_numbers o.written.answer).done

-- those commands, as Arm fetches them
abbrev pub passed_by_lem : Window → List ItsAction → ItsState → ℕ → ℕ → ℕ → List ArmCommand
passed_by_lem w row u offset width value =
    fetches_if (stores row u offset width value).registers.enabled (command_at w) u.registers.cbaser u.registers.creadr
    (done_by (write w row u offset width value))

-- of the first n commands from CREADR on, each can be decoded as Arm does
abbrev pub AllDecodable : Window → ItsRegisters → ℕ → Type 0
AllDecodable w r n = (m : ℕ) → m < n → (ws : List ℕ) → command_at w (command_place r.cbaser r.creadr m) ≡ Some ws → Decodable ws

-- A WRITE, and the commands that it lets run.
module _ (t : Tables) (w : Window) (row : List ItsAction) (u : ItsState) (offset width value : ℕ) where
  abbrev after_it : Outcome
  after_it = write w row u offset width value

  -- the registers with the value stored
  abbrev stored : ItsRegisters
  stored = (stores row u offset width value).registers

  -- the conditions
  pub record WriteUnder : Type 0 where
    -- of the register that is written
    pub register : AWrite u row offset width value
    -- R46: with other tables the unit keeps its mappings; by Arm they are those of the new tables. So a table is given before anything is mapped
    pub R46_tables_stay : (arm_of u ≡ nothing) ⊎ (stored.basers ≡ u.registers.basers)
    pub ring : ARing stored.enabled u.registers.cbaser
    -- R11: in strict a command that was refused has stopped the ring (02, A4); in base this always holds
    pub R11_not_stalled : stored.enabled ≡ true → is_stalled u.config stored ≡ false
    pub decodable : AllDecodable w u.registers (done_by after_it)
    pub commands : EachUnder t (with_registers u stored) (passed_by_lem w row u offset width value)

  -- what becomes of the mappings and of CREADR
  pub record RunsAsArm : Type 0 where
    pub mappings : arm_of (unit_by after_it) ≡ arm_after (announced_by u.config t) (arm_of u) (passed_by_lem w row u offset width value)
    -- so the next write finds them as this one did
    pub kept : WellMapped (arm_of (unit_by after_it))
    -- R11, R16, S02: where the write is not refused, CREADR comes to CWRITER
    pub all_of_them : (done actions : ℕ) → after_it.written.answer ≡ write_taken done actions → then_runs (stores row u offset width value) ≡ true → stored.enabled ≡ true →
        (unit_by after_it).registers.creadr ≡ stored.cwriter

-- FROM CONFIGURATION ON: `Lived k t u m`: a unit configured with k, after some writes that meet their conditions, is u; by Arm its mappings are m
pub data Lived (k : ItsConfig) (t : Tables) : ItsState → Mappings → Type 0 where
  configured : (configure k).verdict ≡ Ok tt → Lived k t (configure k).unit nothing
  written : {u : ItsState} {m : Mappings} → Lived k t u m → (w : Window) (row : List ItsAction) (offset width value : ℕ) → WriteUnder t w row u offset width value →
      Lived k t (unit_by (write w row u offset width value)) (arm_after (announced_by k t) m (passed_by_lem w row u offset width value))

-- a translated message, and one that is not, as the unit answers them
abbrev pub answered : Option Target → TranslateAnswer
answered None = Err ResourceNotFound
answered (Some a) = Ok (delivery (lpi a.LPI) (cpu a.processor))

-- the interrupt that INT makes pending at its processor, and that CLEAR takes back
abbrev pub signal : Bool → Target → ItsAction
signal pending a = record { target = cpu a.processor; lpi = lpi a.LPI; pending = pending }
