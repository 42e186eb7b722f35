-- Document 01, "Refusal numbers": CREADR stays on the failing command, and a later enabling CTLR write or accepted CWRITER write tries it again. In strict
-- that command has stalled the unit, and until that is cleared no other write tries it than an accepted CWRITER write with Retry (02, A4).
-- Assumes nothing.
use Rattle.std.specs.Prelude.{ℕ, ◌+◌, ◌≤◌, ◌<◌, ◌≡◌, true, List, [], ◌∷◌, ◌++◌, length}
use Rattle.model.specs.declared.ItsState.{ItsState}
use Rattle.model.specs.declared.ItsAction.{ItsAction}
use Rattle.model.specs.declared.Command.{Command}
use Rattle.model.specs.declared.RegisterWrite.{RegisterWrite}
use Rattle.model.specs.declared.Refusal.{Refusal}
use Rattle.model.specs.declared.Refusal.TheVariants.{BudgetExceeded}
use Rattle.model.specs.declared.Written.{Written}
use Rattle.model.specs.Answer.{write_refused}
use Rattle.model.specs.Arm.{◌of◌, CWRITER_Retry, GITS_CTLR, GITS_CWRITER}
use Rattle.model.specs.With.{with_registers, unit_stalled}
use Rattle.model.specs.Profile.{base, strict, profile_of}
use Rattle.model.specs.Queue.{Window, waiting, passes, stays, turn, carry_out, stall, may_run}
use Rattle.model.specs.Writing.{enables, then_runs}
use Rattle.model.specs.Entry.{stores}
use Rattle.model.specs.Passed.{CarriedOut}
use Rattle.its.specs.Promises.{Writes}
use Rattle.guarantees.specs.Actions.{passed_by}
use Rattle.guarantees.specs.Refusals.{IfRefused}
use Rattle.guarantees.specs.Profiles.{OnlyStores}
use Rattle.guarantees.specs.Stalled.{accepted}

-- The write tries its queue. s is what it does to the registers.
pub record Tries (u : ItsState) (s : RegisterWrite) : Type 0 where
  -- a CTLR write or an accepted CWRITER write, not refused at the entry
  pub lets_run : then_runs s ≡ true
  -- the queue may run then: the unit is enabled, and in strict CBASER's bit 63 is set and the unit not stalled, or no longer
  pub may : may_run u.config s.registers ≡ true
  -- commands wait
  pub waits : 0 < waiting s.registers
  -- no more than the budget
  pub within : waiting s.registers ≤ u.config.command_budget

-- x is the first command that the write carried out.
pub record BeginsWith (w : Window) (u : ItsState) (s : RegisterWrite) (r : Written) (x : Command) : Type 0 where
  -- those that it carried out after x, and their actions
  pub later : List Command
  pub handed : List ItsAction
  -- the commands passed are x and then these (the last one first)
  pub first : passed_by w u r ≡ later ++ x ∷ []
  -- x was carried out by the unit with the value stored, and the later ones from there; the unit that they led to is left, but for Stalled
  pub led_to : ItsState
  pub follow : CarriedOut (carry_out (with_registers u s.registers) x) later handed led_to
  pub unit_left : r.unit ≡ unit_stalled led_to r.unit.registers.stalled

-- Such a write begins with the command on which CREADR stands, as its own window shows it.
pub record TriesAgain (w : Window) (row : List ItsAction) (u : ItsState) (s : RegisterWrite) (r : Written) (left : List ItsAction) : Type 0 where
  -- where the unit refuses it, that is the answer: its reason and opcode, CREADR, nothing done and nothing handed over; only the register written changes,
  -- and in strict the unit is stalled
  pub refuses : (why : Refusal) (opcode : ℕ) → turn w u ≡ stays why opcode →
      (r ≡ record { unit = stall (with_registers u s.registers); answer = write_refused why opcode u.registers.creadr 0 0 }) × (left ≡ row)
  -- where the unit accepts it, it is the first command carried out
  pub accepts : (x : Command) → turn w u ≡ passes x → BeginsWith w u s r x

-- the write is refused in the same way, does nothing and hands over nothing, and leaves unit and row as they are
abbrev pub RefusedAgain : Written → Refusal → ℕ → ℕ → List ItsAction → Written → List ItsAction → Type 0
RefusedAgain v why opcode offset row r left = (r ≡ record { unit = v.unit; answer = write_refused why opcode offset 0 0 }) × (left ≡ row)

-- After a write that was refused because of the command at CREADR, and answered v, with the reason why, the opcode and the offset, which is CREADR (Kept):
pub record TriedLater (w : Window) (v : Written) (why : Refusal) (opcode offset : ℕ) : Type 0 where
  -- a later write that tries the queue, with any window, begins there
  pub again : (w' : Window) (row : List ItsAction) (offset' width value : ℕ) (r : Written) (left : List ItsAction) → Writes w' row v.unit offset' width value r left →
      Tries v.unit (stores row v.unit offset' width value) → TriesAgain w' row v.unit (stores row v.unit offset' width value) r left
  -- in base, with the same window, a CTLR write that enables is refused in the same way
  pub same : profile_of v.unit.config ≡ base → (row : List ItsAction) (value : ℕ) (r : Written) (left : List ItsAction) → Writes w row v.unit GITS_CTLR 4 value r left →
      v.unit.config.command_budget ≤ length row → enables value ≡ true →
      RefusedAgain v why opcode offset row r left
  -- in strict a write without Retry that would let the queue run only stores: it tries nothing, be it a CTLR write that enables
  pub waits : profile_of v.unit.config ≡ strict → (w' : Window) (row : List ItsAction) (offset' width value : ℕ) (r : Written) (left : List ItsAction) →
      Writes w' row v.unit offset' width value r left → then_runs (stores row v.unit offset' width value) ≡ true → (offset' ≡ GITS_CWRITER → CWRITER_Retry of value ≡ 0) →
      OnlyStores row v.unit (stores row v.unit offset' width value) r left
  -- one of CWRITER with Retry that is accepted, and not answered with 5, begins there, with any window, while commands wait
  pub by_retry : profile_of v.unit.config ≡ strict → (w' : Window) (row : List ItsAction) (width value : ℕ) (r : Written) (left : List ItsAction) →
      Writes w' row v.unit GITS_CWRITER width value r left → CWRITER_Retry of value ≡ 1 → accepted r.answer ≡ true → IfRefused r BudgetExceeded (λ opcode at done actions. ⊥) →
      0 < waiting (stores row v.unit GITS_CWRITER width value).registers → TriesAgain w' row v.unit (stores row v.unit GITS_CWRITER width value) r left
  -- and with the same window, CWRITER written as it is, with Retry, is refused in the same way
  pub retried : profile_of v.unit.config ≡ strict → (row : List ItsAction) (r : Written) (left : List ItsAction) →
      Writes w row v.unit GITS_CWRITER 8 (v.unit.registers.cwriter + 1) r left → v.unit.config.command_budget ≤ length row →
      RefusedAgain v why opcode offset row r left
