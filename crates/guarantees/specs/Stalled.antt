-- Document 02, A4: STALLED, in strict. What each write makes of the bit, by its access and its answer; and over runs of accesses: a unit is stalled exactly if
-- its last run was stopped by a command and neither of the two writes that clear it came since. Nothing here speaks of the unit's own bit but the
-- theorems.
-- Assumes nothing.
use Rattle.std.specs.Prelude.{ℕ, ◌+◌, ◌≡◌, Bool, true, false, ◌&&◌, ◌||◌, not, List, [], ◌∷◌, ◌⊎◌, leb, eqb, get_or, if◌then◌else◌, Ok, Err}
use Rattle.model.specs.declared.ItsConfig.{ItsConfig}
use Rattle.model.specs.declared.ItsState.{ItsState}
use Rattle.model.specs.declared.Command.{Command}
use Rattle.model.specs.declared.Refusal.{Refusal}
use Rattle.model.specs.declared.Refusal.TheVariants.{BudgetExceeded}
use Rattle.model.specs.declared.Written.{Written}
use Rattle.model.specs.Answer.{ReadAnswer, WriteAnswer}
use Rattle.model.specs.Arm.{◌of◌, CWRITER_Retry, GITS_CBASER, GITS_CWRITER, GITS_CREADR}
use Rattle.model.specs.Profile.{base, strict, profile_of}
use Rattle.model.specs.Register.{lies_in, one_if}
use Rattle.model.specs.With.{unit_stalled}
use Rattle.its.specs.Promises.{Reads}
use Rattle.guarantees.specs.Alike.{Alike}
use Rattle.guarantees.specs.Refusals.{Given, at_entry, at_cwriter, at_budget, at_command, at_output, given_at, IfRefused}
use Rattle.guarantees.specs.MappingsInForce.{Led, begins, a_read, a_translate, a_write}
use Rattle.guarantees.specs.CallsInForce.{LedByCalls, by_its_configure, by_its_read, by_its_translate, by_its_write}

-- WHAT AN ANSWER SAYS.

-- the refusal is a command's: 6, 8, 9 and 20 to 27
abbrev pub of_command : Given → Bool
of_command at_entry = false
of_command at_cwriter = false
of_command at_budget = false
of_command at_command = true
of_command at_output = false

-- a command stopped the run of the write
abbrev pub stopped : WriteAnswer → Bool
stopped (Ok w) = false
stopped (Err w) = of_command (given_at w.refusal)

-- the refusal came after the value was stored: it is 5, or a command's
abbrev pub afterwards : Given → Bool
afterwards at_entry = false
afterwards at_cwriter = false
afterwards at_budget = true
afterwards at_command = true
afterwards at_output = false

-- the write was accepted: it is taken, or refused afterwards
abbrev pub accepted : WriteAnswer → Bool
accepted (Ok w) = true
accepted (Err w) = afterwards (given_at w.refusal)

-- THE TWO THAT CLEAR STALLED.

-- a CWRITER write with Retry: bit 0 of what is written at the register's offset, by 8 bytes or 4. (Its high half stands at GITS_CWRITER + 4)
abbrev pub with_retry : ℕ → ℕ → Bool
with_retry offset value = eqb offset GITS_CWRITER && eqb (CWRITER_Retry of value) 1

-- a CBASER write that is stored, where it is accepted: the unit is not enabled
abbrev pub stores_base : ItsState → ℕ → Bool
stores_base u offset = lies_in GITS_CBASER offset && not u.registers.enabled

-- WHAT A WRITE IS TO STALLED.
pub data Mark : Type 0 where
  -- a command stopped its run
  stops : Mark
  -- none did, and it is one of the two
  clears : Mark
  -- neither
  leaves : Mark

-- by whether a command stopped its run, and whether it is one of the two, accepted
abbrev pub mark_with : Bool → Bool → Mark
mark_with stop clear = if stop then stops else if clear then clears else leaves

-- of a write, by whether a command stopped its run and whether it was accepted
abbrev pub mark_by : Bool → Bool → ItsState → ℕ → ℕ → Mark
mark_by stop taken u offset value = mark_with stop (taken && (with_retry offset value || stores_base u offset))

abbrev pub mark_of : ItsState → ℕ → ℕ → WriteAnswer → Mark
mark_of u offset value a = mark_by (stopped a) (accepted a) u offset value

-- the bit after it, and before
abbrev pub marked : Mark → Bool → Bool
marked stops b = true
marked clears b = false
marked leaves b = b

-- OF ONE WRITE, to any unit. u is the unit before it, and r what it leaves and answers.
pub record StalledKept (u : ItsState) (offset value : ℕ) (r : Written) : Type 0 where
  -- in strict
  pub if_strict : profile_of u.config ≡ strict → r.unit.registers.stalled ≡ marked (mark_of u offset value r.answer) u.registers.stalled
  -- in base it is never written
  pub in_base : profile_of u.config ≡ base → r.unit.registers.stalled ≡ u.registers.stalled
  -- by the number of the refusal: 1, 10, 2, 3, 4 and 7 leave it
  pub at_the_entry : (why : Refusal) → (given_at why ≡ at_entry) ⊎ (given_at why ≡ at_cwriter) →
      IfRefused r why (λ opcode at done actions. r.unit.registers.stalled ≡ u.registers.stalled)
  -- after 5 it is clear, in strict
  pub over_budget : profile_of u.config ≡ strict → IfRefused r BudgetExceeded (λ opcode at done actions. r.unit.registers.stalled ≡ false)
  -- after 6, 8, 9 and 20 to 27 it is set, in strict
  pub at_a_command : profile_of u.config ≡ strict → (why : Refusal) → given_at why ≡ at_command →
      IfRefused r why (λ opcode at done actions. r.unit.registers.stalled ≡ true)

-- OVER RUNS OF ACCESSES: what the writes were to Stalled, the last one first.
abbrev pub trail : {k : ItsConfig} {u : ItsState} {h : List Command} → Led k u h → List Mark
trail (begins c e a) = []
trail (a_read l offset width r e) = trail l
trail (a_translate l d e r q) = trail l
trail (a_write {u = u} l w row offset width value r left e) = mark_of u offset value r.answer ∷ trail l

-- the last run was stopped by a command, and neither of the two came since
pub data StoppedSince : List Mark → Type 0 where
  just_now : {ms : List Mark} → StoppedSince (stops ∷ ms)
  still : {ms : List Mark} → StoppedSince ms → StoppedSince (leaves ∷ ms)

-- The same in the numbers that the C calls tell: the first is the refusal.
abbrev pub stopped_told : ℕ → Bool
stopped_told n = eqb n 6 || (eqb n 8 || (eqb n 9 || (leb 20 n && leb n 27)))

abbrev pub accepted_told : ℕ → Bool
accepted_told n = eqb n 0 || (eqb n 5 || stopped_told n)

abbrev pub mark_told : ItsState → ℕ → ℕ → List ℕ → Mark
mark_told u offset value told = mark_by (stopped_told (get_or told 0 0)) (accepted_told (get_or told 0 0)) u offset value

abbrev pub trail_told : {k : ItsConfig} {u : ItsState} {h : List Command} → LedByCalls k u h → List Mark
trail_told (by_its_configure ss ps e u r told c z) = []
trail_told (by_its_read l offset width r told c) = trail_told l
trail_told (by_its_translate l device event r told c) = trail_told l
trail_told (by_its_write {u = u} l w row offset width value left after r told c) = mark_told u offset value told ∷ trail_told l

-- BASE DOES NOT READ IT: with b in the place of the bit, in a unit that may be built by hand, every read, translation and write, by value and by the C calls, is
-- the same; and b stays there.
abbrev pub Unread : ItsState → Bool → Type 0
Unread u b = Alike (λ v. unit_stalled v b) (λ w row offset width value. Unit {0}) u (unit_stalled u b)

-- STALLED IS SHOWN, of a unit whose configuration and ring are sound.
pub record StalledShown (u : ItsState) : Type 0 where
  -- in strict CREADR reads its offset, plus 1 if the unit is stalled: at 8 bytes, and in the low half
  pub if_strict : profile_of u.config ≡ strict → (width : ℕ) → (width ≡ 8) ⊎ (width ≡ 4) → (r : ReadAnswer) → Reads u GITS_CREADR width r →
      r ≡ Ok (u.registers.creadr + one_if u.registers.stalled)
  -- nothing of it in the high half
  pub high : (r : ReadAnswer) → Reads u (GITS_CREADR + 4) 4 r → r ≡ Ok 0
  -- in base it reads its offset, whatever the unit holds
  pub in_base : profile_of u.config ≡ base → (width : ℕ) → (width ≡ 8) ⊎ (width ≡ 4) → (r : ReadAnswer) → Reads u GITS_CREADR width r → r ≡ Ok u.registers.creadr
