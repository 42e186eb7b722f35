-- Document 01, "Refusal numbers": where each refusal is given, in the order of 01's table; what a refused read and a refused translation leave; and which
-- units answer 1. What a refused write leaves is said in Kept.antt.
-- Assumes nothing.
use Rattle.std.specs.Prelude.{ℕ, ◌≡◌, List, ◌⊎◌, Err}
use Rattle.model.specs.declared.ItsDeviceId.{ItsDeviceId}
use Rattle.model.specs.declared.EventId.{EventId}
use Rattle.model.specs.declared.ItsState.{ItsState}
use Rattle.model.specs.declared.ItsAction.{ItsAction}
use Rattle.model.specs.declared.Register.TheVariants.{Cwriter}
use Rattle.model.specs.declared.Refusal.{Refusal}
use Rattle.model.specs.declared.Refusal.TheVariants.{Unsound, RowTooShort, InvalidAccess, Identification, BaseZero, WriterRefused, BudgetExceeded, NotInWindow}
use Rattle.model.specs.declared.Refusal.TheVariants.{OpcodeUnknown, LpiOutOfRange, DeviceUnmapped, EventBeyondBits, CollectionUnmapped, PairUnmapped, ProcessorUnlisted, DeviceTooLarge, ResourceNotFound, TableFull, LineDoesNotFit}
use Rattle.model.specs.declared.Written.{Written}
use Rattle.model.specs.Answer.{ReadAnswer, TranslateAnswer, write_refused}
use Rattle.model.specs.Refusal.{number_of, read_numbers, translate_numbers}
use Rattle.model.specs.Queue.{Window}
use Rattle.model.specs.Register.{value_written}
use Rattle.model.specs.Writing.{writer_of}
use Rattle.its.specs.Promises.{Reads, Writes, Translates}

-- Where a refusal is given.
pub data Given : Type 0 where
  -- before anything is stored
  at_entry : Given
  -- at CWRITER, before it is stored
  at_cwriter : Given
  -- before the first command
  at_budget : Given
  -- at the command on which CREADR stands
  at_command : Given
  -- by the C call
  at_output : Given

abbrev pub given_at : Refusal → Given
-- 1
given_at Unsound = at_entry
-- 10
given_at RowTooShort = at_entry
-- 2
given_at InvalidAccess = at_entry
-- 3
given_at Identification = at_entry
-- 4
given_at BaseZero = at_entry
-- 7
given_at WriterRefused = at_cwriter
-- 20 to 27 (02, A1 and A3), in the place of 01's 7 of a command
given_at OpcodeUnknown = at_command
given_at LpiOutOfRange = at_command
given_at DeviceUnmapped = at_command
given_at EventBeyondBits = at_command
given_at CollectionUnmapped = at_command
given_at PairUnmapped = at_command
given_at ProcessorUnlisted = at_command
given_at DeviceTooLarge = at_command
-- 5
given_at BudgetExceeded = at_budget
-- 6
given_at NotInWindow = at_command
-- 8
given_at ResourceNotFound = at_command
-- 9
given_at TableFull = at_command
-- 11
given_at LineDoesNotFit = at_output

-- `IfRefused r why P`: where a write that answers r is refused for the reason why, P holds of the opcode, the offset, done and actions that it answers
abbrev pub IfRefused : Written → Refusal → (ℕ → ℕ → ℕ → ℕ → Type 0) → Type 0
IfRefused r why P = (opcode at done actions : ℕ) → r.answer ≡ write_refused why opcode at done actions → P opcode at done actions

-- the writer that a CWRITER write brings: the merged value, in strict without bit 0; with a nonzero CBASER its bits 19:0
abbrev pub writer_by : ItsState → ℕ → ℕ → ℕ → ℕ
writer_by u offset width value = writer_of u.config u.registers (value_written u.config u.registers offset width value Cwriter)

-- WHAT A REFUSED READ LEAVES. The unit stays, since none comes back.
pub record ReadLeaves (r : ReadAnswer) : Type 0 where
  -- a refused read gives value 0
  pub value : (why : Refusal) → r ≡ Err why → read_numbers r ≡ record { refusal = number_of why; value = 0 }
  -- its number is 1, 2 or 3
  pub numbers : (why : Refusal) → r ≡ Err why → (why ≡ Unsound) ⊎ ((why ≡ InvalidAccess) ⊎ (why ≡ Identification))

-- WHAT A REFUSED TRANSLATION LEAVES. The unit stays, since none comes back.
pub record TranslateLeaves (r : TranslateAnswer) : Type 0 where
  -- a refused translate gives LPI 0, processor 0
  pub values : (why : Refusal) → r ≡ Err why → translate_numbers r ≡ record { refusal = number_of why; lpi = 0; processor = 0 }
  -- its number is 1 or 8
  pub numbers : (why : Refusal) → r ≡ Err why → (why ≡ Unsound) ⊎ (why ≡ ResourceNotFound)

-- THE UNIT ANSWERS 1 TO EVERYTHING, and stays as it is. An unsound unit does, and so the one that a refused configuration gives.
pub record AnswersOne (u : ItsState) : Type 0 where
  -- to every read
  pub reads : (offset width : ℕ) (r : ReadAnswer) → Reads u offset width r → r ≡ Err Unsound
  -- to every translation
  pub translates : (d : ItsDeviceId) (e : EventId) (r : TranslateAnswer) → Translates u d e r → r ≡ Err Unsound
  -- to every write, with opcode, offset, done and actions 0; unit and row are unchanged
  pub writes : (w : Window) (row : List ItsAction) (offset width value : ℕ) (r : Written) (left : List ItsAction) → Writes w row u offset width value r left →
      (r ≡ record { unit = u; answer = write_refused Unsound 0 0 0 0 }) × (left ≡ row)

-- THE UNIT NEVER ANSWERS 1. A sound unit does not.
pub record NeverOne (u : ItsState) : Type 0 where
  -- to no read
  pub reads : (offset width : ℕ) (r : ReadAnswer) → Reads u offset width r → r ≡ Err Unsound → ⊥
  -- to no translation
  pub translates : (d : ItsDeviceId) (e : EventId) (r : TranslateAnswer) → Translates u d e r → r ≡ Err Unsound → ⊥
  -- to no write
  pub writes : (w : Window) (row : List ItsAction) (offset width value : ℕ) (r : Written) (left : List ItsAction) → Writes w row u offset width value r left →
      IfRefused r Unsound (λ opcode at done actions. ⊥)
