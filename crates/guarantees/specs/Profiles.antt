-- Document 02, A3 and A4, over the contracts of the entries and of the C calls, and over a record of a trace (whole traces: Traces). A base unit is document 01's,
-- with A1 and A2 and as if there were no profile; and where the profiles agree (model: Common) both answer alike, over whole runs.
-- Assumes nothing.
use Rattle.std.specs.Prelude.{ℕ, ◌≡◌, false, ◌&&◌, not, List, [], ◌∷◌, map, eqb, Ok}
use Rattle.model.specs.declared.ItsDeviceId.{ItsDeviceId}
use Rattle.model.specs.declared.EventId.{EventId}
use Rattle.model.specs.declared.ItsConfig.{ItsConfig}
use Rattle.model.specs.declared.ItsRegisters.{ItsRegisters}
use Rattle.model.specs.declared.ItsState.{ItsState}
use Rattle.model.specs.declared.ItsAction.{ItsAction}
use Rattle.model.specs.declared.RegisterWrite.{RegisterWrite}
use Rattle.model.specs.declared.Configured.{Configured}
use Rattle.model.specs.declared.Written.{Written}
use Rattle.model.specs.Answer.{ReadAnswer, TranslateAnswer, write_taken}
use Rattle.model.specs.With.{with_registers, with_profile}
use Rattle.model.specs.Refusal.{verdict_number, read_numbers, translate_numbers}
use Rattle.model.specs.Arm.{◌of◌, CBASER_Valid, GITS_CREADR}
use Rattle.model.specs.Queue.{Window, may_run}
use Rattle.model.specs.Register.{lies_in}
use Rattle.model.specs.Writing.{stored_stalled, without_retry}
use Rattle.model.specs.Entry.{stores}
use Rattle.model.specs.In01.{configure_in01, read_in01, translate_in01, stores_in01, write_in01}
use Rattle.model.specs.Common.{in_profile, CommonWrite}
use Rattle.model.specs.Trace.{Record, CF, GM, RD, WR, TR, Running, line, read_line, translate_line, write_lines, lent_row, lines_of}
use Rattle.its.specs.Promises.{Configures, Reads, Writes, Translates}
use Rattle.host.specs.Calls.{Tells, numbers_of_read, numbers_of_write, numbers_of_translation, action_in, CallReads, CallWrites, CallTranslates}
use Rattle.guarantees.specs.MappingsInForce.{OfWritesTo}
use Rattle.guarantees.specs.Alike.{standing, MeantRecord, Alike}

-- A BASE UNIT IS DOCUMENT 01'S, with A1 and A2 (model: In01).

-- the lines of a record, from what 01's unit answers
abbrev pub lines_in01 : Running → Record → List (List ℕ)
lines_in01 s (CF k) = line "CF" (verdict_number (configure_in01 k).verdict ∷ []) ∷ []
lines_in01 s (GM w) = line "GM" (0 ∷ []) ∷ []
lines_in01 s (RD offset width) = read_line (read_numbers (read_in01 s.unit offset width)) ∷ []
lines_in01 s (WR offset width value) = write_lines (write_in01 s.window lent_row s.unit offset width value)
lines_in01 s (TR d e) = translate_line (translate_numbers (translate_in01 s.unit d e)) ∷ []

-- a record whose configuration, if it has one, is in base
abbrev pub InBase : Record → Type 0
InBase (CF k) = k.profile ≡ 0
InBase (GM w) = Unit {0}
InBase (RD offset width) = Unit {0}
InBase (WR offset width value) = Unit {0}
InBase (TR d e) = Unit {0}

-- To every access the unit u answers what 01's unit answers, and leaves what that leaves.
pub record As01 (u : ItsState) : Type 0 where
  pub reads : (offset width : ℕ) (r : ReadAnswer) → Reads u offset width r → r ≡ read_in01 u offset width
  pub translates : (d : ItsDeviceId) (e : EventId) (r : TranslateAnswer) → Translates u d e r → r ≡ translate_in01 u d e
  pub writes : OfWritesTo u (λ w row offset width value r left.
      (r ≡ (write_in01 w row u offset width value).written) × (left ≡ (write_in01 w row u offset width value).row))
  -- it stays a base unit, so the next access finds it as this one did
  pub stays_base : OfWritesTo u (λ w row offset width value r left. r.unit.config.profile ≡ 0)
  -- the C calls tell the same
  pub call_reads : (offset width r : ℕ) (told : List ℕ) → CallReads u offset width r told → Tells (numbers_of_read (read_in01 u offset width)) r told
  pub call_translates : (device event r : ℕ) (told : List ℕ) → CallTranslates u device event r told →
      Tells (numbers_of_translation (translate_in01 u (record { 0 = device }) (record { 0 = event }))) r told
  pub call_writes : (w : Window) (row : List ℕ) (offset width value : ℕ) (left : ItsState) (after : List ℕ) (r : ℕ) (told : List ℕ) →
      CallWrites w row u offset width value left after r told →
      (left ≡ (write_in01 w (map action_in row) u offset width value).written.unit)
      × (map action_in after ≡ (write_in01 w (map action_in row) u offset width value).row)
      × Tells (numbers_of_write (write_in01 w (map action_in row) u offset width value).written.answer) r told
  -- and a record of a trace has the same lines
  pub records : (w : Window) (r : Record) → InBase r → lines_of (standing u w) r ≡ lines_in01 (standing u w) r

-- A STRICT UNIT BESIDE DOCUMENT 01'S, whatever it holds (02, A3 and A4): what it reads, stores and lets run. (What its commands do: Reasons, MappingsInForce.)
pub record StrictAs01 (u : ItsState) : Type 0 where
  -- a write stores what 01's unit stores of the value without bit 0 at CWRITER, but for Stalled (Stalled says what becomes of it)
  pub stores_as : (row : List ItsAction) (offset width value : ℕ) →
      stores row u offset width value ≡ stored_stalled (stores_in01 row u offset width (without_retry offset value)) (stores row u offset width value).registers.stalled
  -- the queue runs in an enabled unit while bit 63 of CBASER is 1 and it is not stalled
  pub runs_while : (r : ItsRegisters) → may_run u.config r ≡ (r.enabled && (eqb (CBASER_Valid of r.cbaser) 1 && not r.stalled))
  -- every read that is not of CREADR, and every translation, is 01's
  pub reads : (offset width : ℕ) (r : ReadAnswer) → Reads u offset width r → lies_in GITS_CREADR offset ≡ false → r ≡ read_in01 u offset width
  pub translates : (d : ItsDeviceId) (e : EventId) (r : TranslateAnswer) → Translates u d e r → r ≡ translate_in01 u d e

-- STRICT, of a queue that is held (model: Queue.held), by bit 63 of CBASER or by Stalled: what was written is stored, the answer is 0, and the row stays.
abbrev pub OnlyStores : List ItsAction → ItsState → RegisterWrite → Written → List ItsAction → Type 0
OnlyStores row u s r left = (r ≡ record { unit = with_registers u s.registers; answer = write_taken 0 0 }) × (left ≡ row)

-- WHERE THE PROFILES AGREE.

-- `LedAlike k u v`: configured with k in base and in strict, the same accesses led to the unit u and to the unit v. Reads and translations leave a unit as
-- it is; each write was one on which the profiles agree, seen from the base unit.
pub data LedAlike (k : ItsConfig) : ItsState → ItsState → Type 0 where
  both_begin : (c c' : Configured) → Configures (with_profile k 0) c → Configures (with_profile k 1) c' → c.verdict ≡ Ok tt → LedAlike k c.unit c'.unit
  both_write : {u v : ItsState} → LedAlike k u v → (w : Window) (row : List ItsAction) (offset width value : ℕ) → CommonWrite w row u offset width value →
      (r r' : Written) (left left' : List ItsAction) → Writes w row u offset width value r left → Writes w row v offset width value r' left' →
      LedAlike k r.unit r'.unit

-- a record whose write, if it is one, is one on which they agree
abbrev pub CommonRecord : Running → Record → Type 0
CommonRecord s r = MeantRecord (λ w row offset width value. CommonWrite w row s.unit offset width value) s.window r

-- BOTH ANSWER ALIKE, the base unit u and the strict unit v: they hold the same but for the profile.
abbrev pub AnswerAlike : ItsState → ItsState → Type 0
AnswerAlike u v = Alike (in_profile 1) (λ w row offset width value. CommonWrite w row u offset width value) u v
