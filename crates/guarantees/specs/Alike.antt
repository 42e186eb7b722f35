-- TWO UNITS THAT ANSWER ALIKE, over the contracts of the entries and of the C calls, and over a record of a trace: the second is the first but for a change, and
-- every write leaves it so. Profiles says it of a base unit and the strict one beside it, Stalled of a base unit and the same with another Stalled.
-- Assumes nothing.
use Rattle.std.specs.Prelude.{ℕ, ◌≡◌, List, map}
use Rattle.model.specs.declared.ItsDeviceId.{ItsDeviceId}
use Rattle.model.specs.declared.EventId.{EventId}
use Rattle.model.specs.declared.ItsState.{ItsState}
use Rattle.model.specs.declared.ItsAction.{ItsAction}
use Rattle.model.specs.declared.Written.{Written}
use Rattle.model.specs.Answer.{ReadAnswer, TranslateAnswer}
use Rattle.model.specs.Queue.{Window}
use Rattle.model.specs.Trace.{Record, CF, GM, RD, WR, TR, Running, lent_row, lines_of}
use Rattle.its.specs.Promises.{Reads, Writes, Translates}
use Rattle.host.specs.Calls.{action_in, CallReads, CallWrites, CallTranslates}

-- the run of a trace that stands at this unit, with this window
abbrev pub standing : ItsState → Window → Running
standing u w = record { unit = u; window = w }

-- a record whose write, if it is one, is one of those meant
abbrev pub MeantRecord : (Window → List ItsAction → ℕ → ℕ → ℕ → Type 0) → Window → Record → Type 0
MeantRecord Meant w (CF k) = Unit {0}
MeantRecord Meant w (GM x) = Unit {0}
MeantRecord Meant w (RD offset width) = Unit {0}
MeantRecord Meant w (WR offset width value) = Meant w lent_row offset width value
MeantRecord Meant w (TR d e) = Unit {0}

-- v is u but for the change; and so it is after each of the writes meant, by their window, row, offset, width and value
pub record Alike (change : ItsState → ItsState) (Meant : Window → List ItsAction → ℕ → ℕ → ℕ → Type 0) (u v : ItsState) : Type 0 where
  pub same : v ≡ change u
  pub reads : (offset width : ℕ) (r r' : ReadAnswer) → Reads u offset width r → Reads v offset width r' → r' ≡ r
  pub translates : (d : ItsDeviceId) (e : EventId) (r r' : TranslateAnswer) → Translates u d e r → Translates v d e r' → r' ≡ r
  -- a write: the same answer and row, and the same unit but for the change
  pub writes : (w : Window) (row : List ItsAction) (offset width value : ℕ) → Meant w row offset width value →
      (r r' : Written) (left left' : List ItsAction) → Writes w row u offset width value r left → Writes w row v offset width value r' left' →
      (r' ≡ record { unit = change r.unit; answer = r.answer }) × (left' ≡ left)
  -- the C calls
  pub call_reads : (offset width r r' : ℕ) (told told' : List ℕ) → CallReads u offset width r told → CallReads v offset width r' told' → (r' ≡ r) × (told' ≡ told)
  pub call_translates : (device event r r' : ℕ) (told told' : List ℕ) → CallTranslates u device event r told → CallTranslates v device event r' told' →
      (r' ≡ r) × (told' ≡ told)
  pub call_writes : (w : Window) (row : List ℕ) (offset width value : ℕ) → Meant w (map action_in row) offset width value →
      (left left' : ItsState) (after after' : List ℕ) (r r' : ℕ) (told told' : List ℕ) →
      CallWrites w row u offset width value left after r told → CallWrites w row v offset width value left' after' r' told' →
      (left' ≡ change left) × (after' ≡ after) × (r' ≡ r) × (told' ≡ told)
  -- and the records of a trace
  pub records : (w : Window) (r : Record) → MeantRecord Meant w r → lines_of (standing v w) r ≡ lines_of (standing u w) r
