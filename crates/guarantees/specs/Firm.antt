-- Document 01, "How firm each answer is": every public entry has a contract that determines its answer, the next unit and the row for all inputs,
-- refusals included. The predicates are those that the entries' `ensures` name (crates/its/specs/Promises.antt,
-- crates/trace/specs/Traced.antt, crates/host/specs/Calls.antt).
-- Assumes nothing.
use Rattle.std.specs.Prelude.{ℕ, ◌≡◌, List}
use Rattle.model.specs.declared.ItsDeviceId.{ItsDeviceId}
use Rattle.model.specs.declared.EventId.{EventId}
use Rattle.model.specs.declared.ItsConfig.{ItsConfig}
use Rattle.model.specs.declared.ItsState.{ItsState}
use Rattle.model.specs.declared.ItsAction.{ItsAction}
use Rattle.model.specs.declared.Configured.{Configured}
use Rattle.model.specs.Answer.{ReadAnswer, TranslateAnswer}
use Rattle.model.specs.Queue.{Window}
use Rattle.model.specs.Entry.{Outcome}
use Rattle.its.specs.declared.WrittenRow.{WrittenRow}
use Rattle.its.specs.Promises.{NoUnit, Configures, Reads, Writes, WritesLent, Translates}
use Rattle.trace.specs.Traced.{Traced}
use Rattle.lent_tables.specs.Numbers.{unit_in}
use Rattle.host.specs.Calls.{CallConfigures, CallReads, CallWrites, CallTranslates}

-- some answer meets the contract: no input is left out
abbrev pub Answered : (A : Type 0) → (A → Type 0) → Type 0
Answered A P = (a : A) × P a

-- any second answer that meets the contract is equal to the first
abbrev pub Firm : (A : Type 0) → (A → Type 0) → Type 0
Firm A P = (a b : A) → P a → P b → a ≡ b

-- what comes back from a write: the answer with the unit, and what stands in the row afterwards
abbrev pub WritesBoth : Window → List ItsAction → ItsState → ℕ → ℕ → ℕ → Outcome → Type 0
WritesBoth w row u offset width value o = Writes w row u offset width value o.written o.row

-- what comes back from the C call: the number returned, and what stands in the output afterwards
pub record TraceOutcome : Type 0 where
  pub number : ℕ
  pub output : List ℕ

abbrev pub TracedBoth : List ℕ → List ℕ → TraceOutcome → Type 0
TracedBoth trace out o = Traced trace out o.number o.output

-- what comes back from a C call for hosts: the number returned, the numbers told, and, from those that are lent the unit to change it, the unit and
-- the row that are left
pub record CallAnswer : Type 0 where
  pub number : ℕ
  pub told : List ℕ

pub record CallAnswerUnit : Type 0 where
  pub number : ℕ
  pub told : List ℕ
  pub unit : ItsState

pub record CallAnswerRow : Type 0 where
  pub number : ℕ
  pub told : List ℕ
  pub unit : ItsState
  pub row : List ℕ

abbrev pub CallWritesAll : Window → List ℕ → ItsState → ℕ → ℕ → ℕ → CallAnswerRow → Type 0
CallWritesAll w row u offset width value o = CallWrites w row u offset width value o.unit o.row o.number o.told

-- P of the contract of every public entry, at all inputs. One field an entry.
pub record OfEveryEntry (P : (A : Type 0) → (A → Type 0) → Type 0) : Type 0 where
  -- `no_unit` answers a unit
  pub no_unit : P ItsState NoUnit
  -- `configure` answers verdict and unit
  pub configure : (k : ItsConfig) → P Configured (Configures k)
  -- `read_its` answers numbers; no unit comes back
  pub read_its : (u : ItsState) (offset width : ℕ) → P ReadAnswer (Reads u offset width)
  -- `write_its` answers numbers and unit, and leaves a row
  pub write_its : (w : Window) (row : List ItsAction) (u : ItsState) (offset width value : ℕ) → P Outcome (WritesBoth w row u offset width value)
  -- `write_lent` answers numbers, unit and the row that it was lent
  pub write_lent : (w : Window) (room : ℕ) (u : ItsState) (offset width value : ℕ) → P WrittenRow (WritesLent w room u offset width value)
  -- `translate` answers numbers; no unit comes back
  pub translate : (u : ItsState) (d : ItsDeviceId) (e : EventId) → P TranslateAnswer (Translates u d e)
  -- `its_trace`, the C call, returns a number and leaves an output
  pub its_trace : (trace out : List ℕ) → P TraceOutcome (TracedBoth trace out)
  -- `its_configure` returns a number, tells five and leaves a unit
  pub its_configure : (ss ps : List ℕ) → P CallAnswerUnit (λ o. CallConfigures ss ps o.unit o.number o.told)
  -- `its_read` returns a number and tells five; the unit is lent to be read only
  pub its_read : (u : ItsState) (offset width : ℕ) → P CallAnswer (λ o. CallReads u offset width o.number o.told)
  -- `its_write` returns a number, tells five, and leaves a unit and a row; lent are the numbers that are lent to it
  pub its_write : (w : Window) (row lent : List ℕ) (offset width value : ℕ) → P CallAnswerRow (CallWritesAll w row (unit_in lent) offset width value)
  -- `its_translate` returns a number and tells five; the unit is lent to be read only
  pub its_translate : (u : ItsState) (device event : ℕ) → P CallAnswer (λ o. CallTranslates u device event o.number o.told)
