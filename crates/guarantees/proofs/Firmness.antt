-- FIRMNESS: of every public entry, two answers that meet its contract at the same inputs are equal, and there is always one.
-- Assumes nothing.
use Prim.Native.Nat.{ℕ}
use mathlib.Core.Path.{◌≡◌, refl, sym, ap₂, ◌∙◌}
use mathlib.Core.List.{List, ◌++◌, map}
use lib.ListN.{get_or, take, drop}
use Rattle.model.specs.declared.ItsDeviceId.{ItsDeviceId}
use Rattle.model.specs.declared.EventId.{EventId}
use Rattle.model.specs.declared.ItsConfig.{ItsConfig}
use Rattle.model.specs.declared.ItsState.{ItsState}
use Rattle.model.specs.declared.ItsAction.{ItsAction}
use Rattle.model.specs.declared.Configured.{Configured}
use Rattle.model.specs.Answer.{ReadAnswer, TranslateAnswer}
use Rattle.model.specs.Refusal.{verdict_number}
use Rattle.model.specs.Config.{answers_no_unit}
use Rattle.model.specs.Queue.{Window}
use Rattle.model.specs.Trace.{lent_row, returned, output_after}
use Rattle.model.specs.Entry.{Outcome, configure, read, write, translate}
use Rattle.its.specs.declared.WrittenRow.{WrittenRow}
use Rattle.its.specs.Promises.{NoUnit, Configures, Reads, beside_row, WritesLent, Translates}
use Rattle.host.specs.Calls.{Tells, numbers_of_verdict, numbers_of_read, numbers_of_write, numbers_of_translation, config_given, action_in, row_with, actions_made, CallConfigures}
use Rattle.guarantees.specs.Firm.{Answered, Firm, WritesBoth, TraceOutcome, TracedBoth, CallAnswer, CallAnswerUnit, CallAnswerRow, CallWritesAll, OfEveryEntry}
use Rattle.lent_tables.specs.Numbers.{unit_in}
use Rattle.host.proofs.RowReads.{numbers_small, made_reads}

-- what is equal to one thing
only_one : {A : Type 0} (x : A) → Firm A (λ a. a ≡ x)
only_one x a b p q = p ∙ sym q

pub firm_no_unit : Firm ItsState NoUnit
firm_no_unit = only_one answers_no_unit

pub firm_configure : (k : ItsConfig) → Firm Configured (Configures k)
firm_configure k a b p q = p.answer ∙ sym q.answer

pub firm_read : (u : ItsState) (offset width : ℕ) → Firm ReadAnswer (Reads u offset width)
firm_read u offset width a b p q = p.answer ∙ sym q.answer

pub firm_translate : (u : ItsState) (d : ItsDeviceId) (e : EventId) → Firm TranslateAnswer (Translates u d e)
firm_translate u d e a b p q = p.answer ∙ sym q.answer

-- the answer with the unit by one equation, the row by another
pub firm_write : (w : Window) (row : List ItsAction) (u : ItsState) (offset width value : ℕ) → Firm Outcome (WritesBoth w row u offset width value)
firm_write w row u offset width value a b p q = ap₂ (λ r left. record { written = r; row = left }) (p.answer ∙ sym q.answer) (p.row_is ∙ sym q.row_is)

pub firm_write_lent : (w : Window) (room : ℕ) (u : ItsState) (offset width value : ℕ) → Firm WrittenRow (WritesLent w room u offset width value)
firm_write_lent w room u offset width value a b p q = p.answer ∙ sym q.answer

-- the number by the first equation, the output by the second
pub firm_trace : (trace out : List ℕ) → Firm TraceOutcome (TracedBoth trace out)
firm_trace trace out a b p q = ap₂ (λ n left. record { number = n; output = left }) (p.0 ∙ sym q.0) (p.1 ∙ sym q.1)

-- of the C calls for hosts: each number, the unit and the row by its own equation
pub firm_told : (numbers : List ℕ) → Firm CallAnswer (λ o. Tells numbers o.number o.told)
firm_told numbers a b p q = ap₂ (λ n t. record { number = n; told = t }) (p.1 ∙ sym q.1) (p.0 ∙ sym q.0)

-- the same numbers of both
same_told : (numbers : List ℕ) (m n : ℕ) (s t : List ℕ) → Tells numbers m s → Tells numbers n t → ◌≡◌ {A = CallAnswer} (record { number = m; told = s }) (record { number = n; told = t })
same_told numbers m n s t p q = firm_told numbers (record { number = m; told = s }) (record { number = n; told = t }) p q

pub firm_call_configure : (ss ps : List ℕ) → Firm CallAnswerUnit (λ o. CallConfigures ss ps o.unit o.number o.told)
firm_call_configure ss ps a b p q =
    let same = same_told (numbers_of_verdict (configure (config_given ss ps))) a.number b.number a.told b.told p.1 q.1 in
    ap₂ (λ o u. record { number = o.number; told = o.told; unit = u }) same (p.0 ∙ sym q.0)

pub firm_call_write : (w : Window) (row : List ℕ) (u : ItsState) (offset width value : ℕ) → Firm CallAnswerRow (CallWritesAll w row u offset width value)
firm_call_write w row u offset width value a b p q =
    let numbers = numbers_of_write (write w (map action_in row) u offset width value).written.answer in
    let same = same_told numbers a.number b.number a.told b.told p.told q.told in
    ap₂ (λ (o : CallAnswer) (z : ItsState × List ℕ). record { number = o.number; told = o.told; unit = z.0; row = z.1 }) same
    (ap₂ (λ v r. (v, r)) (p.unit ∙ sym q.unit) (p.row ∙ sym q.row))

-- THE THEOREMS.
pub firm_entries : OfEveryEntry Firm
firm_entries =
    record {
      no_unit = firm_no_unit;
      configure = firm_configure;
      read_its = firm_read;
      write_its = firm_write;
      write_lent = firm_write_lent;
      translate = firm_translate;
      its_trace = firm_trace;
      its_configure = firm_call_configure;
      its_read = λ u offset width. firm_told _;
      its_write = λ w row s offset width value. firm_call_write w row (unit_in s) offset width value;
      its_translate = λ u device event. firm_told _;
    }

-- what its_write returns, tells and leaves
answered_call_write : (w : Window) (row s : List ℕ) (offset width value : ℕ) → Answered CallAnswerRow (CallWritesAll w row (unit_in s) offset width value)
answered_call_write w row s offset width value =
    let u = unit_in s in
    let o = write w (map action_in row) u offset width value in
    let n = numbers_of_write o.written.answer in
    let after = row_with (actions_made w (map action_in row) u offset width value) row in (
      record { number = get_or n 0 0; told = n; unit = o.written.unit; row = after },
      record { unit = refl; row = refl; row_reads = made_reads w row u (numbers_small s) offset width value; told = (refl, refl) },
    )

pub answered_entries : OfEveryEntry Answered
answered_entries =
    record {
      no_unit = (answers_no_unit, refl);
      configure = λ k. (configure k, record { answer = refl; numbers = refl });
      read_its = λ u offset width. (read u offset width, record { answer = refl; numbers = refl });
      write_its = λ w row u offset width value. (write w row u offset width value, record { answer = refl; row_is = refl; numbers = refl });
      write_lent = λ w room u offset width value.
          let o = write w (take room lent_row) u offset width value in
          (beside_row o.written (o.row ++ drop room lent_row), record { answer = refl; numbers = refl });
      translate = λ u d e. (translate u d e, record { answer = refl; numbers = refl });
      its_trace = λ trace out. (record { number = returned trace out; output = output_after trace out }, (refl, refl));
      its_configure = λ ss ps.
          let c = configure (config_given ss ps) in
          (record { number = verdict_number c.verdict; told = numbers_of_verdict c; unit = c.unit }, (refl, (refl, refl)));
      its_read = λ u offset width.
          let n = numbers_of_read (read u offset width) in
          (record { number = get_or n 0 0; told = n }, (refl, refl));
      its_write = answered_call_write;
      its_translate = λ u device event.
          let n = numbers_of_translation (translate u (record { 0 = device }) (record { 0 = event })) in
          (record { number = get_or n 0 0; told = n }, (refl, refl));
    }
