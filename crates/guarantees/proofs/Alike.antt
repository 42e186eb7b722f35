-- Units whose answers by the definitions are alike answer alike.
-- Assumes nothing.
use Prim.Native.Nat.{ℕ}
use mathlib.Core.Path.{◌≡◌, refl, sym, ap, ◌∙◌}
use mathlib.Core.List.{List, map}
use lib.ListN.{get_or}
use Rattle.model.specs.declared.ItsDeviceId.{ItsDeviceId}
use Rattle.model.specs.declared.EventId.{EventId}
use Rattle.model.specs.declared.ItsState.{ItsState}
use Rattle.model.specs.declared.ItsAction.{ItsAction}
use Rattle.model.specs.Queue.{Window}
use Rattle.model.specs.Entry.{read, translate, write}
use Rattle.model.specs.Trace.{Record, CF, GM, RD, WR, TR, lent_row, write_of, lines_of}
use Rattle.model.proofs.AnyProfile.{outcome_in}
use Rattle.host.specs.Calls.{Tells, numbers_of_read, numbers_of_write, numbers_of_translation, action_in, row_with, actions_made}
use Rattle.guarantees.specs.Alike.{standing, MeantRecord, Alike}

-- two calls that tell the same
pub told_alike : (m n : List ℕ) → n ≡ m → (r r' : ℕ) (told told' : List ℕ) → Tells m r told → Tells n r' told' → (r' ≡ r) × (told' ≡ told)
told_alike m n e r r' told told' p q = (q.1 ∙ (ap (λ l. get_or l 0 0) e ∙ sym p.1), q.0 ∙ (e ∙ sym p.0))

module _ (change : ItsState → ItsState) (Meant : Window → List ItsAction → ℕ → ℕ → ℕ → Type 0) (u : ItsState)
    (reads : (offset width : ℕ) → read (change u) offset width ≡ read u offset width)
    (translates : (d : ItsDeviceId) (e : EventId) → translate (change u) d e ≡ translate u d e)
    (writes : (w : Window) (row : List ItsAction) (offset width value : ℕ) → Meant w row offset width value →
    write w row (change u) offset width value ≡ outcome_in change (write w row u offset width value))
    (made : (w : Window) (row : List ItsAction) (offset width value : ℕ) → Meant w row offset width value →
    actions_made w row (change u) offset width value ≡ actions_made w row u offset width value) where
  lines_alike : (w : Window) (r : Record) → MeantRecord Meant w r → lines_of (standing (change u) w) r ≡ lines_of (standing u w) r
  unfolding write_of
  lines_alike w (CF k) c = refl
  lines_alike w (GM x) c = refl
  lines_alike w (RD offset width) c = rw (reads offset width)
  lines_alike w (WR offset width value) c = rw (writes w lent_row offset width value c)
  lines_alike w (TR d e) c = rw (translates d e)

  pub answer_alike : Alike change Meant u (change u)
  answer_alike =
      record {
        same = refl;
        reads = λ offset width r r' e e'. e'.answer ∙ (reads offset width ∙ sym e.answer);
        translates = λ d e r r' q q'. q'.answer ∙ (translates d e ∙ sym q.answer);
        writes = λ w row offset width value c r r' left left' e e'.
            let same = writes w row offset width value c in (
              e'.answer ∙ (ap (λ o. o.written) same ∙ ap (λ x. record { unit = change x.unit; answer = x.answer }) (sym e.answer)),
              e'.row_is ∙ (ap (λ o. o.row) same ∙ sym e.row_is),
            );
        call_reads = λ offset width r r' told told' c c'. told_alike _ _ (ap numbers_of_read (reads offset width)) r r' told told' c c';
        call_translates = λ device event r r' told told' c c'.
            told_alike _ _ (ap numbers_of_translation (translates (record { 0 = device }) (record { 0 = event }))) r r' told told' c c';
        call_writes = λ w row offset width value c left left' after after' r r' told told' x x'.
            let same = writes w (map action_in row) offset width value c in
            let t = told_alike _ _ (ap (λ o. numbers_of_write o.written.answer) same) r r' told told' x.told x'.told in (
              x'.unit ∙ (ap (λ o. o.written.unit) same ∙ ap change (sym x.unit)),
              x'.row ∙ (ap (λ l. row_with l row) (made w (map action_in row) offset width value c) ∙ sym x.row),
              t.0,
              t.1,
            );
        records = lines_alike;
      }
