-- What a WR record comes to, from what the write answers: the unit, the answer and the row.
-- Assumes nothing.
use Prim.Native.Nat.{ℕ, ◌+◌, ◌≤◌}
use mathlib.Core.Path.{◌≡◌, ◌∙◌, ap}
use mathlib.Core.List.{List, ◌∷◌, map}
use lib.ListN.{length, take, drop}
use Rattle.model.specs.declared.ItsState.{ItsState}
use Rattle.model.specs.declared.ItsAction.{ItsAction}
use Rattle.model.specs.Answer.{WriteAnswer}
use Rattle.model.specs.Refusal.{write_numbers}
use Rattle.model.specs.Entry.{Outcome, write}
use Rattle.model.specs.Trace.{number, write_line, action_line, lent_row, write_of}
use Rattle.text.specs.declared.Laid.{Laid}
use Rattle.text.specs.Laying.{output, lay_all}
use Rattle.trace.specs.declared.Run.{Run}
use Rattle.trace.specs.declared.Mark.TheVariants.{Wr}
use Rattle.trace.specs.Records.{stretch_of, stand_at, CarriesRecord}
use Rattle.trace.proofs.Parsing.{wr_whole}

-- the write of a record, with a window of the trace
abbrev pub written : List ℕ → Run → ℕ → ℕ → ℕ → ℕ → Outcome
written trace run size offset width value = write (record { address = run.address; bytes = take size (drop run.from trace) }) lent_row run.unit offset width value

pub carries : (trace bytes out : List ℕ) (run : Run) (left : List ℕ) (laid : Laid) (unit : ItsState) (answer : WriteAnswer) (row : List ItsAction)
    (size offset width value : ℕ) → 19 ≤ length bytes → size ≡ run.size → offset ≡ number 2 8 bytes → width ≡ number 10 1 bytes →
    value ≡ number 11 8 bytes → unit ≡ (written trace run size offset width value).written.unit →
    answer ≡ (written trace run size offset width value).written.answer → row ≡ (written trace run size offset width value).row →
    output left laid ≡ lay_all (output out run.laid)
    (write_line (write_numbers answer) ∷ map action_line (take (write_numbers answer).actions row)) →
    CarriesRecord Wr trace bytes out run left (record { at = run.at + 19; laid = laid; address = run.address; from = run.from; size = run.size; unit = unit })
unfolding write_of
carries trace bytes out run left laid unit answer row size offset width value h s o w v u a r e =
    rw (wr_whole bytes h) (ap (λ t. stand_at t (run.at + 19) (stretch_of run) unit) e ∙ rw (u, a, r, s, o, w, v))
