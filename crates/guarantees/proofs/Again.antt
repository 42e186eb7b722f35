-- A LATER WRITE TRIES THE FAILING COMMAND AGAIN: a write that runs its queue begins with the command on which CREADR stands.
-- Assumes nothing.
use Prim.Native.Nat.{ℕ, suc, ◌-◌}
use native.Mathlib.Omega.{arith}
use mathlib.Core.Path.{◌≡◌, refl, sym, ap, ap₂, ◌∙◌}
use mathlib.Core.Bool.{true}
use mathlib.Core.List.{List, ◌++◌}
use Rattle.model.specs.declared.ItsRegisters.{ItsRegisters}
use Rattle.model.specs.declared.ItsState.{ItsState}
use Rattle.model.specs.declared.ItsAction.{ItsAction}
use Rattle.model.specs.declared.Command.{Command}
use Rattle.model.specs.declared.RegisterWrite.{RegisterWrite}
use Rattle.model.specs.declared.Written.{Written}
use Rattle.model.specs.Answer.{write_refused}
use Rattle.model.specs.Choose.{list_of}
use Rattle.model.specs.With.{with_registers}
use Rattle.model.specs.Refusal.{write_numbers}
use Rattle.model.specs.Queue.{Window, waiting, Turn, passes, stays, turn, carry_out, Ran, go_on, run, stall, halting, may_run}
use Rattle.model.specs.Writing.{going}
use Rattle.model.specs.Entry.{Outcome, after_run, stores}
use Rattle.model.specs.Passed.{commands_passed}
use Rattle.model.proofs.Cases.{never}
use Rattle.model.proofs.Ring.{reader_below, past_below}
use Rattle.model.proofs.Turns.{passing, carried_registers, passed_first, passed_same}
use Rattle.model.proofs.Runs.{run_keeps}
use Rattle.model.proofs.Answers.{done-of, halted-unit, halted-answer}
use Rattle.model.proofs.Ways.{Stored, Way, checked, no_base, no_writer, quiet, based, off, over, ran, way}
use Rattle.its.specs.Promises.{Writes}
use Rattle.guarantees.specs.Retries.{Tries, BeginsWith, TriesAgain}
use Rattle.guarantees.proofs.SameTurn.{turn_same}

module _ (w : Window) (row : List ItsAction) (u : ItsState) (offset width value : ℕ) where
  -- The run of one command and m more, by the turn of the first.
  module _ (s : ItsRegisters) (g : Stored w row u offset width value s) (m : ℕ) where
    abbrev after : Turn → Ran
    after t = go_on (with_registers u s) t (run w m)

    first_accepted : (x : Command) → turn w (with_registers u s) ≡ passes x → BeginsWith w u (going s) (after_run (halting (after (passes x))) row).written x
    first_accepted x t =
        let v = carry_out (with_registers u s) x in
        let q = run w m v in
        let p = passing (with_registers u s) x w (reader_below s g.ring) t in
        let past = carried_registers (with_registers u s) x p.accepted in
        let k = run_keeps w m v (rw past (past_below s)) in
        record {
          later = commands_passed w v.registers q.done;
          handed = q.actions;
          first =
              ap (λ a. commands_passed w u.registers (write_numbers a).done) (halted-answer (after (passes x)))
              ∙ (ap (commands_passed w u.registers) (done-of (after (passes x)) q.stopped)
              ∙ (sym (passed_same w s u.registers g.base g.reader (suc q.done))
              ∙ (passed_first w s q.done ∙ ap₂ (λ l o. commands_passed w l q.done ++ list_of o) (sym past) p.shown)));
          led_to = q.unit;
          follow = k.carried;
          unit_left = halted-unit (after (passes x));
        }

    by_turn : (t : Turn) → turn w (with_registers u s) ≡ t → TriesAgain w row u (going s) (after_run (halting (after t)) row).written (after_run (halting (after t)) row).row
    unfolding stall
    by_turn t e =
        let same : turn w u ≡ t = sym (turn_same u s w g.base g.reader) ∙ e in
        record {
          refuses = λ why opcode h. let it : t ≡ stays why opcode = sym same ∙ h in
              rw it (ap (λ c. record { unit = stall (with_registers u s); answer = write_refused why opcode c 0 0 }) g.reader, refl);
          accepts = λ x h. let it : t ≡ passes x = sym same ∙ h in rw it (first_accepted x (e ∙ it));
        }

  by_way : {s : RegisterWrite} {o : Outcome} → Way w row u offset width value s o → Tries u s → TriesAgain w row u s o.written o.row
  by_way (checked why c) t = never true refl (sym t.lets_run)
  by_way (no_base sound) t = never true refl (sym t.lets_run)
  by_way (no_writer sound at) t = never true refl (sym t.lets_run)
  by_way (quiet s g) t = never true refl (sym t.lets_run)
  by_way (based s c k z) t = never true refl (sym t.lets_run)
  by_way (off s g out) t = never (may_run u.config s) t.may out
  by_way (over s g on more) t = absurd (omega (arith, t.within, more))
  by_way (ran s g on within) t =
      let m = waiting s - 1 in
      let one_more : waiting s ≡ suc m = omega (arith, t.waits) in
      rw one_more (by_turn s g m (turn w (with_registers u s)) refl)

  -- THE THEOREM, of any unit.
  pub tries_again : (r : Written) (left : List ItsAction) → Writes w row u offset width value r left → Tries u (stores row u offset width value) →
      TriesAgain w row u (stores row u offset width value) r left
  tries_again r left e t = rw (e.answer, e.row_is) (by_way (way w row u offset width value) t)
