-- What a run of the waiting commands leaves, from the unit with the value stored: where it stopped, and what it handed over.
-- Assumes nothing.
use Prim.Native.Nat.{ℕ, ◌-◌, ◌≤◌}
use native.Mathlib.Omega.{arith}
use mathlib.Core.Path.{◌≡◌, refl, sym, ap, ◌∙◌}
use mathlib.Core.Bool.{Bool, true}
use mathlib.Core.List.{List}
use Rattle.model.specs.declared.ItsRegisters.{ItsRegisters}
use Rattle.model.specs.declared.ItsState.{ItsState}
use Rattle.model.specs.declared.ItsAction.{ItsAction}
use Rattle.model.specs.declared.Refusal.{Refusal}
use Rattle.model.specs.Answer.{write_refused, write_taken}
use Rattle.model.specs.Refusal.{write_numbers}
use Rattle.model.specs.With.{with_registers, with_stalled, unit_stalled}
use Rattle.model.specs.Queue.{Window, waiting, turn, Ran, run, halting, may_run}
use Rattle.model.specs.Writing.{going}
use Rattle.model.specs.Entry.{answer_of, after_run}
use Rattle.model.specs.Passed.{ring_offset, commands_passed}
use Rattle.model.proofs.Ring.{reader_below}
use Rattle.model.proofs.Waiting.{waiting_all}
use Rattle.model.proofs.Turns.{passed_same}
use Rattle.model.proofs.Runs.{RunKeeps, run_keeps}
use Rattle.model.proofs.Answers.{done-of, actions-of, stop-of, taken_of, halted-unit, halted-answer}
use Rattle.model.proofs.Ways.{Stored}
use Rattle.guarantees.specs.Refusals.{at_command, given_at}
use Rattle.guarantees.specs.Kept.{CommandsKept, StopsAt}
use Rattle.guarantees.proofs.Reasons.{staying}
use Rattle.guarantees.proofs.Counted.{as_many, no_more, fits}
use Rattle.guarantees.proofs.Remaining.{waiting_after}
use Rattle.guarantees.proofs.SameTurn.{turn_same}

module _ (w : Window) (row : List ItsAction) (u : ItsState) (offset width value : ℕ) (s : ItsRegisters) (g : Stored w row u offset width value s)
    (on : may_run u.config s ≡ true) (within : waiting s ≤ u.config.command_budget) where
  abbrev q : Ran
  q = run w (waiting s) (with_registers u s)

  keeps : RunKeeps w (waiting s) (with_registers u s) q
  keeps = run_keeps w (waiting s) (with_registers u s) (reader_below s g.ring)

  -- Stalled apart, its unit is left
  halted : (halting q).unit ≡ unit_stalled q.unit (halting q).unit.registers.stalled
  halted = halted-unit q

  waiting_stalled : (r : ItsRegisters) (b : Bool) → waiting (with_stalled r b) ≡ waiting r
  unfolding waiting
  waiting_stalled r b = refl

  -- CBASER and CREADR are as before the write
  passed : (n : ℕ) → commands_passed w u.registers n ≡ commands_passed w s n
  passed n = sym (passed_same w s u.registers g.base g.reader n)

  -- It stopped: the command on which CREADR stands is refused, for one of a command's reasons.
  module _ (why : Refusal) (opcode at done actions : ℕ) (h : answer_of (halting q) ≡ write_refused why opcode at done actions) where
    told : answer_of q ≡ write_refused why opcode at done actions
    told = sym (halted-answer q) ∙ h

    pub stop_kind : given_at why ≡ at_command
    stop_kind = (staying q.unit w why opcode (keeps.refused _ (stop-of q q.stopped why opcode at done actions told).0)).0

    pub stops : StopsAt w (going s) (after_run (halting q) row).written why opcode at
    stops =
        let (stop, place) = stop-of q q.stopped why opcode at done actions told in
        let remain : waiting q.unit.registers ≡ waiting s - q.done = rw keeps.registers (waiting_after s g.ring q.done keeps.at_most) in
        record {
          lets_run = refl;
          may = ap (λ z. may_run z.config s) halted ∙ rw keeps.config on;
          waits = omega (arith, ap (λ z. waiting z.registers) halted ∙ waiting_stalled q.unit.registers _, remain, keeps.fewer _ stop);
          fails = ap (turn w) halted ∙ (turn_same q.unit (with_stalled q.unit.registers _) w refl refl ∙ keeps.refused _ stop);
          offset = place ∙ sym (ap (λ z. z.registers.creadr) halted);
        }

  -- it did not stop: no command is left
  pub none_left : (done actions : ℕ) → answer_of (halting q) ≡ write_taken done actions → (halting q).unit.registers.creadr ≡ s.cwriter
  none_left done actions h =
      ap (λ z. z.registers.creadr) halted
      ∙ (ap (λ r. r.creadr) keeps.registers
      ∙ (ap (ring_offset s) (keeps.all (taken_of q q.stopped done actions (sym (halted-answer q) ∙ h))) ∙ waiting_all s g.ring))

  -- stopped or not
  pub commands_run : CommandsKept w row u (going s) (after_run (halting q) row).written (after_run (halting q) row).row
  commands_run =
      let number : (write_numbers (answer_of (halting q))).done ≡ q.done = ap (λ a. (write_numbers a).done) (halted-answer q) ∙ done-of q q.stopped in
      let count = as_many keeps.carried in
      record {
        shown = rw (number, passed q.done) keeps.shown;
        handed = q.actions;
        led_to = q.unit;
        carried = rw (number, passed q.done) keeps.carried;
        unit_left = halted;
        in_row = refl;
        room = fits q.actions row (omega (arith, count, no_more (commands_passed w s q.done), keeps.shown, keeps.at_most, within, g.room));
        handed_over = ap (λ a. (write_numbers a).actions) (halted-answer q) ∙ actions-of q q.stopped;
      }
