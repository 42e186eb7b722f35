-- What a write comes to on a sound unit, whatever it is to: by the ways a write can go of the model.
-- Assumes nothing.
use Prim.Native.Nat.{ℕ}
use native.Mathlib.Omega.{arith}
use mathlib.Core.Path.{◌≡◌, refl, sym, ap, ◌∙◌}
use mathlib.Core.Bool.{true, false}
use mathlib.Core.List.{List}
use lib.Dec.{eqb}
use borrow.Author.Tests.{eqb-true}
use Rattle.model.specs.declared.ItsConfig.{ItsConfig}
use Rattle.model.specs.declared.ItsRegisters.{ItsRegisters}
use Rattle.model.specs.declared.ItsState.{ItsState}
use Rattle.model.specs.declared.ItsAction.{ItsAction}
use Rattle.model.specs.declared.RegisterWrite.{RegisterWrite}
use Rattle.model.specs.Answer.{write_taken}
use Rattle.model.specs.Arm.{◌of◌, CBASER_Valid}
use Rattle.model.specs.With.{with_registers, with_stalled, with_reader, unit_stalled}
use Rattle.model.specs.Config.{sound_unit}
use Rattle.model.specs.Queue.{Window, run, waiting, held, may_run}
use Rattle.model.specs.Register.{is_stalled}
use Rattle.model.specs.Entry.{Outcome, stores, write}
use Rattle.model.specs.Passed.{ring_offset, commands_passed, CarriedOut}
use Rattle.model.specs.Writing.{then_runs}
use Rattle.model.proofs.Cases.{never}
use Rattle.model.proofs.Ring.{reader_below}
use Rattle.model.proofs.Waiting.{waiting_all}
use Rattle.model.proofs.Runs.{run_keeps}
use Rattle.model.proofs.Answers.{taken_of, halted-unit, halted-answer}
use Rattle.model.proofs.Ways.{Way, checked, no_base, no_writer, quiet, based, off, over, ran, way, as_run, ran_by, run_kept, stays_sound}
use Rattle.model.proofs.Held.{carried_out}
use Rattle.model.proofs.Profiles.{off_may}
use Rattle.arm_agreement.specs.Runs.{unit_by, done_by}

-- s is what the write does to the registers, o its outcome
pub record Comes (w : Window) (u : ItsState) (s : RegisterWrite) (o : Outcome) : Type 0 where
  pub config : (unit_by o).config ≡ u.config
  pub sound : sound_unit (unit_by o) ≡ true
  -- CREADR passed the commands that were done, and the other registers, but for Stalled, are as they were stored
  pub registers : (unit_by o).registers ≡ with_stalled (with_reader s.registers (ring_offset s.registers (done_by o))) (unit_by o).registers.stalled
  -- they were carried out, from the unit with the value stored, handed over these actions and led to this unit
  pub handed : List ItsAction
  pub led : ItsState
  pub carried : CarriedOut (with_registers u s.registers) (commands_passed w u.registers (done_by o)) handed led
  -- which is, but for Stalled, the unit after the write
  pub unit : unit_by o ≡ unit_stalled led (unit_by o).registers.stalled
  -- a disabled unit runs nothing
  pub disabled : s.registers.enabled ≡ false → done_by o ≡ 0
  -- a write that is taken and lets an enabled unit run whose ring is valid, and which is not stalled, leaves no command waiting
  pub taken : (done actions : ℕ) → o.written.answer ≡ write_taken done actions → then_runs s ≡ true → s.registers.enabled ≡ true →
      eqb (CBASER_Valid of u.registers.cbaser) 1 ≡ true → is_stalled u.config s.registers ≡ false → (unit_by o).registers.creadr ≡ s.registers.cwriter

-- with bit 63 set, the queue of an enabled unit that is not stalled may run
may : (k : ItsConfig) (r : ItsRegisters) → r.enabled ≡ true → CBASER_Valid of r.cbaser ≡ 1 → is_stalled k r ≡ false → may_run k r ≡ true
unfolding may_run held
may k r on valid clear = rw (on, valid, clear)

module _ (w : Window) (row : List ItsAction) (u : ItsState) (offset width value : ℕ) where
  to_writer : {s : RegisterWrite} {o : Outcome} → Way w row u offset width value s o → (done actions : ℕ) → o.written.answer ≡ write_taken done actions →
      then_runs s ≡ true → s.registers.enabled ≡ true → eqb (CBASER_Valid of u.registers.cbaser) 1 ≡ true → is_stalled u.config s.registers ≡ false →
      (unit_by o).registers.creadr ≡ s.registers.cwriter
  to_writer (checked why c) done actions t runs on valid clear = never true refl (sym runs)
  to_writer (no_base sound) done actions t runs on valid clear = never true refl (sym runs)
  to_writer (no_writer sound at) done actions t runs on valid clear = never true refl (sym runs)
  to_writer (quiet s g) done actions t runs on valid clear = never true refl (sym runs)
  to_writer (based s c k z) done actions t runs on valid clear = never true refl (sym runs)
  to_writer (off s g out) done actions t runs on valid clear =
      never (may_run u.config s) (may u.config s on (ap (λ c. CBASER_Valid of c) g.base ∙ eqb-true _ _ valid) clear) out
  to_writer (over s g _ more) done actions t runs on valid clear = never true refl (cc)
  to_writer (ran s g _ within) done actions t runs on valid clear =
      let q = run w (waiting s) (with_registers u s) in
      let k = run_keeps w (waiting s) (with_registers u s) (reader_below s g.ring) in
      ap (λ v. v.registers.creadr) (halted-unit q)
      ∙ (ap (λ r. r.creadr) k.registers
      ∙ (ap (ring_offset s) (k.all (taken_of q q.stopped done actions (sym (halted-answer q) ∙ t))) ∙ waiting_all s g.ring))

  pub every_write : sound_unit u ≡ true → Comes w u (stores row u offset width value) (write w row u offset width value)
  every_write sound =
      let y = way w row u offset width value in
      let a = as_run w row u offset width value sound y in
      let k = run_kept w row u offset width value sound a in
      let stalled = (unit_by (write w row u offset width value)).registers.stalled in
      record {
        config = ap (λ v. v.config) a.unit ∙ k.config;
        sound = stays_sound w row u offset width value sound a;
        registers = ap (λ v. v.registers) a.unit ∙ rw a.done (ap (λ r. with_stalled r stalled) k.registers);
        handed = (ran_by w row u offset width value sound a).actions;
        led = (ran_by w row u offset width value sound a).unit;
        carried = carried_out w row u offset width value sound a;
        unit = a.unit;
        disabled = λ e. omega (arith, a.done, k.at_most, a.may_not (off_may u.config (stores row u offset width value).registers e));
        taken = to_writer y;
      }
