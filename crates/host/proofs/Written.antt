-- A write, from what it does to the registers: where that lets the queue run, the run, and else nothing more. s₀ are the numbers before it, s those after
-- the registers were stored.
-- Assumes nothing.
use Rattle.std.specs.Prelude.{None, Some, is_none}
use Prim.Native.Nat.{ℕ, ◌≤◌}
use native.Mathlib.Omega.{arith}
use mathlib.Core.Path.{◌≡◌, refl, sym, ap, ◌∙◌}
use mathlib.Core.Bool.{true, false}
use mathlib.Core.List.{List, [], map}
use lib.ListN.{length}
use Rattle.model.specs.declared.ItsAction.{ItsAction}
use Rattle.model.specs.declared.RegisterWrite.{RegisterWrite}
use Rattle.model.specs.declared.Refusal.TheVariants.{Unsound}
use Rattle.registers.specs.declared.Frame.{Frame}
use Rattle.model.specs.Answer.{WriteAnswer, write_refused}
use Rattle.model.specs.With.{with_registers}
use Rattle.model.specs.Config.{sizes_in01, sound_config, sound_unit}
use Rattle.model.specs.Queue.{Window, run_queue}
use Rattle.model.specs.Access.{check_write}
use Rattle.model.specs.Writing.{register_write, then_runs}
use Rattle.model.specs.Entry.{after_run, running, concluded, stores, write}
use Rattle.model.proofs.Cases.{never}
use Rattle.model.proofs.RowLaws.{map_length}
use Rattle.lent_tables.specs.Numbers.{laid_out, config_in, registers_in, unit_in}
use Rattle.lent_queue.specs.Actions.{action_in, row_with}
use Rattle.lent_queue.specs.Turns.{Leaves}
use Rattle.host.specs.Calls.{actions_by, actions_made}
use Rattle.host.specs.Parts.{Wrote}
use Rattle.model.proofs.Ways.{runs_ready}

module _ (w : Window) (row s₀ : List ℕ) (offset width value : ℕ) (a : RegisterWrite) (f : Frame) (framed : f ≡ record { config = config_in s₀; registers = registers_in s₀ })
    (does : a ≡ register_write f.config f.registers (length row) offset width value) (s : List ℕ) (put : unit_in s ≡ with_registers (unit_in s₀) a.registers)
    (there : laid_out s₀ ≡ true) where
  abbrev actions : List ItsAction
  actions = map action_in row

  -- it is what the model's write stores
  as_stored : stores actions (unit_in s₀) offset width value ≡ a
  as_stored =
      sym (does ∙ ap (λ g. register_write g.config g.registers (length row) offset width value) framed
      ∙ ap (λ n. register_write (config_in s₀) (registers_in s₀) n offset width value) (sym (map_length action_in row)))

  is_written : write w actions (unit_in s₀) offset width value ≡ concluded w actions (unit_in s₀) a
  unfolding write
  is_written = ap (concluded w actions (unit_in s₀)) as_stored

  is_made : actions_made w actions (unit_in s₀) offset width value ≡ actions_by w (unit_in s₀) a
  is_made = ap (actions_by w (unit_in s₀)) as_stored

  pub ready : a.answer ≡ None → (sound_unit (unit_in s) ≡ true) × ((config_in s).command_budget ≤ length row)
  ready on =
      let is : a ≡ register_write (config_in s₀) (registers_in s₀) (length row) offset width value = does ∙ ap (λ g. register_write g.config g.registers (length row) offset width value) framed in
      let h = runs_ready (unit_in s₀) (length row) offset width value (ap then_runs (sym is) ∙ ap is_none on) in
      let same = ap (λ u. u.config.command_budget) put in
      (ap sound_unit (put ∙ ap (λ q. with_registers (unit_in s₀) q.registers) is) ∙ h.0, omega (arith, same, h.1))

  pub wrote_ran : {answer : WriteAnswer} {left after : List ℕ} → a.answer ≡ None → Leaves (run_queue w (unit_in s)) row answer left after →
      Wrote w row s₀ offset width value answer left after
  unfolding running
  wrote_ran on l =
      let e : write w actions (unit_in s₀) offset width value ≡ after_run (run_queue w (unit_in s)) actions = is_written ∙ rw (on, put) refl in
      let m : actions_made w actions (unit_in s₀) offset width value ≡ (run_queue w (unit_in s)).actions = is_made ∙ rw (on, put) refl in
      record {
        alone = λ n. never (laid_out s₀) there n;
        unit = l.unit ∙ sym (ap (λ o. o.written.unit) e);
        answer = l.answer ∙ sym (ap (λ o. o.written.answer) e);
        row = l.rows ∙ ap (λ d. row_with d row) (sym m);
      }

  pub wrote_left : {answer : WriteAnswer} → a.answer ≡ Some answer → Wrote w row s₀ offset width value answer s row
  wrote_left {answer} off =
      let e : write w actions (unit_in s₀) offset width value ≡ record { written = record { unit = unit_in s; answer = answer }; row = actions } = is_written ∙ rw (off, put) refl in
      let m : actions_made w actions (unit_in s₀) offset width value ≡ [] = is_made ∙ rw off refl in
      record {
        alone = λ n. never (laid_out s₀) there n;
        unit = sym (ap (λ o. o.written.unit) e);
        answer = sym (ap (λ o. o.written.answer) e);
        row = ap (λ d. row_with d row) (sym m);
      }

-- Numbers of another layout are a unit without a configuration: the write is refused with 1, and they stay.
pub wrote_none : (w : Window) (row s : List ℕ) (offset width value : ℕ) → laid_out s ≡ false → Wrote w row s offset width value (write_refused Unsound 0 0 0 0) s row
unfolding write register_write check_write config_in sizes_in01 sound_config
wrote_none w row s offset width value n =
    record {
      unit = rw n refl;
      answer = rw n refl;
      alone = λ _. refl;
      row = rw n refl;
    }
