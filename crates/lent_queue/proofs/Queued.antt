-- The queue of a unit that is lent as numbers: it may not run, more commands wait than the budget, or they are run.
-- Assumes nothing.
use Rattle.std.specs.Prelude.{Err, None, Option, Some, is_err}
use Prim.Native.Nat.{ℕ, ◌^◌, ◌<◌, ◌≤◌}
use native.Mathlib.Omega.{arith}
use mathlib.Core.Path.{◌≡◌, refl, sym, ap, ◌∙◌}
use mathlib.Core.Bool.{true, false}
use mathlib.Core.List.{List}
use lib.ListN.{length}
use borrow.Author.Tests.{le-leb, lt-leb}
use Rattle.model.specs.declared.Refusal.TheVariants.{BudgetExceeded}
use Rattle.model.specs.declared.WriteRefusal.{WriteRefusal}
use Rattle.model.specs.Answer.{WriteAnswer, write_taken}
use Rattle.model.specs.Config.{sound_unit}
use Rattle.model.specs.Choose.{if_found}
use Rattle.model.specs.Queue.{Stands, Window, waiting, Stop, Ran, run, stall, halting, may_run, run_queue}
use Rattle.model.specs.Entry.{answer_of}
use Rattle.model.proofs.Cases.{never}
use Rattle.model.proofs.Answers.{answerFor, halted-answer, queue-off, queue-over, queue-runs}
use Rattle.answers.specs.declared.Halt.{Halt}
use Rattle.answers.specs.Counting.{refused_at}
use Rattle.lent_tables.specs.Numbers.{COMMAND_BUDGET, CREADR, word, config_in, registers_in, unit_in}
use Rattle.lent_tables.proofs.Parts.{setting_small, budget_is}
use Rattle.lent_queue.specs.Turns.{Leaves}
use Rattle.model.proofs.RunLaws.{sound_stands}

module _ (w : Window) (s row : List ℕ) where
  pub is_off : may_run (config_in s) (registers_in s) ≡ false → Leaves (run_queue w (unit_in s)) row (write_taken 0 0) s row
  is_off n = rw (queue-off w (unit_in s) n) (record { unit = refl; answer = refl; rows = refl })

  module _ (on : may_run (config_in s) (registers_in s) ≡ true) {n : ℕ} (waits : n ≡ waiting (registers_in s)) where
    pub is_over : (config_in s).command_budget < n → {h : Halt} → h ≡ record { refusal = BudgetExceeded; opcode = 0 } → {why : WriteRefusal} →
        why ≡ refused_at h (record { done = 0; actions = 0 }) (word s CREADR) → Leaves (run_queue w (unit_in s)) row (Err why) s row
    unfolding registers_in
    is_over more is e =
        rw (queue-over w (unit_in s) on (lt-leb (waiting (registers_in s)) (config_in s).command_budget (rw (← waits) more)))
        (record { unit = refl; answer = ap (λ r. Err r) (e ∙ ap (λ h. refused_at h (record { done = 0; actions = 0 }) (word s CREADR)) is); rows = refl })

    module _ (h : n ≤ (config_in s).command_budget) {r : WriteAnswer} {left after : List ℕ} (l : Leaves (run w n (unit_in s)) row r left after) where
      abbrev q : Ran
      q = run w n (unit_in s)

      runs_so : run_queue w (unit_in s) ≡ halting q
      unfolding registers_in
      runs_so = rw (queue-runs w (unit_in s) on (le-leb (waiting (registers_in s)) (config_in s).command_budget (rw (← waits) h)), ← waits)

      answer_so : answer_of (halting q) ≡ r
      answer_so = halted-answer q ∙ sym l.answer

      -- a run that no command stopped
      pub is_ended : is_err r ≡ false → Leaves (run_queue w (unit_in s)) row r left after
      is_ended e = rw runs_so (record { unit = l.unit ∙ by_stop q.stopped (ap is_err (sym l.answer) ∙ e); answer = sym answer_so; rows = l.rows })
        where
          by_stop : (o : Option Stop) → is_err (answerFor q o) ≡ false → q.unit ≡ if_found o (λ z. stall q.unit) q.unit
          by_stop None e = refl
          by_stop (Some z) e = never true refl e

      -- one that a command stopped
      pub is_stopped : is_err r ≡ true → {stalled : List ℕ} → unit_in stalled ≡ stall (unit_in left) → Leaves (run_queue w (unit_in s)) row r stalled after
      is_stopped e t = rw runs_so (record { unit = t ∙ (ap stall l.unit ∙ by_stop q.stopped (ap is_err (sym l.answer) ∙ e)); answer = sym answer_so; rows = l.rows })
        where
          by_stop : (o : Option Stop) → is_err (answerFor q o) ≡ true → stall q.unit ≡ if_found o (λ z. stall q.unit) q.unit
          by_stop None e = never true refl (sym e)
          by_stop (Some z) e = refl

-- what a run asks for
pub may_run_lem : (s row : List ℕ) (n : ℕ) → (sound_unit (unit_in s) ≡ true) × ((config_in s).command_budget ≤ length row) → n ≤ (config_in s).command_budget →
    Stands (unit_in s) × (n ≤ length row) × (n < 2 ^ 32)
may_run_lem s row n h b = (sound_stands (unit_in s) h.0, omega (arith, h.1), omega (arith, setting_small s COMMAND_BUDGET, budget_is s))
