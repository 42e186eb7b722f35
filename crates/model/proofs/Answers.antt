-- What the answer of a write says of the run of its queue, what a command that stopped it leaves, and what becomes of the queue: it is run whole, or nothing
-- is run.
-- Assumes nothing.
use Rattle.std.specs.Prelude.{if◌then◌else◌, Option, None, Some, Err}
use Prim.Native.Nat.{ℕ}
use mathlib.Core.Path.{◌≡◌, refl, sym, ap, ap₂}
use mathlib.Core.Bool.{Bool, true, false}
use mathlib.Core.List.{List, ◌∷◌, map}
use lib.ListN.{length, drop}
use lib.Seq.{take_at}
use lib.Dec.{leb}
use Rattle.model.specs.declared.ItsState.{ItsState}
use Rattle.model.specs.declared.ItsAction.{ItsAction}
use Rattle.model.specs.declared.Refusal.{Refusal}
use Rattle.model.specs.declared.Refusal.TheVariants.{BudgetExceeded}
use Rattle.model.specs.declared.WriteRefusal.{WriteRefusal}
use Rattle.model.specs.Answer.{WriteAnswer, write_refused, write_taken}
use Rattle.model.specs.Choose.{◌or◌then◌, if_found}
use Rattle.model.specs.Refusal.{write_numbers}
use Rattle.model.specs.Queue.{Window, waiting, Stop, Ran, ended, run, stall, halting, may_run, run_queue}
use Rattle.model.specs.With.{unit_stalled}
use Rattle.model.specs.Entry.{answer_of, after_run}
use Rattle.model.specs.Trace.{action_line, write_line, write_lines}
use Rattle.model.proofs.Cases.{never}

-- What an answer says of its run.

-- the answer to the run q, had it stopped so
abbrev pub answerFor : Ran → Option Stop → WriteAnswer
answerFor q o = answer_of (record { unit = q.unit; done = q.done; actions = q.actions; stopped = o })

pub done-of : (q : Ran) (o : Option Stop) → (write_numbers (answerFor q o)).done ≡ q.done
done-of q None = refl
done-of q (Some s) = refl

-- stopped or not, the actions that it made are handed over
pub actions-of : (q : Ran) (o : Option Stop) → (write_numbers (answerFor q o)).actions ≡ length q.actions
actions-of q None = refl
actions-of q (Some s) = refl

-- and each of them has its line, and no other record of the row has one
pub lines_of : (q : Ran) (row : List ItsAction) → write_lines (after_run q row) ≡ write_line (write_numbers (answer_of q)) ∷ map action_line q.actions
lines_of q row =
    ap (λ l. write_line (write_numbers (answer_of q)) ∷ map action_line l)
    (take_at q.actions (drop (length q.actions) row) (write_numbers (answer_of q)).actions (sym (actions-of q q.stopped)))

-- an answer that refuses says one refusal
refused_alike : {v w : WriteRefusal} → ◌≡◌ {A = WriteAnswer} (Err v) (Err w) → v ≡ w
refused_alike h = cc

pub stop-of : (q : Ran) (o : Option Stop) (r : Refusal) (opcode offset done actions : ℕ) → answerFor q o ≡ write_refused r opcode offset done actions →
    (o ≡ Some (record { refusal = r; opcode = opcode })) × (offset ≡ q.unit.registers.creadr)
stop-of q None r opcode offset done actions h = never true refl (cc)
stop-of q (Some s) r opcode offset done actions h =
    let same = refused_alike h in
    (ap (λ w. Some (record { refusal = w.refusal; opcode = w.opcode })) same, sym (ap (λ w. w.offset) same))

pub taken_of : (q : Ran) (o : Option Stop) (done actions : ℕ) → answerFor q o ≡ write_taken done actions → o ≡ None
taken_of q None done actions h = refl
taken_of q (Some s) done actions h = never true refl (cc)

-- What a command that stopped a run leaves: Stalled, and nothing else changes.
module _ (q : Ran) where
  unit-for : (o : Option Stop) →
      if_found o (λ s. stall q.unit) q.unit ≡ unit_stalled q.unit (if_found o (λ s. stall q.unit) q.unit).registers.stalled
  unfolding stall
  unit-for None = refl
  unit-for (Some s) = refl

  pub halted-unit : (halting q).unit ≡ unit_stalled q.unit (halting q).unit.registers.stalled
  halted-unit = unit-for q.stopped

  halted-for : (o : Option Stop) →
      answer_of (record { unit = if_found o (λ s. stall q.unit) q.unit; done = q.done; actions = q.actions; stopped = o }) ≡ answerFor q o
  unfolding stall
  halted-for None = refl
  halted-for (Some s) = refl

  pub halted-answer : answer_of (halting q) ≡ answer_of q
  halted-answer = halted-for q.stopped

-- What becomes of the queue: it runs whole, or nothing runs.

module _ {A : Type 0} (a b : Bool) (x y z : A) where
  pub both_hold : a ≡ true → b ≡ true → (if a then (b or x then y) else z) ≡ y
  both_hold h k = rw (h, k)

  pub second-fails : a ≡ true → b ≡ false → (if a then (b or x then y) else z) ≡ x
  second-fails h k = rw (h, k)

  pub first-fails : a ≡ false → (if a then (b or x then y) else z) ≡ z
  first-fails h = rw h

module _ (w : Window) (v : ItsState) where
  abbrev pub fits : Bool
  fits = leb (waiting v.registers) v.config.command_budget

  pub queue-runs : may_run v.config v.registers ≡ true → fits ≡ true → run_queue w v ≡ halting (run w (waiting v.registers) v)
  unfolding run_queue
  queue-runs = both_hold (may_run v.config v.registers) fits _ _ _

  pub queue-over : may_run v.config v.registers ≡ true → fits ≡ false → run_queue w v ≡ ended v (Some (record { refusal = BudgetExceeded; opcode = 0 }))
  unfolding run_queue
  queue-over = second-fails (may_run v.config v.registers) fits _ _ _

  pub queue-off : may_run v.config v.registers ≡ false → run_queue w v ≡ ended v None
  unfolding run_queue
  queue-off = first-fails (may_run v.config v.registers) fits _ _ _
