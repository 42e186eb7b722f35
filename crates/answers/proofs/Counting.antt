-- The counts are the model's run: between two commands they say what was done and what is left, and at the end they answer what the run answers.
-- Assumes nothing.
use Rattle.std.specs.Prelude.{None}
use Prim.Native.Nat.{ℕ, ◌+◌, ◌-◌, ◌<◌, ◌≤◌}
use native.Mathlib.Omega.{arith}
use mathlib.Core.Path.{◌≡◌, refl, sym, ap, ◌∙◌}
use mathlib.Core.Bool.{true}
use mathlib.Core.List.{List, [], ◌∷◌, ◌++◌, append-nil}
use lib.ListN.{length, length-append}
use Rattle.model.specs.declared.ItsState.{ItsState}
use Rattle.model.specs.declared.ItsAction.{ItsAction}
use Rattle.model.specs.Step.{actions_of}
use Rattle.model.specs.Choose.{if_found}
use Rattle.model.specs.Queue.{Window, Stands, Turn, passes, stays, turn, carry_out, run, stall, halting}
use Rattle.model.specs.Entry.{answer_of}
use Rattle.model.proofs.Cases.{never}
use Rattle.model.proofs.RunLaws.{Going, run_begins, run_passes, run_stays, run_ends, one_handed}
use Rattle.answers.specs.declared.Stopped.{Stopped}
use Rattle.answers.specs.declared.Stopped.TheVariants.{Ended, Over, Halted}
use Rattle.answers.specs.declared.Counts.{Counts}
use Rattle.answers.specs.Counting.{unit_past, handed_by, acts, passing, turned_by, begun, counted_on, stop_of, unit_left, answering_by, answering}

module _ (w : Window) where
  -- between two commands of the run of `count` commands from the unit u₀: u is the unit now, n the counts, and made the actions so far
  pub record Counting (count : ℕ) (u₀ u : ItsState) (n : Counts) (made : List ItsAction) : Type 0 where
    pub run_so_far : Going w count u₀ u n.left n.made.done made (stop_of n.stopped)
    pub counted : length made ≡ n.made.actions
    -- the budget was tested before
    pub not_over : n.stopped ≡ Over → ⊥

  pub begins : (count : ℕ) (u : ItsState) → Stands u → Counting count u u (begun count) []
  begins count u h = record { run_so_far = run_begins w count u h; counted = refl; not_over = λ e. never true refl (cc) }

  module _ {count : ℕ} {u₀ u : ItsState} {n : Counts} {made : List ItsAction} (g : Counting count u₀ u n made) where
    pub stands : Stands u
    stands = g.run_so_far.stands

    pub fits : n.made.done + n.left ≤ count
    fits = g.run_so_far.fits

    pub room : n.made.actions + n.left ≤ count
    room = omega (arith, g.run_so_far.room, g.counted)

    module _ (more : 0 < n.left) where
      -- a command that passes, with the actions l
      passed : (v : ItsState) (l : List ItsAction) → length l ≤ 1 → Going w count u₀ v (n.left - 1) (n.made.done + 1) (made ++ l) None →
          Counting count u₀ v (counted_on n (passing (acts l))) (made ++ l)
      passed v [] h k = record { run_so_far = k; counted = length-append made [] ∙ omega (arith, g.counted); not_over = λ e. never true refl (cc) }
      passed v (a ∷ []) h k = record { run_so_far = k; counted = length-append made (a ∷ []) ∙ omega (arith, g.counted); not_over = λ e. never true refl (cc) }
      passed v (a ∷ b ∷ l) h k = absurd (omega arith)

      -- a turn
      pub turns : (y : Turn) → turn w u ≡ y → Counting count u₀ (unit_past u y) (counted_on n (turned_by u y)) (made ++ handed_by u y)
      turns (passes x) e = passed (carry_out u x) (actions_of u x) (one_handed u x) (run_passes w g.run_so_far more x e)
      turns (stays r opcode) e =
          rw (append-nil made)
          (record { run_so_far = run_stays w g.run_so_far more (record { refusal = r; opcode = opcode }) e; counted = g.counted; not_over = λ e. never true refl (cc) })

      fewer_by : (l : List ItsAction) → (counted_on n (passing (acts l))).left < n.left
      fewer_by [] = omega arith
      fewer_by (a ∷ l) = omega arith

      pub fewer : (y : Turn) → (counted_on n (turned_by u y)).left < n.left
      fewer (passes x) = fewer_by (actions_of u x)
      fewer (stays r opcode) = omega arith

    answers_by : (s : Stopped) → answer_of (record { unit = u; done = n.made.done; actions = made; stopped = stop_of s }) ≡ answering_by s u.registers.creadr n.made.done n.made.actions
    answers_by Ended = ap (λ k. answering_by Ended u.registers.creadr n.made.done k) g.counted
    answers_by Over = ap (λ k. answering_by Over u.registers.creadr n.made.done k) g.counted
    answers_by (Halted h) = ap (λ k. answering_by (Halted h) u.registers.creadr n.made.done k) g.counted

    -- the end
    module _ (z : n.left ≡ 0) where
      ended : run w count u₀ ≡ record { unit = u; done = n.made.done; actions = made; stopped = stop_of n.stopped }
      ended = run_ends w g.run_so_far z

      pub unit_ends : u ≡ (run w count u₀).unit
      unit_ends = sym (ap (λ r. r.unit) ended)

      left_by : (s : Stopped) → (s ≡ Over → ⊥) → unit_left s u ≡ if_found (stop_of s) (λ z. stall u) u
      left_by Ended h = refl
      left_by Over h = absurd (h refl)
      left_by (Halted halt) h = refl

      -- the unit, with Stalled where a command was refused
      pub left_ends : unit_left n.stopped u ≡ (halting (run w count u₀)).unit
      left_ends = left_by n.stopped g.not_over ∙ sym (ap (λ r. (halting r).unit) ended)

      pub actions_end : made ≡ (run w count u₀).actions
      actions_end = sym (ap (λ r. r.actions) ended)

      pub answer_ends : answering n u.registers.creadr ≡ answer_of (run w count u₀)
      answer_ends = sym (ap answer_of ended ∙ answers_by n.stopped)
