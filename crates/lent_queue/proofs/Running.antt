-- The run over the numbers that are lent: the unit that they are, the counts and the row go on with each turn as the model's run does.
-- Assumes nothing.
use Rattle.std.specs.Prelude.{Err, None, Ok, Some, is_ok}
use Rattle.std.specs.Int.{from_bool}
use Prim.Native.Nat.{ℕ, ◌+◌, ◌-◌, ◌≤◌, ◌<◌, ◌^◌}
use native.Mathlib.Omega.{arith}
use mathlib.Core.Path.{◌≡◌, refl, sym, ap, subst, ◌∙◌}
use mathlib.Core.Bool.{Bool, true, false}
use mathlib.Core.List.{List, [], ◌∷◌, ◌++◌}
use lib.ListN.{length, set}
use Rattle.model.specs.declared.ItsAction.{ItsAction}
use Rattle.model.specs.declared.Command.{Command}
use Rattle.model.specs.declared.Refusal.{Refusal}
use Rattle.model.specs.Answer.{Executed, WriteAnswer}
use Rattle.model.specs.With.{with_registers}
use Rattle.model.specs.Step.{check}
use Rattle.model.specs.Queue.{Stands, Window, Turn, judged, past_command, turn, run}
use Rattle.model.proofs.Cases.{never}
use Rattle.model.proofs.RowLaws.{row_long, row_past as anyPast, row_on}
use Rattle.model.specs.declared.WriteDone.{WriteDone}
use Rattle.answers.specs.declared.Halt.{Halt}
use Rattle.answers.specs.declared.Counts.{Counts}
use Rattle.answers.specs.declared.Stopped.TheVariants.{Ended}
use Rattle.answers.specs.Counting.{Turned, staying, handed_by, begun, one_more, counted_on, refused_at, answering}
use Rattle.answers.proofs.Counting.{Counting, begins, stands, fits, room, turns, unit_ends, actions_end, answer_ends}
use Rattle.lent_tables.specs.Numbers.{CREADR, word, registers_in, unit_in, Carries}
use Rattle.lent_queue.specs.Actions.{action_word, row_with}
use Rattle.answers.proofs.Turning.{Turning, one_by, is_refused, is_done, is_acted}
use Rattle.lent_queue.specs.Turns.{row_past, Turns, Leaves}

-- a turn of the unit that the numbers are
pub turns_on : {y : Turn} {s row : List ℕ} {at : ℕ} {r : Turned} {left after : List ℕ} {handed : List ItsAction} →
    Turning (unit_in s) y (unit_in left) r handed → after ≡ row_past handed at row → Turns y s row at r left after
turns_on {row = row} {at = at} k e = record { unit = k.unit; told = k.told; rows = e ∙ ap (λ l. row_past l at row) k.actions }

-- a command that was read and is known, carried out
module _ {s row : List ℕ} (left : List ℕ) (x : Command) (opcode : ℕ) {at : ℕ} {e : Executed} (k : Carries s x e left) where
  pub carried_refused : {why : Refusal} → e ≡ Err why → {r : Turned} → r ≡ staying why opcode → Turns (judged (check (unit_in s) x) x opcode) s row at r left row
  carried_refused came told = turns_on (is_refused (unit_in s) x opcode k.1 (sym came ∙ k.0) told) refl

  module _ {past : List ℕ} (p : unit_in past ≡ with_registers (unit_in left) (past_command (registers_in left))) where
    pub carried_done : e ≡ Ok None → Turns (judged (check (unit_in s) x) x opcode) s row at (Ok false) past row
    unfolding registers_in
    carried_done came = turns_on (is_done (unit_in s) x opcode k.1 p (sym came ∙ k.0) refl) refl

    pub carried_acted : {a : ItsAction} → e ≡ Ok (Some a) → {w : ℕ} → w ≡ action_word a → Turns (judged (check (unit_in s) x) x opcode) s row at (Ok true) past (set row at w)
    unfolding registers_in
    carried_acted came word = turns_on (is_acted (unit_in s) x opcode k.1 p (sym came ∙ k.0) refl) (ap (set row at) word)

-- the row of a turn is a row of any form
past_is : (l : List ItsAction) (at : ℕ) (row : List ℕ) → row_past l at row ≡ anyPast action_word l at row
past_is [] at row = refl
past_is (a ∷ l) at row = refl

-- so many commands are left, and none was refused
abbrev pub on_with : ℕ → WriteDone → Counts
on_with left made = record { left = left; made = made; stopped = Ended }

module _ (w : Window) where
  -- between two commands of the run of `count` commands: s₀ and row₀ are the numbers and the row before it, s and row those of now
  pub record Running (count : ℕ) (s₀ row₀ s row : List ℕ) (n : Counts) : Type 0 where
    pub made : List ItsAction
    pub counting : Counting w count (unit_in s₀) (unit_in s) n made
    pub rows : row ≡ row_with made row₀
    pub few : count ≤ length row₀
    pub small : count < 2 ^ 32

  pub run_starts : (count : ℕ) (s row : List ℕ) → Stands (unit_in s) → count ≤ length row → count < 2 ^ 32 →
      Running count s row s row (on_with (count - 0) (record { done = 0; actions = 0 }))
  run_starts count s row h l b =
      let e : count ≡ count - 0 = omega arith in
      record { made = []; counting = subst (λ n. Counting w count (unit_in s) (unit_in s) (begun n) []) e (begins w count (unit_in s) h); rows = refl; few = l; small = b }

  module _ {count : ℕ} {s₀ row₀ s row : List ℕ} {n : Counts} (g : Running count s₀ row₀ s row n) where
    pub long : length row ≡ length row₀
    long =
        let e = g.counting.counted in
        ap length g.rows ∙ row_long action_word g.made row₀ (omega (arith, room w g.counting, g.few))

    module _ (more : 0 < n.left) {t : Turned} {s' row' : List ℕ} (k : Turns (turn w (unit_in s)) s row n.made.actions t s' row') {n' : Counts} (c : n' ≡ counted_on n t) where
      pub run_on : Running count s₀ row₀ s' row' n'
      run_on =
          let y = turn w (unit_in s) in
          record {
            made = g.made ++ handed_by (unit_in s) y;
            counting = rw (c ∙ ap (counted_on n) k.told, k.unit) (turns w g.counting more y refl);
            rows =
                k.rows
                ∙ (ap (row_past (handed_by (unit_in s) y) n.made.actions) g.rows
                ∙ (past_is (handed_by (unit_in s) y) n.made.actions (row_with g.made row₀)
                ∙ row_on action_word 0 g.made row₀ n.made.actions (handed_by (unit_in s) y) (one_by (unit_in s) y) g.counting.counted (omega (arith, room w g.counting, g.few))));
            few = g.few;
            small = g.small;
          }

    pub run_over : n.left ≡ 0 → {r : WriteAnswer} → r ≡ answering n (unit_in s).registers.creadr → Leaves (run w count (unit_in s₀)) row₀ r s row
    run_over z a =
        record {
          unit = unit_ends w g.counting z;
          answer = a ∙ answer_ends w g.counting z;
          rows = g.rows ∙ ap (λ l. row_with l row₀) (actions_end w g.counting z);
        }

  module _ {count : ℕ} {s₀ row₀ s row : List ℕ} {i : ℕ} {m : WriteDone} (g : Running count s₀ row₀ s row (on_with (count - i) m)) (more : i < count) where
    some_left : 0 < count - i
    some_left = omega arith

    pub run_asks : Stands (unit_in s) × (m.actions < length row)
    run_asks = (stands w g.counting, omega (arith, long g, room w g.counting, g.few))

    pub run_small : (m.done + 1 < 2 ^ 32) × (m.actions + 1 < 2 ^ 32)
    run_small = (omega (arith, fits w g.counting, g.small), omega (arith, room w g.counting, g.small))

    one_is : (acted : Bool) {n : ℕ} → n ≡ from_bool acted → record { done = m.done + 1; actions = m.actions + n } ≡ one_more m acted
    one_is true e = rw e refl
    one_is false e = let z : m.actions + 0 ≡ m.actions = omega arith in rw (e, z) refl

    module _ {t : Turned} {s' row' : List ℕ} (k : Turns (turn w (unit_in s)) s row m.actions t s' row') where
      pub run_passes : {acted : Bool} → t ≡ Ok acted → {n : ℕ} → n ≡ from_bool acted →
          Running count s₀ row₀ s' row' (on_with (count - (i + 1)) (record { done = m.done + 1; actions = m.actions + n }))
      run_passes {acted} came e =
          let l : count - i - 1 ≡ count - (i + 1) = omega arith in
          rw (one_is acted e) (subst (λ j. Running count s₀ row₀ s' row' (on_with j (one_more m acted))) l (run_on g some_left k (sym (ap (counted_on (on_with (count - i) m)) came))))

      pub run_refused : is_ok t ≡ false → {r : WriteAnswer} → ((h : Halt) → t ≡ Err h → r ≡ Err (refused_at h m (word s' CREADR))) →
          Leaves (run w count (unit_in s₀)) row₀ r s' row'
      unfolding registers_in
      run_refused n {r} told = by_turn t refl n
        where
          by_turn : (y : Turned) → t ≡ y → is_ok y ≡ false → Leaves (run w count (unit_in s₀)) row₀ r s' row'
          by_turn (Ok acted) e n = never true refl n
          by_turn (Err h) e n = run_over (run_on g some_left k (sym (ap (counted_on (on_with (count - i) m)) e))) refl (told h e)

  module _ {count : ℕ} {s₀ row₀ s row : List ℕ} {i : ℕ} {m : WriteDone} (g : Running count s₀ row₀ s row (on_with (count - i) m)) where
    pub run_done : count ≤ i → Leaves (run w count (unit_in s₀)) row₀ (Ok m) s row
    run_done h = run_over g (omega arith) refl
