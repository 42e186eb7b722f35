-- The turns of a write add up to the model's run: what each part of a turn comes to, and what is known between two turns.
-- Assumes nothing.
use Rattle.std.specs.Prelude.{Err, None, Ok, Option, Some, is_some}
use Prim.Native.Nat.{ℕ, ◌<◌, ◌≤◌}
use native.Mathlib.Omega.{arith}
use mathlib.Core.Path.{◌≡◌, refl, sym, ap, ap₂, subst, ◌∙◌}
use mathlib.Core.Bool.{Bool, true, false}
use mathlib.Core.List.{List, [], ◌∷◌, ◌++◌}
use lib.Dec.{leb}
use lib.ListN.{length, set, drop}
use borrow.Author.Tests.{ltb-true, ltb-false, le-leb, lt-leb}
use Rattle.model.specs.declared.Applied.{Applied}
use Rattle.model.specs.declared.ItsRegisters.{ItsRegisters}
use Rattle.model.specs.declared.ItsState.{ItsState}
use Rattle.model.specs.declared.ItsAction.{ItsAction}
use Rattle.model.specs.declared.Command.{Command}
use Rattle.model.specs.declared.Refusal.{Refusal}
use Rattle.model.specs.Choose.{if_found, list_of}
use Rattle.model.specs.With.{with_registers}
use Rattle.model.specs.Step.{check, executed, execution}
use Rattle.model.specs.Queue.{Window, Turn, stays, turn, waiting, command_at, command_address, judged, past_command, run, halting, may_run}
use Rattle.model.specs.Entry.{row_after, after_run}
use Rattle.model.proofs.Cases.{cases, never}
use Rattle.model.proofs.Answers.{both_hold, second-fails, first-fails, halted-answer}
use Rattle.model.proofs.RunLaws.{told_refused}
use Rattle.model.proofs.RowLaws.{row_of, row_long, row_past, row_on, row_same}
use Rattle.answers.specs.declared.Counts.{Counts}
use Rattle.answers.specs.Counting.{Turned, handed_by, passing, begun, over, counted_on}
use Rattle.answers.proofs.Turning.{Turning, one_by, is_done, is_acted}
use Rattle.answers.proofs.Counting.{Counting, begins, stands, fits, room, turns, fewer, left_ends, actions_end, answer_ends}
use Rattle.decoding.specs.Reading.{turn_read}
use Rattle.decoding.proofs.Turning.{turn_reads}
use Rattle.queue.specs.declared.Progress.{Progress}
use Rattle.queue.specs.Ongoing.{Ready, Begun, goes_on, first_of, progress_with, progress_of, first_counts, turned_on, turn_of, finish_of, end_of}

-- The counts before the first turn.
module _ (u : ItsState) where
  pub counts_off : may_run u.config u.registers ≡ false → begun 0 ≡ first_counts u
  unfolding first_counts
  counts_off h = sym (first-fails (may_run u.config u.registers) (leb (waiting u.registers) u.config.command_budget) over (begun (waiting u.registers)) (begun 0) h)

  module _ (on : may_run u.config u.registers ≡ true) {n : ℕ} (count : n ≡ waiting u.registers) where
    pub counts_over : u.config.command_budget < n → over ≡ first_counts u
    unfolding first_counts
    counts_over h = sym (second-fails (may_run u.config u.registers) _ _ _ _ on (lt-leb (waiting u.registers) u.config.command_budget (omega arith)))

    pub counts_on : n ≤ u.config.command_budget → begun n ≡ first_counts u
    unfolding first_counts
    counts_on h = ap begun count ∙ sym (both_hold (may_run u.config u.registers) _ _ _ _ on (le-leb (waiting u.registers) u.config.command_budget (omega arith)))

-- A turn, from the code's account of it.
pub moves_on : (t : Progress) {y : Turn} {v : ItsState} {turned : Turned} {handed : List ItsAction} → Turning t.unit y v turned handed →
    {n : Counts} → n ≡ counted_on t.counts turned → {r : Progress} → r ≡ progress_of v n handed t.counts.made.actions → r ≡ turned_on t y
unfolding turned_on
moves_on t k c e = e ∙ rw (k.unit, c, k.told, k.actions) refl

-- A command that was read and is known, carried out.
module _ (t : Progress) (x : Command) (opcode : ℕ) {a : Applied} (done : a ≡ execution t.unit x) where
  pub halts_on : {why : Refusal} → a.executed ≡ Err why → {r : Progress} → r ≡ turned_on t (stays why opcode) → r ≡ turned_on t (judged (check t.unit x) x opcode)
  halts_on came e = e ∙ ap (turned_on t) (sym (told_refused t.unit x opcode (sym (ap (λ b. b.executed) done) ∙ came)).0)

  turning_in : (o : Option ItsAction) → Ok o ≡ executed t.unit x → {v : ItsState} → v ≡ with_registers a.unit (past_command a.unit.registers) →
      Turning t.unit (judged (check t.unit x) x opcode) v (passing (is_some o)) (list_of o)
  turning_in None came p = is_done t.unit x opcode (ap (λ b. b.unit) done) p came refl
  turning_in (Some a) came p = is_acted t.unit x opcode (ap (λ b. b.unit) done) p came refl

  first_is : (o : Option ItsAction) → first_of (list_of o) ≡ o
  first_is None = refl
  first_is (Some a) = refl

  pub passes_on : {o : Option ItsAction} → a.executed ≡ Ok o → {g : ItsRegisters} → g ≡ past_command a.unit.registers → {acted : Bool} → acted ≡ is_some o →
      {n : Counts} → n ≡ counted_on t.counts (passing acted) → {r : Progress} → r ≡ progress_with (with_registers a.unit g) n o t.counts.made.actions →
      r ≡ turned_on t (judged (check t.unit x) x opcode)
  passes_on {o = o} came {g = g} p k {n = n} c e =
      moves_on t (turning_in o (sym came ∙ ap (λ b. b.executed) done) (ap (with_registers a.unit) p)) (c ∙ ap (λ b. counted_on t.counts (passing b)) k)
      (e ∙ ap (λ y. progress_with (with_registers a.unit g) n y t.counts.made.actions) (sym (first_is o)))

-- Between two turns of a write that began as t₀ with the row row₀: t is the write now, and row the row.

-- any record, which a lemma on rows asks for
any_action : ItsAction
any_action = record { target = record { 0 = 0 }; lpi = record { 0 = 0 }; pending = false }

-- the row after the turn that led to t
abbrev pub laid : Progress → List ItsAction → List ItsAction
laid t row = if_found t.action (λ a. set row t.at a) row

module _ (w : Window) (t₀ : Progress) (row₀ : List ItsAction) where
  pub record Counted (t : Progress) (row : List ItsAction) : Type 0 where
    pub runs : goes_on t₀ ≡ true
    pub begun_so : Begun t₀ (length row₀)
    pub made : List ItsAction
    pub counting : Counting w t₀.counts.left t₀.unit t.unit t.counts made
    pub handed : List ItsAction
    pub at_place : ℕ
    pub is : t ≡ progress_of t.unit t.counts handed at_place
    pub rows : row ≡ row_of (λ a. a) made row₀

  pub data Running : Progress → List ItsAction → Type 0 where
    -- nothing runs
    quiet : {t : Progress} {row : List ItsAction} → goes_on t₀ ≡ false → t ≡ t₀ → row ≡ row₀ → Running t row
    -- the queue runs
    counted : {t : Progress} {row : List ItsAction} → Counted t row → Running t row

  pub running_begins : Begun t₀ (length row₀) → Running t₀ row₀
  running_begins b =
      cases (goes_on t₀)
      (λ h. let is = b.starts h in
      counted (record {
        runs = h;
        begun_so = b;
        made = [];
        counting = subst (λ n. Counting w t₀.counts.left t₀.unit t₀.unit n []) (sym (ap (λ t. t.counts) is)) (begins w t₀.counts.left t₀.unit (b.stands h));
        handed = [];
        at_place = 0;
        is = is ∙ ap (λ n. progress_of t₀.unit n [] 0) (sym (ap (λ t. t.counts) is));
        rows = refl;
      }))
      (λ h. quiet h refl refl)

  module _ {t : Progress} {row : List ItsAction} (more : goes_on t ≡ true) where
    as_counted : Running t row → Counted t row
    as_counted (quiet h e l) = never (goes_on t) more (ap goes_on e ∙ h)
    as_counted (counted g) = g

    module _ (g : Counted t row) where
      left_over : 0 < t.counts.left
      left_over = ltb-true 0 t.counts.left more

      few : t₀.counts.left ≤ 1024
      few = g.begun_so.few g.runs

      long : length row ≡ length row₀
      long = ap length g.rows ∙ row_long (λ a. a) g.made row₀ (omega (arith, g.counting.counted, room w g.counting, g.begun_so.room_left g.runs))

      ready_so : Ready t
      ready_so =
          record {
            some_left = left_over;
            counted = omega (arith, fits w g.counting, few);
            handed = omega (arith, room w g.counting, few);
            stands = stands w g.counting;
          }

      -- a turn y
      module _ (y : Turn) (is-turn : turn w t.unit ≡ y) where
        has_room : t.counts.made.actions < length row
        has_room = omega (arith, long, left_over, room w g.counting, g.begun_so.room_left g.runs)

        laid_is : (l : List ItsAction) → if_found (first_of l) (λ a. set row t.counts.made.actions a) row ≡ row_past (λ a. a) l t.counts.made.actions row
        laid_is [] = refl
        laid_is (a ∷ l) = refl

        row_so : (l : List ItsAction) → length l ≤ 1 → if_found (first_of l) (λ a. set row t.counts.made.actions a) row ≡ row_of (λ a. a) (g.made ++ l) row₀
        row_so l h =
            laid_is l
            ∙ (ap (row_past (λ a. a) l t.counts.made.actions) g.rows
            ∙ row_on (λ a. a) any_action g.made row₀ t.counts.made.actions l h g.counting.counted (omega (arith, long, has_room)))

        next : Counted (turned_on t y) (laid (turned_on t y) row)
        unfolding turned_on
        next =
            record {
              runs = g.runs;
              begun_so = g.begun_so;
              made = g.made ++ handed_by t.unit y;
              counting = turns w g.counting left_over y is-turn;
              handed = handed_by t.unit y;
              at_place = t.counts.made.actions;
              is = refl;
              rows = row_so (handed_by t.unit y) (one_by t.unit y);
            }

        less : (turned_on t y).counts.left < t.counts.left
        unfolding turned_on
        less = fewer w g.counting left_over y

        placed : (turned_on t y).at < length row
        unfolding turned_on
        placed = has_room

    -- what the loop's step is told
    module _ (so_far : Running t row) where
      module _ {c : Option (List ℕ)} (read : c ≡ command_at w t.wanted) where
        wanted_is : c ≡ command_at w (command_address t.unit.registers t.unit.registers.creadr)
        wanted_is = read ∙ ap (λ s. command_at w s.wanted) (as_counted so_far).is

        the_turn : turn w t.unit ≡ turn_read t.unit c
        the_turn = turn_reads w t.unit wanted_is

        module _ {r : Progress} (turned : r ≡ turn_of t c) where
          on : Running r (laid r row)
          on = rw turned (counted (next (as_counted so_far) (turn_read t.unit c) the_turn))

          pub running_stored : {a : ItsAction} → r.action ≡ Some a → Running r (set row r.at a)
          running_stored h = subst (λ o. Running r (if_found o (λ a. set row r.at a) row)) h on

          pub running_kept : r.action ≡ None → Running r row
          running_kept h = subst (λ o. Running r (if_found o (λ a. set row r.at a) row)) h on

          pub running_less : r.counts.left < t.counts.left
          running_less = rw turned (less (as_counted so_far) (turn_read t.unit c) the_turn)

          pub running_placed : r.at < length row
          running_placed = rw turned (placed (as_counted so_far) (turn_read t.unit c) the_turn)

  -- the end
  module _ {t : Progress} {row : List ItsAction} (over : goes_on t ≡ false) where
    end_counted : Counted t row → (finish_of t ≡ (end_of w t₀ row₀).written) × (row ≡ (end_of w t₀ row₀).row)
    end_counted g =
        let none_left : t.counts.left ≡ 0 = omega (arith, ltb-false 0 t.counts.left over) in
        let q = run w t₀.counts.left t₀.unit in
        let unit : (finish_of t).unit ≡ (halting q).unit = left_ends w g.counting none_left in
        let answer : t.answer ≡ (after_run (halting q) row₀).written.answer =
        ap (λ s. s.answer) g.is ∙ (answer_ends w g.counting none_left ∙ sym (halted-answer q)) in
        let rows : row ≡ (after_run (halting q) row₀).row =
        g.rows ∙ ap (λ l. l ++ drop (length g.made) row₀) (row_same g.made) ∙ ap (λ m. row_after m row₀) (actions_end w g.counting none_left) in
        rw g.runs (ap₂ (λ u a. record { unit = u; answer = a }) unit answer, rows)

    pub running_ends : Running t row → (finish_of t ≡ (end_of w t₀ row₀).written) × (row ≡ (end_of w t₀ row₀).row)
    running_ends (quiet h e l) = rw h (ap finish_of e, l)
    running_ends (counted g) = end_counted g
