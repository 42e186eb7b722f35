-- A write up to its run, and then the run, is the model's write.
-- Assumes nothing.
use Rattle.std.specs.Prelude.{None, is_none}
use Prim.Native.Nat.{ℕ, zero, suc, ◌≤◌}
use native.Mathlib.Omega.{arith}
use mathlib.Core.Path.{◌≡◌, refl, sym, ap, subst, ◌∙◌}
use mathlib.Core.Bool.{Bool, true, false, ◌&&◌}
use mathlib.Core.List.{List, []}
use lib.Dec.{leb, ltb}
use lib.ListN.{length}
use borrow.Author.Tests.{leb-true, leb-false, lt-ltb, le-ltb}
use Rattle.model.specs.declared.ItsConfig.{ItsConfig}
use Rattle.model.specs.declared.ItsState.{ItsState}
use Rattle.model.specs.declared.ItsAction.{ItsAction}
use Rattle.model.specs.declared.RegisterWrite.{RegisterWrite}
use Rattle.model.specs.declared.Written.{Written}
use Rattle.model.specs.Refusal.{write_numbers}
use Rattle.model.specs.With.{with_registers}
use Rattle.model.specs.Config.{sizes_in01, sound_config, sound_unit}
use Rattle.model.specs.Queue.{Window, waiting, run, halting, may_run}
use Rattle.model.specs.Entry.{after_run, running, stores, write}
use Rattle.model.proofs.Cases.{cases, there_or, never, and_left, and_right}
use Rattle.model.proofs.RunLaws.{sound_stands}
use Rattle.model.proofs.Answers.{queue-runs, queue-over, queue-off}
use Rattle.model.proofs.Ways.{runs_ready}
use Rattle.answers.specs.declared.Counts.{Counts}
use Rattle.answers.specs.Counting.{begun, over}
use Rattle.queue.specs.declared.Progress.{Progress}
use Rattle.queue.specs.Ongoing.{Begun, progress_of, start_of, end_of}
use Rattle.model.proofs.Profiles.{sizes_of}
use Rattle.queue.proofs.Ongoing.{counts_off, counts_over, counts_on}
use Rattle.its.specs.Promises.{Writes}
use Rattle.its.specs.Prepared.{prepared}

-- The budget of a sound configuration is 1,024 at most.
budget_most : (k : ItsConfig) → sound_config k ≡ true → k.command_budget ≤ 1024
unfolding sizes_in01
budget_most k s =
    let rest = and_right (leb 8192 k.lpi_limit && leb k.lpi_limit 16777215) _ (sizes_of k s) in
    leb-true _ _ (and_right (leb 1 k.command_budget) _ (and_left (leb 1 k.command_budget && leb k.command_budget 1024) _ rest))

-- A run that begins in a sound unit.
module _ (w : Window) (row : List ItsAction) (u : ItsState) (sound : sound_unit u ≡ true) (budget : u.config.command_budget ≤ length row) where
  abbrev from : Counts → Progress
  from n = progress_of u n [] 0

  -- with n commands
  begun_on : (n : ℕ) → n ≤ u.config.command_budget → Begun (from (begun n)) (length row)
  begun_on n h =
      let most = budget_most u.config (and_left (sound_config u.config) _ sound) in
      record { starts = λ _. refl; few = λ _. omega arith; room_left = λ _. omega arith; stands = λ _. sound_stands u sound }

  end_begun : (n : ℕ) → end_of w (from (begun n)) row ≡ after_run (halting (run w n u)) row
  end_begun zero = refl
  end_begun (suc n) = rw (lt-ltb 0 (suc n) (omega arith)) refl

  -- with none
  begun_none : (n : Counts) → n.left ≡ 0 → Begun (from n) (length row)
  begun_none n z =
      let still : ltb 0 n.left ≡ false = le-ltb 0 n.left (omega arith) in
      record {
        starts = λ h. never (ltb 0 n.left) h still;
        few = λ h. never (ltb 0 n.left) h still;
        room_left = λ h. never (ltb 0 n.left) h still;
        stands = λ h. never (ltb 0 n.left) h still;
      }

  abbrev fits : Bool
  fits = leb (waiting u.registers) u.config.command_budget

  starts_so : Begun (start_of u) (length row)
  unfolding start_of
  starts_so =
      cases (may_run u.config u.registers)
      (λ on. cases fits
      (λ l. subst (λ n. Begun (from n) (length row)) (counts_on u on refl (leb-true _ _ l)) (begun_on (waiting u.registers) (leb-true _ _ l)))
      (λ l. subst (λ n. Begun (from n) (length row)) (counts_over u on refl (leb-false _ _ l)) (begun_none over refl)))
      (λ off. subst (λ n. Begun (from n) (length row)) (counts_off u off) (begun_none (begun 0) refl))

  starts_to : end_of w (start_of u) row ≡ running w u row
  unfolding start_of running
  starts_to =
      cases (may_run u.config u.registers)
      (λ on. cases fits
      (λ l. ap (λ n. end_of w (from n) row) (sym (counts_on u on refl (leb-true _ _ l))) ∙ (end_begun (waiting u.registers) ∙ ap (λ q. after_run q row) (sym (queue-runs w u on l))))
      (λ l. ap (λ n. end_of w (from n) row) (sym (counts_over u on refl (leb-false _ _ l))) ∙ ap (λ q. after_run q row) (sym (queue-over w u on l))))
      (λ off. ap (λ n. end_of w (from n) row) (sym (counts_off u off)) ∙ ap (λ q. after_run q row) (sym (queue-off w u off)))

-- A write.
module _ (w : Window) (row : List ItsAction) (u : ItsState) (offset width value : ℕ) where
  abbrev s : RegisterWrite
  s = stores row u offset width value

  ready : s.answer ≡ None → (sound_unit (with_registers u s.registers) ≡ true) × (u.config.command_budget ≤ length row)
  ready on = runs_ready u (length row) offset width value (ap is_none on)

  pub begins : Begun (prepared u (length row) offset width value) (length row)
  unfolding prepared
  begins =
      there_or s.answer
      (λ a off. rw off (record { starts = λ h. never true refl (sym h); few = λ h. never true refl (sym h); room_left = λ h. never true refl (sym h); stands = λ h. never true refl (sym h) }))
      (λ on. rw on (starts_so w row (with_registers u s.registers) (ready on).0 (ready on).1))

  pub ends : end_of w (prepared u (length row) offset width value) row ≡ write w row u offset width value
  unfolding prepared write
  ends =
      there_or s.answer
      (λ a off. rw off refl)
      (λ on. rw on (starts_to w row (with_registers u s.registers) (ready on).0 (ready on).1))

  -- what comes back is what the contract says
  pub writes : {t : Progress} → t ≡ prepared u (length row) offset width value → {r : Written} {left : List ItsAction} →
      (r ≡ (end_of w t row).written) × (left ≡ (end_of w t row).row) → Writes w row u offset width value r left
  writes e h =
      let a = h.0 ∙ (ap (λ t. (end_of w t row).written) e ∙ ap (λ o. o.written) ends) in
      record { answer = a; row_is = h.1 ∙ (ap (λ t. (end_of w t row).row) e ∙ ap (λ o. o.row) ends); numbers = ap (λ r. write_numbers r.answer) a }
