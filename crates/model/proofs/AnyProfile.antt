-- 01'S UNIT (specs/In01.antt) KNOWS NO PROFILE AND NO STALLED: whatever stands there, it answers the same and leaves the same.
-- Assumes nothing.
use Rattle.std.specs.Prelude.{if◌then◌else◌, Err, None, Ok, Option, Some}
use Prim.Native.Nat.{ℕ, zero, suc}
use mathlib.Core.Path.{◌≡◌, refl, ap, ap₂, ◌∙◌}
use mathlib.Core.Bool.{Bool, true, false, not}
use mathlib.Core.List.{List}
use lib.ListN.{length}
use lib.Dec.{leb, eqb}
use Rattle.model.specs.declared.ItsDeviceId.{ItsDeviceId}
use Rattle.model.specs.declared.EventId.{EventId}
use Rattle.model.specs.declared.CollectionId.{CollectionId}
use Rattle.model.specs.declared.Translation.{Translation}
use Rattle.model.specs.declared.ItsConfig.{ItsConfig}
use Rattle.model.specs.declared.ItsRegisters.{ItsRegisters}
use Rattle.model.specs.declared.ItsState.{ItsState}
use Rattle.model.specs.declared.ItsAction.{ItsAction}
use Rattle.model.specs.declared.Register.{Register}
use Rattle.model.specs.declared.Register.TheVariants.{Ctlr, Iidr, Typer, Cbaser, Cwriter, Creadr, Baser, Reserved}
use Rattle.model.specs.declared.RegisterWrite.{RegisterWrite}
use Rattle.model.specs.declared.Command.{Command}
use Rattle.model.specs.declared.Command.TheVariants.{Mapd, Mapc, Mapti, Mapi, Movi, Int, Clear, Discard, Inv, Invall, Sync}
use Rattle.model.specs.declared.Refusal.TheVariants.{Unsound, RowTooShort, NotInWindow}
use Rattle.model.specs.Answer.{Decoded, Verdict}
use Rattle.model.specs.Choose.{◌or◌then◌, if_found}
use Rattle.model.specs.With.{with_registers, with_stalled, with_profile}
use Rattle.model.specs.Config.{queue_base, listed, sizes_in01, sound_ring}
use Rattle.model.specs.Decode.{opcode_of, decode}
use Rattle.model.specs.Step.{translation_of, delivery_in, lpi_in_range, check_mapping, check_in01, store_device, store_collection, store_translation, drop_device, drop_collection, drop_pair, move_pair, effect_in01, actions_on, actions_of}
use Rattle.model.specs.Queue.{Window, command_at, waiting, command_address, Turn, passes, stays, judged, Ran, and_then}
use Rattle.model.specs.Register.{register_at, is_wide, read_part, read_by, merged, written_by}
use Rattle.model.specs.Access.{check_access, if_accepted}
use Rattle.model.specs.Writing.{refusing, to_ctlr, writer_taken, writer_accepted, to_baser, stored_stalled, then_runs}
use Rattle.model.specs.Entry.{Outcome, after_run}
use Rattle.model.specs.In01.{sound_in01, configure_in01, value_in01, read_in01, translate_in01, turn_on_in01, turn_in01, carry_out_in01, go_on_in01, run_in01, run_queue_in01, write_register_in01, stores_in01, concluded_in01, write_in01}
use Rattle.model.specs.Common.{in_profile}
use Rattle.model.proofs.Cases.{cases, there_or}
use Rattle.model.proofs.Profiles.{made_by}

-- 01's sizes speak of no profile
pub any_sizes : (k : ItsConfig) (m : ℕ) → sizes_in01 (with_profile k m) ≡ sizes_in01 k
unfolding sizes_in01
any_sizes k m = refl

-- the unit with another number in the place of the profile, and another bit in that of Stalled. Either may be the unit's own: so a unit in another
-- profile is one of them, and so is a unit with Stalled set or cleared
abbrev pub marked_by : (Bool → Bool) → ItsRegisters → ItsRegisters
marked_by b r = with_stalled r (b r.stalled)

abbrev pub unseen : (ℕ → ℕ) → (Bool → Bool) → ItsState → ItsState
unseen m b u = with_registers (in_profile (m u.config.profile) u) (marked_by b u.registers)

-- a command: its checks, effect and actions
module _ (m : ℕ → ℕ) (b : Bool → Bool) (u : ItsState) where
  same_check : (x : Command) → check_in01 (unseen m b u) x ≡ check_in01 u x
  unfolding check_mapping lpi_in_range listed delivery_in
  same_check (Mapd d bits true) = refl
  same_check (Mapd d bits false) = refl
  same_check (Mapc c p true) = refl
  same_check (Mapc c p false) = refl
  same_check (Mapti d e l c) = refl
  same_check (Mapi d e c) = refl
  same_check (Movi d e c) = refl
  same_check (Int d e) = refl
  same_check (Clear d e) = refl
  same_check (Discard d e) = refl
  same_check (Inv d e) = refl
  same_check (Invall c) = refl
  same_check Sync = refl

  same_moved : (d : ItsDeviceId) (e : EventId) (c : CollectionId) (o : Option Translation) →
      if_found o (λ r. store_translation d e r.lpi c (unseen m b u)) (unseen m b u) ≡ unseen m b (if_found o (λ r. store_translation d e r.lpi c u) u)
  unfolding store_translation
  same_moved d e c None = refl
  same_moved d e c (Some r) = refl

  same_effect : (x : Command) → effect_in01 (unseen m b u) x ≡ unseen m b (effect_in01 u x)
  unfolding store_device store_collection store_translation drop_device drop_collection drop_pair move_pair
  same_effect (Mapd d bits true) = refl
  same_effect (Mapd d bits false) = refl
  same_effect (Mapc c p true) = refl
  same_effect (Mapc c p false) = refl
  same_effect (Mapti d e l c) = refl
  same_effect (Mapi d e c) = refl
  same_effect (Movi d e c) = same_moved d e c (translation_of u d e)
  same_effect (Int d e) = refl
  same_effect (Clear d e) = refl
  same_effect (Discard d e) = refl
  same_effect (Inv d e) = refl
  same_effect (Invall c) = refl
  same_effect Sync = refl

  pub same_actions : (x : Command) → actions_of (unseen m b u) x ≡ actions_of u x
  unfolding actions_on delivery_in
  same_actions (Mapd d bits valid) = refl
  same_actions (Mapc c p valid) = refl
  same_actions (Mapti d e l c) = refl
  same_actions (Mapi d e c) = refl
  same_actions (Movi d e c) = refl
  same_actions (Int d e) = refl
  same_actions (Clear d e) = refl
  same_actions (Discard d e) = refl
  same_actions (Inv d e) = refl
  same_actions (Invall c) = refl
  same_actions Sync = refl

  pub same_turn : (w : Window) → turn_in01 w (unseen m b u) ≡ turn_in01 w u
  unfolding turn_in01
  same_turn w = by_words (command_at w (command_address u.registers u.registers.creadr))
    where
      by_decoded : (k : Decoded) (opcode : ℕ) → turn_on_in01 (unseen m b u) opcode k ≡ turn_on_in01 u opcode k
      by_decoded (Ok x) opcode = ap (λ v. judged v x opcode) (same_check x)
      by_decoded (Err n) opcode = refl

      by_words : (o : Option (List ℕ)) →
          if_found o (λ ws. turn_on_in01 (unseen m b u) (opcode_of ws) (decode ws)) (stays NotInWindow 0) ≡ if_found o (λ ws. turn_on_in01 u (opcode_of ws) (decode ws)) (stays NotInWindow 0)
      by_words None = refl
      by_words (Some ws) = by_decoded (decode ws) (opcode_of ws)

  pub same_carried : (x : Command) → carry_out_in01 (unseen m b u) x ≡ unseen m b (carry_out_in01 u x)
  unfolding carry_out_in01
  same_carried x = rw (same_effect x)

-- what a run comes to, and a write, of the unit that f makes of its unit
abbrev pub ran_in : (ItsState → ItsState) → Ran → Ran
ran_in f r = record { unit = f r.unit; done = r.done; actions = r.actions; stopped = r.stopped }

abbrev pub outcome_in : (ItsState → ItsState) → Outcome → Outcome
outcome_in f o = record { written = record { unit = f o.written.unit; answer = o.written.answer }; row = o.row }

-- what a write stores, with another Stalled
abbrev pub stored_by : (Bool → Bool) → RegisterWrite → RegisterWrite
stored_by b s = stored_stalled s (b s.registers.stalled)

module _ (m : ℕ → ℕ) (b : Bool → Bool) (u : ItsState) where
  any_value : (n : Register) → value_in01 (unseen m b u) n ≡ value_in01 u n
  any_value Ctlr = refl
  any_value Iidr = refl
  any_value Typer = refl
  any_value Cbaser = refl
  any_value Cwriter = refl
  any_value Creadr = refl
  any_value (Baser n) = refl
  any_value Reserved = refl

  any_read : (offset width : ℕ) (n : Register) → read_by (value_in01 (unseen m b u)) offset width n ≡ read_by (value_in01 u) offset width n
  any_read offset width n = ap (λ v. if is_wide n then read_part offset width v else v) (any_value n)

  any_written : (offset width value : ℕ) (n : Register) → written_by (value_in01 (unseen m b u)) offset width value n ≡ written_by (value_in01 u) offset width value n
  any_written offset width value n = ap (λ v. if is_wide n then merged offset width v value else value) (any_value n)

  pub any_reads : (offset width : ℕ) → read_in01 (unseen m b u) offset width ≡ read_in01 u offset width
  unfolding read_in01 check_access sound_ring
  any_reads offset width = rw (any_sizes u.config (m u.config.profile), any_read offset width (register_at offset))

  pub any_translates : (d : ItsDeviceId) (e : EventId) → translate_in01 (unseen m b u) d e ≡ translate_in01 u d e
  unfolding translate_in01 delivery_in sound_ring
  any_translates d e = rw (any_sizes u.config (m u.config.profile))

  any_register : (value : ℕ) (n : Register) → write_register_in01 (marked_by b u.registers) value n ≡ stored_by b (write_register_in01 u.registers value n)
  unfolding to_ctlr to_baser writer_accepted
  any_register value Ctlr = refl
  any_register value Iidr = refl
  any_register value Typer = refl
  any_register value Cbaser = cases u.registers.enabled (λ y. rw y) (λ n. rw n (cases (not (eqb (queue_base value) 0)) (λ y. rw y) (λ m. rw m)))
  any_register value Cwriter = cases (writer_accepted u.registers (writer_taken u.registers value)) (λ y. rw y) (λ n. rw n)
  any_register value Creadr = refl
  any_register value (Baser n) = cases u.registers.enabled (λ y. rw y) (λ m. rw m)
  any_register value Reserved = refl

  pub any_stores : (row : List ItsAction) (offset width value : ℕ) → stores_in01 row (unseen m b u) offset width value ≡ stored_by b (stores_in01 row u offset width value)
  unfolding stores_in01 check_access sound_ring
  any_stores row offset width value =
      rw (any_sizes u.config (m u.config.profile), any_written offset width value (register_at offset))
      (by_verdict
      (sound_in01 u.config u.registers or Err Unsound then
      leb u.config.command_budget (length row) or Err RowTooShort then
      check_access u.config offset width)
      (written_by (value_in01 u) offset width value (register_at offset)) (register_at offset))
    where
      by_verdict : (d : Verdict) (written : ℕ) (n : Register) →
          if_accepted d (write_register_in01 (marked_by b u.registers) written n) (refusing (marked_by b u.registers) 0)
          ≡ stored_by b (if_accepted d (write_register_in01 u.registers written n) (refusing u.registers 0))
      by_verdict (Ok _) written n = any_register written n
      by_verdict (Err why) written n = refl

by_tests : {A B : Type 0} (f : A → B) (a b : Bool) {x y z : A} {x' y' z' : B} → x' ≡ f x → y' ≡ f y → z' ≡ f z →
    (if a then (b or x' then y') else z') ≡ f (if a then (b or x then y) else z)
by_tests f true true p q r = q
by_tests f true false p q r = p
by_tests f false b p q r = r

module _ (m : ℕ → ℕ) (b : Bool → Bool) (w : Window) where
  any_step : (n : ℕ) (u : ItsState) → ((v : ItsState) → run_in01 w n (unseen m b v) ≡ ran_in (unseen m b) (run_in01 w n v)) → (t : Turn) →
      go_on_in01 (unseen m b u) t (run_in01 w n) ≡ ran_in (unseen m b) (go_on_in01 u t (run_in01 w n))
  any_step n u rest (passes x) =
      ap₂ (λ l v. and_then l (run_in01 w n v)) (same_actions m b u x) (same_carried m b u x) ∙ ap (and_then (actions_of u x)) (rest (carry_out_in01 u x))
  any_step n u rest (stays r opcode) = refl

  any_run : (n : ℕ) (u : ItsState) → run_in01 w n (unseen m b u) ≡ ran_in (unseen m b) (run_in01 w n u)
  any_run zero u = refl
  any_run (suc n) u = rw (same_turn m b u w) (any_step n u (any_run n) (turn_in01 w u))

  any_queue : (u : ItsState) → run_queue_in01 w (unseen m b u) ≡ ran_in (unseen m b) (run_queue_in01 w u)
  unfolding run_queue_in01 waiting
  any_queue u = by_tests (ran_in (unseen m b)) u.registers.enabled (leb (waiting u.registers) u.config.command_budget) refl (any_run (waiting u.registers) u) refl

  any_end : (row : List ItsAction) (u : ItsState) (s : RegisterWrite) → concluded_in01 w row (unseen m b u) (stored_by b s) ≡ outcome_in (unseen m b) (concluded_in01 w row u s)
  any_end row u s =
      there_or s.answer (λ a off. rw off refl) (λ on. rw on (ap (λ q. after_run q row) (any_queue (with_registers u s.registers))))

  pub any_writes : (row : List ItsAction) (u : ItsState) (offset width value : ℕ) →
      write_in01 w row (unseen m b u) offset width value ≡ outcome_in (unseen m b) (write_in01 w row u offset width value)
  unfolding write_in01
  any_writes row u offset width value = rw (any_stores m b u row offset width value) (any_end row u (stores_in01 row u offset width value))

  pub any_made : (row : List ItsAction) (u : ItsState) (offset width value : ℕ) →
      made_by (run_queue_in01 w) (unseen m b u) (stores_in01 row (unseen m b u) offset width value) ≡ made_by (run_queue_in01 w) u (stores_in01 row u offset width value)
  any_made row u offset width value =
      let s = stores_in01 row u offset width value in
      rw (any_stores m b u row offset width value)
      (cases (then_runs s) (λ on. rw on (ap (λ q. q.actions) (any_queue (with_registers u s.registers)))) (λ off. rw off))

pub any_verdict : (m : ℕ) (k : ItsConfig) → (configure_in01 (with_profile k m)).verdict ≡ (configure_in01 k).verdict
unfolding configure_in01
any_verdict m k = rw (any_sizes k m) (cases (sizes_in01 k) (λ y. rw y) (λ n. rw n))
