-- Where the profiles agree (specs/Common.antt) the strict unit answers what the base unit does, and leaves the same but for the profile.
-- Assumes nothing.
use Rattle.std.specs.Prelude.{Err, None, Ok, Some}
use Prim.Native.Nat.{ℕ, zero, suc, ◌-◌, ◌≤◌, ◌<◌}
use native.Mathlib.Omega.{arith}
use mathlib.Core.Path.{◌≡◌, refl, sym, ap, ap₂, ◌∙◌}
use mathlib.Core.Bool.{true, false}
use mathlib.Core.List.{List}
use lib.ListN.{length}
use lib.Dec.{leb, eqb}
use borrow.Author.Tests.{le-leb, eqb-true, eqb-false, leb-true}
use Rattle.model.specs.declared.ItsDeviceId.{ItsDeviceId}
use Rattle.model.specs.declared.EventId.{EventId}
use Rattle.model.specs.declared.ItsConfig.{ItsConfig}
use Rattle.model.specs.declared.ItsRegisters.{ItsRegisters}
use Rattle.model.specs.declared.ItsState.{ItsState}
use Rattle.model.specs.declared.ItsAction.{ItsAction}
use Rattle.model.specs.declared.Register.{Register}
use Rattle.model.specs.declared.Register.TheVariants.{Ctlr, Iidr, Typer, Cbaser, Cwriter, Creadr, Baser, Reserved}
use Rattle.model.specs.declared.RegisterWrite.{RegisterWrite}
use Rattle.model.specs.declared.Command.{Command}
use Rattle.model.specs.declared.Refusal.TheVariants.{Unsound}
use Rattle.model.specs.Answer.{Verdict}
use Rattle.model.specs.Arm.{◌of◌, ◌in_place◌, CBASER_Valid, CWRITER_Retry, GITS_CWRITER}
use Rattle.model.specs.With.{with_registers, with_profile}
use Rattle.model.specs.Config.{sizes_in01, sound_config, sound_ring}
use Rattle.model.specs.Step.{delivery_in, actions_of}
use Rattle.model.specs.Queue.{Window, waiting, Turn, passes, stays, turn, carry_out, ended, and_then, go_on, run, held, may_run, run_queue}
use Rattle.model.specs.Passed.{command_here}
use Rattle.model.specs.Register.{register_at, creadr_value, written_by, value_written}
use Rattle.model.specs.Access.{check_access, check_read, check_write, if_accepted}
use Rattle.model.specs.Writing.{refusing, to_cbaser, retries, offered, to_cwriter, write_register, register_write, then_runs}
use Rattle.model.specs.Entry.{after_run, read_from, read, translate, running, concluded, stores, configure, write}
use Rattle.model.specs.In01.{value_in01, read_in01, write_register_in01, stores_in01}
use Rattle.model.specs.Common.{in_profile, Common, CommonRun, CommonWrite}
use Rattle.model.proofs.Cases.{cases, never, and_right, there_or}
use Rattle.model.proofs.Answers.{queue-runs, queue-over, queue-off}
use Rattle.model.proofs.AnyProfile.{same_actions, same_turn, same_carried, ran_in, outcome_in, any_sizes, any_reads, any_stores}
use Rattle.model.proofs.Stalled.{base_stored}
use Rattle.model.proofs.Profiles.{made_by, Plain, plain_common, turn_in_01, carried_in_01, base_known, sizes_only, off_may, valid_may, creadr_plain, halting_none, base_reads, base_stores}
use Rattle.model.proofs.Retry.{retry_of, checks_taken}

-- a command on which the profiles agree is one for both
same_common : (m : ℕ) (u : ItsState) (x : Command) → Common u x → Common (in_profile m u) x
same_common m u x c = record { small = c.small; not_again = c.not_again }

module _ (m : ℕ) (w : Window) where
  -- one step: both units meet the same command, of which 01 says all
  common_step : (n : ℕ) (u : ItsState) → ((x : Command) → command_here w u.registers ≡ Some x → Common u x) →
      ((x : Command) → turn w u ≡ passes x → run w n (in_profile m (carry_out u x)) ≡ ran_in (in_profile m) (run w n (carry_out u x))) →
      (t : Turn) → turn w u ≡ t → go_on (in_profile m u) (turn w (in_profile m u)) (run w n) ≡ ran_in (in_profile m) (go_on u (turn w u) (run w n))
  common_step n u c rest t e =
      let here : (y : Command) → command_here w u.registers ≡ Some y → Plain u y = λ y q. plain_common u y (c y q) in
      let there : (y : Command) → command_here w u.registers ≡ Some y → Plain (in_profile m u) y = λ y q. plain_common (in_profile m u) y (same_common m u y (c y q)) in
      let turned : turn w (in_profile m u) ≡ t = turn_in_01 w (in_profile m u) there ∙ (same_turn (λ _. m) (λ s. s) u w ∙ (sym (turn_in_01 w u here) ∙ e)) in
      rw (turned, e) (by_turn t e turned here there)
    where
      by_turn : (t : Turn) → turn w u ≡ t → turn w (in_profile m u) ≡ t → ((y : Command) → command_here w u.registers ≡ Some y → Plain u y) →
          ((y : Command) → command_here w u.registers ≡ Some y → Plain (in_profile m u) y) → go_on (in_profile m u) t (run w n) ≡ ran_in (in_profile m) (go_on u t (run w n))
      by_turn (passes x) e turned here there =
          let carried : carry_out (in_profile m u) x ≡ in_profile m (carry_out u x) =
          carried_in_01 w (in_profile m u) there x turned ∙ (same_carried (λ _. m) (λ s. s) u x ∙ ap (in_profile m) (sym (carried_in_01 w u here x e))) in
          ap₂ (λ l v. and_then l (run w n v)) (same_actions (λ _. m) (λ s. s) u x) carried ∙ ap (and_then (actions_of u x)) (rest x e)
      by_turn (stays r opcode) e turned here there = refl

  -- the commands met after the first
  later : (n : ℕ) (u : ItsState) → CommonRun w (suc n) u → (x : Command) → turn w u ≡ passes x → CommonRun w n (carry_out u x)
  later n u c x e i h y q =
      let same : (run w (suc i) u).unit ≡ (run w i (carry_out u x)).unit = ap (λ t. (go_on u t (run w i)).unit) e in
      let q' : command_here w (run w (suc i) u).unit.registers ≡ Some y = ap (λ v. command_here w v.registers) same ∙ q in
      rw same at (c (suc i) (omega arith) y q')

  common_run : (n : ℕ) (u : ItsState) → CommonRun w n u → run w n (in_profile m u) ≡ ran_in (in_profile m) (run w n u)
  common_run zero u c = refl
  common_run (suc n) u c = common_step n u (c 0 (omega arith)) (λ x e. common_run n (carry_out u x) (later n u c x e)) (turn w u) refl

by_size : (n : ℕ) → (n ≡ 0 → ⊥) → 0 < n
by_size zero h = absurd (h refl)
by_size (suc n) h = omega arith

-- THE STRICT UNIT BESIDE THE BASE UNIT u, neither of which is stalled.
module _ (u : ItsState) (b : u.config.profile ≡ 0) (clear : u.registers.stalled ≡ false) where
  abbrev v : ItsState
  v = in_profile 1 u

  same_sizes : sound_config v.config ≡ sound_config u.config
  same_sizes = sizes_only v.config refl ∙ (any_sizes u.config 1 ∙ sym (sizes_only u.config (base_known u.config b)))

  plain_creadr : creadr_value v.config v.registers ≡ v.registers.creadr
  plain_creadr = creadr_plain v.config v.registers clear

  -- both read what 01's unit reads
  plain_reads : (offset width : ℕ) → read v offset width ≡ read_in01 v offset width
  unfolding read_from check_read read_in01
  plain_reads offset width = rw (sizes_only v.config refl, plain_creadr)

  pub same_reads : (offset width : ℕ) → read v offset width ≡ read u offset width
  same_reads offset width = plain_reads offset width ∙ (any_reads (λ _. 1) (λ s. s) u offset width ∙ sym (base_reads u b offset width))

  pub same_translates : (d : ItsDeviceId) (e : EventId) → translate v d e ≡ translate u d e
  unfolding translate delivery_in
  same_translates d e = rw same_sizes

  -- both store what 01's unit stores, where a write of CWRITER has no bit 0
  plain_register : (value : ℕ) (n : Register) → (n ≡ Cwriter → CWRITER_Retry of value ≡ 0) → write_register v.config v.registers value n ≡ write_register_in01 v.registers value n
  unfolding to_cbaser to_cwriter offered retries
  plain_register value Ctlr n = refl
  plain_register value Iidr n = refl
  plain_register value Typer n = refl
  plain_register value Cbaser n = rw clear
  plain_register value Cwriter n =
      let whole : value - CWRITER_Retry in_place value ≡ value = omega (arith, n refl) in
      rw (whole, n refl)
  plain_register value Creadr n = refl
  plain_register value (Baser m) n = refl
  plain_register value Reserved n = refl

  module _ (row : List ItsAction) (offset width value : ℕ) (no_retry : offset ≡ GITS_CWRITER → CWRITER_Retry of value ≡ 0) where
    no_bit : check_access v.config offset width ≡ Ok tt → sound_ring v.registers ≡ true → register_at offset ≡ Cwriter →
        CWRITER_Retry of written_by (value_in01 v) offset width value (register_at offset) ≡ 0
    no_bit taken ring at =
        rw at
        (retry_of v.config offset width taken at v.registers ring value
        ∙ cases (eqb offset GITS_CWRITER) (λ y. rw y (no_retry (eqb-true offset GITS_CWRITER y))) (λ n. rw n))

    by_verdict : (d : Verdict) → check_write v.config v.registers (length row) offset width ≡ d →
        if_accepted d (write_register v.config v.registers (value_written v.config v.registers offset width value (register_at offset)) (register_at offset)) (refusing v.registers 0)
        ≡ if_accepted d (write_register_in01 v.registers (written_by (value_in01 v) offset width value (register_at offset)) (register_at offset)) (refusing v.registers 0)
    by_verdict (Err why) c = refl
    by_verdict (Ok _) c =
        let taken = checks_taken v.config v.registers (length row) offset width c in
        let ring = and_right (sound_config v.config) _ taken.is_sound in
        rw plain_creadr
        (plain_register (written_by (value_in01 v) offset width value (register_at offset)) (register_at offset)
        (no_bit taken.access ring))

    plain_stores : stores row v offset width value ≡ stores_in01 row v offset width value
    unfolding register_write check_write stores_in01
    plain_stores = by_verdict (check_write v.config v.registers (length row) offset width) refl ∙ rw (sizes_only v.config refl)

    pub same_stores : stores row v offset width value ≡ stores row u offset width value
    same_stores = plain_stores ∙ (any_stores (λ _. 1) (λ s. s) u row offset width value ∙ sym (base_stores u b row offset width value))

  -- the run
  module _ (w : Window) (r : ItsRegisters) where
    abbrev u₁ : ItsState
    u₁ = with_registers u r

    base_runs : r.enabled ≡ true → may_run u.config r ≡ true
    unfolding may_run held
    base_runs on = rw (on, b)

    none_waits : (x : ItsState) → x.registers ≡ r → waiting r ≡ 0 → run_queue w x ≡ ended x None
    unfolding run_queue
    none_waits x e z = rw (e, z, le-leb 0 x.config.command_budget (omega arith)) (cases (may_run x.config r) (λ y. rw y) (λ n. rw n))

    same_queue : (r.enabled ≡ true → 0 < waiting r → CBASER_Valid of r.cbaser ≡ 1) →
        (r.enabled ≡ true → waiting r ≤ u.config.command_budget → CommonRun w (waiting r) u₁) →
        (r.enabled ≡ true → waiting r ≤ u.config.command_budget → (run w (waiting r) u₁).stopped ≡ None) → r.stalled ≡ false →
        run_queue w (in_profile 1 u₁) ≡ ran_in (in_profile 1) (run_queue w u₁)
    same_queue bit63 c goes clear =
        cases r.enabled
        (λ on. cases (eqb (waiting r) 0)
        (λ z. none_waits (in_profile 1 u₁) refl (eqb-true (waiting r) 0 z) ∙ sym (ap (ran_in (in_profile 1)) (none_waits u₁ refl (eqb-true (waiting r) 0 z))))
        (λ n.
        let some_wait : waiting r ≡ 0 → ⊥ = eqb-false (waiting r) 0 n in
        let valid = bit63 on (by_size (waiting r) some_wait) in
        cases (leb (waiting r) u.config.command_budget)
        (λ l.
        let same = common_run 1 w (waiting r) u₁ (c on (leb-true _ _ l)) in
        let none-stopped = goes on (leb-true _ _ l) in
        queue-runs w (in_profile 1 u₁) (valid_may v.config r on valid clear) l
        ∙ (halting_none (run w (waiting r) (in_profile 1 u₁)) (ap (λ q. q.stopped) same ∙ none-stopped)
        ∙ (same ∙ sym (ap (ran_in (in_profile 1)) (queue-runs w u₁ (base_runs on) l ∙ halting_none (run w (waiting r) u₁) none-stopped)))))
        (λ l. queue-over w (in_profile 1 u₁) (valid_may v.config r on valid clear) l ∙ sym (ap (ran_in (in_profile 1)) (queue-over w u₁ (base_runs on) l)))))
        (λ off. queue-off w (in_profile 1 u₁) (off_may v.config r off) ∙ sym (ap (ran_in (in_profile 1)) (queue-off w u₁ (off_may u.config r off))))

  -- a write: the same answer and row, and the unit with the strict profile
  module _ (w : Window) (row : List ItsAction) (offset width value : ℕ) (c : CommonWrite w row u offset width value) where
    abbrev s : RegisterWrite
    s = stores row u offset width value

    -- base neither sets nor clears Stalled
    stays_clear : s.registers.stalled ≡ false
    stays_clear = base_stored u offset width value row (rw b) ∙ clear

    same_run : then_runs s ≡ true → run_queue w (with_registers v s.registers) ≡ ran_in (in_profile 1) (run_queue w (with_registers u s.registers))
    same_run on = same_queue w s.registers (c.queue.bit63 on) (c.queue.commands on) (c.queue.none_refused on) stays_clear

    same_end : concluded w row v s ≡ outcome_in (in_profile 1) (concluded w row u s)
    unfolding running
    same_end = there_or s.answer (λ a off. rw off refl) (λ on. rw on (ap (λ q. after_run q row) (same_run (rw on))))

    pub same_writes : write w row v offset width value ≡ outcome_in (in_profile 1) (write w row u offset width value)
    unfolding write
    same_writes = rw (same_stores row offset width value c.no_retry) same_end

    -- and the same actions
    pub same_made : made_by (run_queue w) v (stores row v offset width value) ≡ made_by (run_queue w) u s
    same_made =
        rw (same_stores row offset width value c.no_retry) (cases (then_runs s) (λ on. rw on (ap (λ q. q.actions) (same_run on))) (λ off. rw off))

-- a configuration of both is accepted or refused, and what is accepted is the same fresh unit
pub same_verdict : (k : ItsConfig) → (configure (with_profile k 1)).verdict ≡ (configure (with_profile k 0)).verdict
unfolding configure
same_verdict k =
    rw (sizes_only (with_profile k 1) refl, sizes_only (with_profile k 0) refl, any_sizes k 1, any_sizes k 0)
    (cases (sizes_in01 k) (λ y. rw y) (λ n. rw n))

pub same_fresh : (k : ItsConfig) → (configure (with_profile k 0)).verdict ≡ Ok tt → (configure (with_profile k 1)).unit ≡ in_profile 1 (configure (with_profile k 0)).unit
unfolding configure
same_fresh k a =
    cases (sizes_in01 k)
    (λ y. rw (sizes_only (with_profile k 1) refl, sizes_only (with_profile k 0) refl, any_sizes k 1, any_sizes k 0, y))
    (λ n. let z : ◌≡◌ {A = Verdict} (Err Unsound) (Ok tt) = rw (sizes_only (with_profile k 0) refl, any_sizes k 0, n) at a in never true refl (cc))

pub fresh_base : (k : ItsConfig) → (configure (with_profile k 0)).verdict ≡ Ok tt → (configure (with_profile k 0)).unit.config.profile ≡ 0
unfolding configure
fresh_base k a =
    cases (sizes_in01 k)
    (λ y. rw (sizes_only (with_profile k 0) refl, any_sizes k 0, y))
    (λ n. rw (sizes_only (with_profile k 0) refl, any_sizes k 0, n))
