-- The ways a write can go: refused before anything is stored, stored with nothing run, or stored with the queue let run, which then runs nothing, is
-- over its budget, or runs what waits. Every write goes one of them; and on a sound unit each does what a run of some number of the waiting
-- commands does, or of none.
-- Assumes nothing.
use Rattle.std.specs.Prelude.{if◌then◌else◌, Err, Ok}
use Prim.Native.Nat.{ℕ, ◌≤◌, ◌<◌}
use native.Mathlib.Omega.{arith}
use mathlib.Core.Path.{◌≡◌, refl, sym, ap, ◌∙◌, subst}
use mathlib.Core.Bool.{Bool, true, false, not}
use mathlib.Core.List.{List, []}
use lib.ListN.{length, replicate, length-replicate}
use lib.Dec.{leb, eqb}
use borrow.Author.Tests.{leb-true, leb-false}
use Rattle.model.specs.declared.ItsRegisters.{ItsRegisters}
use Rattle.model.specs.declared.ItsState.{ItsState}
use Rattle.model.specs.declared.ItsAction.{ItsAction}
use Rattle.model.specs.declared.Register.{Register}
use Rattle.model.specs.declared.Register.TheVariants.{Ctlr, Iidr, Typer, Cbaser, Cwriter, Creadr, Baser, Reserved}
use Rattle.model.specs.declared.RegisterWrite.{RegisterWrite}
use Rattle.model.specs.declared.Refusal.{Refusal}
use Rattle.model.specs.declared.Refusal.TheVariants.{Unsound, RowTooShort, BaseZero, WriterRefused, BudgetExceeded}
use Rattle.model.specs.Answer.{Verdict, WriteAnswer, write_refused, write_taken}
use Rattle.model.specs.Profile.{is_strict}
use Rattle.model.specs.Choose.{◌or◌then◌}
use Rattle.model.specs.Refusal.{write_numbers}
use Rattle.model.specs.With.{with_registers, with_enabled, with_writer, unit_stalled}
use Rattle.model.specs.Config.{queue_base, sound_config, sound_ring, sound_unit}
use Rattle.model.specs.Queue.{Window, waiting, Ran, run, halting, may_run}
use Rattle.model.specs.Register.{register_at, value_written}
use Rattle.model.specs.Access.{check_write, if_accepted}
use Rattle.model.specs.Writing.{refusing, storing, rebasing, going, enables, to_ctlr, clearing, with_cbaser, to_cbaser, retries, writer_accepted, writer_of, to_cwriter, with_baser, to_baser, write_register, register_write, then_runs}
use Rattle.model.specs.Entry.{Outcome, row_after, after_run, running, concluded, stores, write}
use Rattle.model.proofs.Cases.{cases, never, and_left, and_right, both, check_held}
use Rattle.model.proofs.Ring.{reader_below}
use Rattle.model.proofs.Waiting.{writer_sound, base_sound, reader_sound}
use Rattle.model.proofs.Runs.{RunKeeps, run_keeps}
use Rattle.model.proofs.Answers.{done-of, halted-unit, halted-answer, queue-runs, queue-over, queue-off}

-- the writer that a CWRITER write brings
abbrev pub writer_by : ItsState → ℕ → ℕ → ℕ → ℕ
writer_by u offset width value = writer_of u.config u.registers (value_written u.config u.registers offset width value Cwriter)

module _ (w : Window) (row : List ItsAction) (u : ItsState) (offset width value : ℕ) where
  -- The registers s are stored: CREADR and the base are as before, unit and ring are sound, and the row has room.
  pub record Stored (s : ItsRegisters) : Type 0 where
    pub sound : sound_config u.config ≡ true
    pub base : s.cbaser ≡ u.registers.cbaser
    pub reader : s.creadr ≡ u.registers.creadr
    pub ring : sound_ring s ≡ true
    pub room : u.config.command_budget ≤ length row

  -- unit and answer where nothing runs
  abbrev nothing_run : ItsRegisters → WriteAnswer → Outcome
  nothing_run s a = record { written = record { unit = with_registers u s; answer = a }; row = row }

  -- what the write does to the registers, and the outcome
  pub data Way : RegisterWrite → Outcome → Type 0 where
    -- 1, 10, 2, 3
    checked : (why : Refusal) → check_write u.config u.registers (length row) offset width ≡ Err why →
        Way (refusing u.registers 0 why) (nothing_run u.registers (write_refused why 0 0 0 0))
    -- 4
    no_base : sound_unit u ≡ true → Way (refusing u.registers 0 BaseZero) (nothing_run u.registers (write_refused BaseZero 0 0 0 0))
    -- 7 at CWRITER
    no_writer : sound_unit u ≡ true → register_at offset ≡ Cwriter →
        Way (refusing u.registers (writer_by u offset width value) WriterRefused) (nothing_run u.registers (write_refused WriterRefused 0 (writer_by u offset width value) 0 0))
    -- stored, or ignored, and nothing runs
    quiet : (s : ItsRegisters) → Stored s → Way (storing s) (nothing_run s (write_taken 0 0))
    -- a new base, and nothing runs
    based : (s : ItsRegisters) → sound_config u.config ≡ true → sound_ring s ≡ true → s.creadr ≡ 0 → Way (rebasing s) (nothing_run s (write_taken 0 0))
    -- let run, and the queue may not: the unit is disabled, or in strict CBASER's bit 63 is clear or the unit stalled
    off : (s : ItsRegisters) → Stored s → may_run u.config s ≡ false → Way (going s) (nothing_run s (write_taken 0 0))
    -- more wait than the budget
    over : (s : ItsRegisters) → Stored s → may_run u.config s ≡ true → u.config.command_budget < waiting s →
        Way (going s) (record { written = record { unit = with_registers u s; answer = write_refused BudgetExceeded 0 s.creadr 0 0 }; row = row })
    -- what waits is run
    ran : (s : ItsRegisters) → Stored s → may_run u.config s ≡ true → waiting s ≤ u.config.command_budget →
        Way (going s) (after_run (halting (run w (waiting s) (with_registers u s))) row)

  -- let run
  let_run : (s : ItsRegisters) → Stored s → Way (going s) (concluded w row u (going s))
  unfolding running
  let_run s g =
      let v = with_registers u s in
      cases (may_run u.config s)
      (λ on. cases (leb (waiting s) u.config.command_budget)
      (λ l. rw (queue-runs w v on l) (ran s g on (leb-true _ _ l)))
      (λ l. rw (queue-over w v on l) (over s g on (leb-false _ _ l))))
      (λ no. rw (queue-off w v no) (off s g no))

  -- By the register, of an access whose checks hold.
  module _ (sound : sound_unit u ≡ true) (room : u.config.command_budget ≤ length row) where
    abbrev r : ItsRegisters
    r = u.registers

    abbrev Goes : RegisterWrite → Type 0
    Goes s = Way s (concluded w row u s)

    ring : sound_ring r ≡ true
    ring = and_right (sound_config u.config) _ sound

    -- s has the base and the CREADR of before
    kept : (s : ItsRegisters) → s.cbaser ≡ r.cbaser → s.creadr ≡ r.creadr → sound_ring s ≡ true → Stored s
    kept s b c k = record { sound = and_left (sound_config u.config) _ sound; base = b; reader = c; ring = k; room = room }

    ignored : Goes (storing r)
    ignored = quiet r (kept r refl refl ring)

    -- with a, the unit is enabled; with b, the base is not zero
    to_base : (written : ℕ) (a b : Bool) → (b ≡ true → not (eqb (queue_base written) 0) ≡ true) →
        Goes (if a then storing r else (b or refusing r 0 BaseZero then rebasing (clearing (is_strict u.config.profile) (with_cbaser r written))))
    unfolding sound_ring
    to_base written true b t = ignored
    to_base written false true t =
        based (clearing (is_strict u.config.profile) (with_cbaser r written)) (and_left (sound_config u.config) _ sound) (base_sound r written (t refl)) refl
    to_base written false false t = no_base sound

    to_writer : register_at offset ≡ Cwriter → (a retry : Bool) → (a ≡ true → writer_accepted r (writer_by u offset width value) ≡ true) →
        Goes (a or refusing r (writer_by u offset width value) WriterRefused then going (clearing retry (with_writer r (writer_by u offset width value))))
    unfolding sound_ring
    to_writer at true retry t =
        let taken = writer_by u offset width value in
        let_run (clearing retry (with_writer r taken)) (kept (clearing retry (with_writer r taken)) refl refl (writer_sound r ring taken (t refl)))
    to_writer at false retry t = no_writer sound at

    to_table : (n written : ℕ) (a : Bool) → Goes (if a then storing r else storing (with_baser r n written))
    unfolding sound_ring
    to_table n written true = ignored
    to_table n written false = quiet (with_baser r n written) (kept (with_baser r n written) refl refl ring)

    to_register : (n : Register) → register_at offset ≡ n → Goes (write_register u.config r (value_written u.config r offset width value n) n)
    unfolding to_ctlr to_cbaser to_cwriter to_baser sound_ring
    to_register Ctlr at = let_run (with_enabled r (enables value)) (kept (with_enabled r (enables value)) refl refl ring)
    to_register Iidr at = ignored
    to_register Typer at = ignored
    to_register Cbaser at =
        let written = value_written u.config r offset width value Cbaser in
        to_base written r.enabled (not (eqb (queue_base written) 0)) (λ t. t)
    to_register Cwriter at =
        to_writer at (writer_accepted r (writer_by u offset width value)) (retries u.config (value_written u.config r offset width value Cwriter)) (λ t. t)
    to_register Creadr at = ignored
    to_register (Baser n) at = to_table n (value_written u.config r offset width value (Baser n)) r.enabled
    to_register Reserved at = ignored

  -- an access, by the verdict of its checks
  by_verdict : (v : Verdict) → check_write u.config u.registers (length row) offset width ≡ v → (n : Register) → register_at offset ≡ n →
      Way (if_accepted v (write_register u.config u.registers (value_written u.config u.registers offset width value n) n) (refusing u.registers 0))
      (concluded w row u (if_accepted v (write_register u.config u.registers (value_written u.config u.registers offset width value n) n) (refusing u.registers 0)))
  unfolding check_write
  by_verdict (Ok _) c n at =
      let (sound, rest) = check_held (sound_unit u) Unsound _ c in
      let (room, access) = check_held (leb u.config.command_budget (length row)) RowTooShort _ rest in
      to_register sound (leb-true _ _ room) n at
  by_verdict (Err why) c n at = checked why c

  pub way : Way (stores row u offset width value) (write w row u offset width value)
  unfolding write register_write
  way = by_verdict (check_write u.config u.registers (length row) offset width) refl (register_at offset) refl

  -- ON A SOUND UNIT a write does what a run of n commands does, from the unit with the value stored.
  pub record AsRun (s : RegisterWrite) (o : Outcome) : Type 0 where
    pub n : ℕ
    pub ring : sound_ring s.registers ≡ true
    pub waited : n ≤ waiting s.registers
    pub budget : n ≤ u.config.command_budget
    -- the unit but for Stalled, done and the row are those of the run
    pub unit : o.written.unit ≡ unit_stalled (run w n (with_registers u s.registers)).unit o.written.unit.registers.stalled
    pub done : (write_numbers o.written.answer).done ≡ (run w n (with_registers u s.registers)).done
    pub row_is : o.row ≡ row_after (run w n (with_registers u s.registers)).actions row
    -- nothing is run with a new base, nor where the queue may not run
    pub new_base : s.rebased ≡ true → n ≡ 0
    pub may_not : may_run u.config s.registers ≡ false → n ≡ 0
    -- where CREADR stands with the value stored: as before, or at 0 with a new base
    pub same_base : s.rebased ≡ false → s.registers.cbaser ≡ u.registers.cbaser
    pub same_reader : s.rebased ≡ false → s.registers.creadr ≡ u.registers.creadr
    pub new_reader : s.rebased ≡ true → s.registers.creadr ≡ 0

  -- no command is run
  none_run : (s : ItsRegisters) (o : Outcome) → s.cbaser ≡ u.registers.cbaser → s.creadr ≡ u.registers.creadr → sound_ring s ≡ true →
      o.written.unit ≡ unit_stalled (with_registers u s) o.written.unit.registers.stalled → (write_numbers o.written.answer).done ≡ 0 → o.row ≡ row →
      {a : _} → AsRun (record { registers = s; rebased = false; answer = a }) o
  none_run s o b c k v d l =
      record {
        n = 0;
        ring = k;
        waited = omega arith;
        budget = omega arith;
        unit = v;
        done = d;
        row_is = l;
        new_base = λ b. refl;
        may_not = λ e. refl;
        same_base = λ _. b;
        same_reader = λ _. c;
        new_reader = λ b. never true refl (sym b);
      }

  pub as_run : sound_unit u ≡ true → {s : RegisterWrite} {o : Outcome} → Way s o → AsRun s o
  as_run sound (checked why c) = none_run u.registers _ refl refl (and_right (sound_config u.config) _ sound) refl refl refl
  as_run sound (no_base _) = none_run u.registers _ refl refl (and_right (sound_config u.config) _ sound) refl refl refl
  as_run sound (no_writer _ at) = none_run u.registers _ refl refl (and_right (sound_config u.config) _ sound) refl refl refl
  as_run sound (quiet s g) = none_run s _ g.base g.reader g.ring refl refl refl
  as_run sound (based s c k z) =
      record {
        n = 0;
        ring = k;
        waited = omega arith;
        budget = omega arith;
        unit = refl;
        done = refl;
        row_is = refl;
        new_base = λ b. refl;
        may_not = λ e. refl;
        same_base = λ b. never true refl b;
        same_reader = λ b. never true refl b;
        new_reader = λ _. z;
      }
  as_run sound (off s g out) = none_run s _ g.base g.reader g.ring refl refl refl
  as_run sound (over s g on more) = none_run s _ g.base g.reader g.ring refl refl refl
  as_run sound (ran s g on within) =
      let q = run w (waiting s) (with_registers u s) in
      record {
        n = waiting s;
        ring = g.ring;
        waited = omega arith;
        budget = within;
        unit = halted-unit q;
        done = ap (λ z. (write_numbers z).done) (halted-answer q) ∙ done-of q q.stopped;
        row_is = refl;
        new_base = λ b. never true refl (sym b);
        may_not = λ e. never (may_run u.config s) on e;
        same_base = λ _. g.base;
        same_reader = λ _. g.reader;
        new_reader = λ b. never true refl (sym b);
      }

  module _ (sound : sound_unit u ≡ true) {s : RegisterWrite} {o : Outcome} (a : AsRun s o) where
    abbrev pub ran_by : Ran
    ran_by = run w a.n (with_registers u s.registers)

    pub run_kept : RunKeeps w a.n (with_registers u s.registers) ran_by
    run_kept = run_keeps w a.n (with_registers u s.registers) (reader_below s.registers a.ring)

    pub fewer : ran_by.done ≤ waiting s.registers
    fewer = omega (arith, a.waited, run_kept.at_most)

    -- unit and ring stay sound
    pub stays_sound : sound_unit o.written.unit ≡ true
    unfolding sound_ring
    stays_sound =
        ap sound_unit a.unit
        ∙ rw (run_kept.config, run_kept.registers)
        (both (sound_config u.config) _ (and_left _ _ sound) (reader_sound s.registers a.ring ran_by.done fewer))

-- Where the queue is let run, unit and ring are sound with the value stored, and the row has room for the budget.
pub runs_ready : (u : ItsState) (room offset width value : ℕ) → then_runs (register_write u.config u.registers room offset width value) ≡ true →
    (sound_unit (with_registers u (register_write u.config u.registers room offset width value).registers) ≡ true) × (u.config.command_budget ≤ room)
runs_ready u room offset width value h =
    let row : List ItsAction = replicate room (record { target = record { 0 = 0 }; lpi = record { 0 = 0 }; pending = false }) in
    let long : length row ≡ room = length-replicate room _ in
    by_way row long (subst (λ n. Way nowhere row u offset width value (register_write u.config u.registers n offset width value) (write nowhere row u offset width value)) long (way nowhere row u offset width value)) h
  where
    nowhere : Window
    nowhere = record { address = 0; bytes = [] }

    by_way : (row : List ItsAction) → length row ≡ room → {s : RegisterWrite} {o : Outcome} → Way nowhere row u offset width value s o → then_runs s ≡ true →
        (sound_unit (with_registers u s.registers) ≡ true) × (u.config.command_budget ≤ room)
    by_way row long (checked why c) h = never true refl (sym h)
    by_way row long (no_base sound) h = never true refl (sym h)
    by_way row long (no_writer sound at) h = never true refl (sym h)
    by_way row long (quiet s g) h = never true refl (sym h)
    by_way row long (based s c k z) h = never true refl (sym h)
    by_way row long (off s g out) h = (both (sound_config u.config) _ g.sound g.ring, omega (arith, g.room, long))
    by_way row long (over s g on more) h = (both (sound_config u.config) _ g.sound g.ring, omega (arith, g.room, long))
    by_way row long (ran s g on within) h = (both (sound_config u.config) _ g.sound g.ring, omega (arith, g.room, long))
