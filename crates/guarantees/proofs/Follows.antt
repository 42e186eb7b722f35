-- WHAT FOLLOWS from what a write keeps: each fact is had from the three records, and from what model: `Entry.stores` says of what is stored.
-- Assumes nothing.
use Prim.Native.Nat.{ℕ, suc, ◌+◌, ◌-◌, ◌*◌, ◌/◌, ◌%◌, ◌≤◌, ◌<◌}
use native.Mathlib.Omega.{arith}
use native.Mathlib.Nat.{mod-eq-sub-mod, mod-eq_of_lt, mod-add-mod}
use mathlib.Core.Path.{◌≡◌, refl, sym, ap, ◌∙◌}
use mathlib.Core.Bool.{true, false}
use mathlib.Core.List.{List, []}
use lib.ListN.{length}
use lib.Dec.{leb, ltb}
use borrow.Author.Tests.{ltb-true, ltb-false, le-leb, lt-leb, leb-true, leb-false}
use Rattle.model.specs.declared.ItsRegisters.{ItsRegisters}
use Rattle.model.specs.declared.ItsState.{ItsState}
use Rattle.model.specs.declared.ItsAction.{ItsAction}
use Rattle.model.specs.declared.RegisterWrite.{RegisterWrite}
use Rattle.model.specs.declared.Command.{Command}
use Rattle.model.specs.declared.Refusal.{Refusal}
use Rattle.model.specs.declared.Refusal.TheVariants.{Unsound, RowTooShort, InvalidAccess, Identification, BaseZero, WriterRefused, BudgetExceeded, NotInWindow}
use Rattle.model.specs.declared.Refusal.TheVariants.{OpcodeUnknown, LpiOutOfRange, DeviceUnmapped, EventBeyondBits, CollectionUnmapped, PairUnmapped, ProcessorUnlisted, DeviceTooLarge, ResourceNotFound, TableFull, LineDoesNotFit}
use Rattle.model.specs.declared.Written.{Written}
use Rattle.model.specs.Answer.{write_refused}
use Rattle.model.specs.Arm.{command_size}
use Rattle.model.specs.Refusal.{write_numbers}
use Rattle.model.specs.With.{with_registers, with_stalled, with_reader, unit_stalled}
use Rattle.model.specs.Config.{queue_size, sound_config, sound_ring, sound_unit}
use Rattle.model.specs.Queue.{Window, Stands, distance, waiting, past_command, may_run}
use Rattle.model.specs.Entry.{Outcome, stores, write}
use Rattle.model.specs.Passed.{ring_offset, CarriedOut, nothing, one_more}
use Rattle.model.specs.Writing.{then_runs}
use Rattle.model.proofs.Cases.{cases, never, and_right}
use Rattle.model.proofs.Profiles.{may_cleared}
use Rattle.model.proofs.Ring.{reader_below, offset_here}
use Rattle.model.proofs.Waiting.{waiting_fewer, offset_once}
use Rattle.model.proofs.Turns.{carried_registers, carried_config, offset_same}
use Rattle.model.proofs.Ways.{Stored, Way, checked, no_base, no_writer, quiet, based, off, over, ran, way, AsRun, as_run}
use Rattle.its.specs.Promises.{Writes}
use Rattle.guarantees.specs.Actions.{done_in, passed_by}
use Rattle.guarantees.specs.Refusals.{at_entry, at_budget, at_command, given_at, IfRefused}
use Rattle.guarantees.specs.Kept.{RingKept, CommandsKept, StopsAt, RefusalKept}
use Rattle.guarantees.specs.Follows.{RingFollows, CommandsFollow, CommandRefused, OnlyStored, RefusalFollows}
use Rattle.guarantees.proofs.Reasons.{staying}
use Rattle.guarantees.proofs.Counted.{as_many}
use Rattle.guarantees.proofs.Remaining.{waiting_after}
use Rattle.guarantees.proofs.Kept.{ring_kept, commands_kept}
use Rattle.guarantees.proofs.Refused.{refusal_kept}
use Rattle.guarantees.proofs.Unsound.{refusal_same, unsound_answers_1}
use Rattle.guarantees.proofs.Holding.{base_quiet}

-- from a, d commands on in a queue of that size, which has room for more than d
counted : (a d size : ℕ) → a < size → command_size * d < size → distance a ((a + command_size * d) % size) size / command_size ≡ d
unfolding distance
counted a d size in-queue fewer =
    cases (ltb (a + command_size * d) size)
    (λ l. let here = mod-eq_of_lt (ltb-true (a + command_size * d) size l) in
    let on : a ≤ a + command_size * d = omega arith in
    rw (here, le-leb a (a + command_size * d) on) (omega arith))
    (λ l. let over = ltb-false (a + command_size * d) size l in
    let less : a + command_size * d - size < size = omega arith in
    let here = mod-eq-sub-mod over ∙ mod-eq_of_lt less in
    let back : a + command_size * d - size < a = omega arith in
    rw (here, lt-leb a (a + command_size * d - size) back) (omega arith))

-- What carrying out commands leaves of the configuration and of the registers.

same_config : {u v : ItsState} {g : List Command} {handed : List ItsAction} → CarriedOut u g handed v → v.config ≡ u.config
same_config nothing = refl
same_config (one_more {v = v} c x ok) = carried_config v x ok ∙ same_config c

-- one command on from the n-th is the next
next_offset : (s : ItsRegisters) (n : ℕ) → past_command (with_reader s (ring_offset s n)) ≡ with_reader s (ring_offset s (suc n))
next_offset s n =
    let same : s.creadr + command_size * n + command_size ≡ s.creadr + command_size * suc n = omega arith in
    ap (with_reader s) (mod-add-mod (s.creadr + command_size * n) (queue_size s.cbaser) command_size ∙ ap (λ a. a % queue_size s.cbaser) same)

passed_on : {u v : ItsState} {g : List Command} {handed : List ItsAction} → Stands u → CarriedOut u g handed v →
    v.registers ≡ with_reader u.registers (ring_offset u.registers (length g))
passed_on {u = u} stands nothing = ap (with_reader u.registers) (sym (offset_here u.registers stands))
passed_on {u = u} stands (one_more {v = v} {h = g} c x ok) =
    carried_registers v x ok ∙ (ap past_command (passed_on stands c) ∙ next_offset u.registers (length g))

-- where no command is carried out
none_on : {u v : ItsState} {g : List Command} {handed : List ItsAction} → g ≡ [] → CarriedOut u g handed v → (v ≡ u) × (handed ≡ [])
none_on e nothing = (refl, refl)
none_on e (one_more c x ok) = never true refl (cc)

-- What is stored: with a new base nothing runs; and where the queue is let run, base and CREADR are as before and the ring is sound.
module _ (w : Window) (row : List ItsAction) (u : ItsState) (offset width value : ℕ) where
  let_run : {s : RegisterWrite} {o : Outcome} → Way w row u offset width value s o → then_runs s ≡ true → Stored w row u offset width value s.registers
  let_run (checked why c) h = never true refl (sym h)
  let_run (no_base sound) h = never true refl (sym h)
  let_run (no_writer sound at) h = never true refl (sym h)
  let_run (quiet s g) h = never true refl (sym h)
  let_run (based s c k z) h = never true refl (sym h)
  let_run (off s g out) h = g
  let_run (over s g on more) h = g
  let_run (ran s g on within) h = g

module _ (w : Window) (row : List ItsAction) (u : ItsState) (offset width value : ℕ) (r : Written) (left : List ItsAction)
    (sound-ring : sound_unit u ≡ true → RingKept u (stores row u offset width value) r)
    (commands : CommandsKept w row u (stores row u offset width value) r left)
    (refusal : RefusalKept w u offset width value (stores row u offset width value) r)
    (unsound : sound_unit u ≡ false → r.answer ≡ write_refused Unsound 0 0 0 0) where
  abbrev s : RegisterWrite
  s = stores row u offset width value

  abbrev done : ℕ
  done = done_in r

  -- THE RING, where the stored ring is sound.
  module _ (ring : sound_ring s.registers ≡ true) where
    registers : r.unit.registers ≡ with_stalled (with_reader s.registers (ring_offset s.registers done)) r.unit.registers.stalled
    registers =
        ap (λ v. v.registers) commands.unit_left
        ∙ ap (λ g. with_stalled g r.unit.registers.stalled)
        (passed_on (reader_below s.registers ring) commands.carried ∙ ap (λ n. with_reader s.registers (ring_offset s.registers n)) commands.shown)

    reader : r.unit.registers.creadr ≡ ring_offset s.registers done
    reader = ap (λ z. z.creadr) registers

  module _ (sound : sound_unit u ≡ true) where
    kept : RingKept u s r
    kept = sound-ring sound

    -- what is stored
    run : AsRun w row u offset width value s (write w row u offset width value)
    run = as_run w row u offset width value sound (way w row u offset width value)

    -- where no base is stored, that is the advance from the old CREADR, by fewer commands than the queue has places for
    module _ (same : s.rebased ≡ false) where
      advance : r.unit.registers.creadr ≡ ring_offset u.registers done
      advance = reader run.ring ∙ offset_same w s.registers u.registers (run.same_base same) (run.same_reader same) done

      below : command_size * done < queue_size u.registers.cbaser
      below = rw (← (run.same_base same)) (omega (arith, kept.at_most, waiting_fewer s.registers run.ring))

      distance_done : done ≡ distance u.registers.creadr r.unit.registers.creadr (queue_size u.registers.cbaser) / command_size
      distance_done =
          rw advance
          (sym (counted u.registers.creadr done (queue_size u.registers.cbaser) (reader_below u.registers (and_right (sound_config u.config) _ sound)) below))

    module _ (b : s.rebased ≡ true) where
      base_none : done ≡ 0
      base_none = kept.not_run (base_quiet w row u offset width value (way w row u offset width value) b)

      base_reader : r.unit.registers.creadr ≡ 0
      base_reader =
          reader run.ring
          ∙ (ap (ring_offset s.registers) base_none
          ∙ (offset_here s.registers (reader_below s.registers run.ring) ∙ run.new_reader b))

    in_budget : done ≤ u.config.command_budget
    in_budget =
        cases (then_runs s)
        (λ runs. cases (may_run u.config s.registers)
        (λ on. cases (leb (waiting s.registers) u.config.command_budget)
        (λ l. let few = leb-true (waiting s.registers) u.config.command_budget l in omega (arith, kept.at_most))
        (λ l. let none : done ≡ 0 = ap (λ z. (write_numbers z.answer).done) (refusal.too_many runs on (leb-false _ _ l)) in omega arith))
        (λ out. omega (arith, kept.may_not out)))
        (λ idle. omega (arith, kept.not_run idle))

    ring_from : RingFollows u s r
    ring_from =
        record {
          registers = registers run.ring;
          advance = advance;
          done = distance_done;
          only = λ n l h. offset_once s.registers run.ring n done l kept.at_most (sym h ∙ reader run.ring);
          new_base = λ b. (base_none b, base_reader b);
          in_budget = in_budget;
        }

  -- THE COMMANDS.
  none_done : done ≡ 0 → (r.unit ≡ unit_stalled (with_registers u s.registers) r.unit.registers.stalled) × (left ≡ row)
  none_done zero-done =
      let no_command_lem : passed_by w u r ≡ [] = rw zero-done in
      let (unit, no-action) = none_on no_command_lem commands.carried in
      (commands.unit_left ∙ ap (λ v. unit_stalled v r.unit.registers.stalled) unit, commands.in_row ∙ rw no-action)

  left_config : r.unit.config ≡ u.config
  left_config = ap (λ v. v.config) commands.unit_left ∙ same_config commands.carried

  commands_from : CommandsFollow w row u s r left
  commands_from = record { config = left_config; as_many = commands.handed_over ∙ as_many commands.carried; none_done = none_done }

  -- A REFUSAL.

  -- after 5
  over_budget : IfRefused r BudgetExceeded (λ opcode at n k. OnlyStored u s r)
  over_budget opcode at n k h =
      let (runs, on, more) = refusal.only_then opcode at n k h in
      let told = refusal.too_many runs on more in
      let stored = let_run w row u offset width value (way w row u offset width value) runs in
      told ∙ ap (λ a. record { unit = with_registers u s.registers; answer = write_refused BudgetExceeded 0 a 0 0 }) stored.reader

  -- a refusal that is no command's
  zeros : {why' : Refusal} {told : ℕ} (why : Refusal) → r.answer ≡ write_refused why' 0 told 0 0 → IfRefused r why (λ opcode at n k. (opcode ≡ 0) × (n ≡ 0) × (k ≡ 0) × (left ≡ row))
  zeros {why' = why'} {told = told} why same opcode at n k h =
      let both : write_refused why opcode at n k ≡ write_refused why' 0 told 0 0 = sym h ∙ same in (
        ap (λ a. (write_numbers a).opcode) both,
        ap (λ a. (write_numbers a).done) both,
        ap (λ a. (write_numbers a).actions) both,
        (none_done (ap (λ a. (write_numbers a).done) same)).1,
      )

  entry : (why : Refusal) → given_at why ≡ at_entry → IfRefused r why (λ opcode at n k. (opcode ≡ 0) × (n ≡ 0) × (k ≡ 0) × (left ≡ row))
  entry why place opcode at n k h = zeros why (ap (λ z. z.answer) (refusal.before_all why place opcode at n k h)) opcode at n k h

  elsewhere : (why : Refusal) → (given_at why ≡ at_command → ⊥) → IfRefused r why (λ opcode at n k. (opcode ≡ 0) × (n ≡ 0) × (k ≡ 0) × (left ≡ row))
  elsewhere Unsound other opcode at n k h = entry Unsound refl opcode at n k h
  elsewhere RowTooShort other opcode at n k h = entry RowTooShort refl opcode at n k h
  elsewhere InvalidAccess other opcode at n k h = entry InvalidAccess refl opcode at n k h
  elsewhere Identification other opcode at n k h = entry Identification refl opcode at n k h
  elsewhere BaseZero other opcode at n k h = entry BaseZero refl opcode at n k h
  elsewhere WriterRefused other opcode at n k h = zeros WriterRefused (ap (λ z. z.answer) (refusal.writer opcode at n k h).1) opcode at n k h
  elsewhere OpcodeUnknown other opcode at n k h = absurd (other refl)
  elsewhere LpiOutOfRange other opcode at n k h = absurd (other refl)
  elsewhere DeviceUnmapped other opcode at n k h = absurd (other refl)
  elsewhere EventBeyondBits other opcode at n k h = absurd (other refl)
  elsewhere CollectionUnmapped other opcode at n k h = absurd (other refl)
  elsewhere PairUnmapped other opcode at n k h = absurd (other refl)
  elsewhere ProcessorUnlisted other opcode at n k h = absurd (other refl)
  elsewhere DeviceTooLarge other opcode at n k h = absurd (other refl)
  elsewhere BudgetExceeded other opcode at n k h =
      let limit = refusal.only_then opcode at n k h in
      zeros BudgetExceeded (ap (λ z. z.answer) (refusal.too_many limit.0 limit.1 limit.2)) opcode at n k h
  elsewhere NotInWindow other opcode at n k h = absurd (other refl)
  elsewhere ResourceNotFound other opcode at n k h = absurd (other refl)
  elsewhere TableFull other opcode at n k h = absurd (other refl)
  elsewhere LineDoesNotFit other opcode at n k h = absurd (refusal.never_11 opcode at n k h)

  -- a command's refusal
  module _ (why : Refusal) (place : given_at why ≡ at_command) (opcode at n k : ℕ) (h : r.answer ≡ write_refused why opcode at n k) where
    stop : StopsAt w s r why opcode at
    stop = refusal.at_a_command why place opcode at n k h

    number : done ≡ n
    number = ap (λ a. (write_numbers a).done) h

    stored : Stored w row u offset width value s.registers
    stored = let_run w row u offset width value (way w row u offset width value) stop.lets_run

    -- an unsound unit answers 1
    was_sound : sound_unit u ≡ true
    was_sound =
        cases (sound_unit u) (λ t. t)
        (λ f. let one : write_refused why opcode at n k ≡ write_refused Unsound 0 0 0 0 =
        sym h ∙ unsound f in
        let same : Unsound ≡ why = sym (refusal_same one) in
        let two : at_entry ≡ at_command = ap given_at same ∙ place in
        never true refl (cc))

    remain : waiting r.unit.registers ≡ waiting s.registers - done
    unfolding waiting
    remain = ap waiting (registers stored.ring) ∙ waiting_after s.registers stored.ring done (kept was_sound).at_most

    may_before : may_run u.config s.registers ≡ true
    may_before = ap (λ k. may_run k s.registers) (sym left_config) ∙ stop.may

    within : waiting s.registers ≤ u.config.command_budget
    within =
        cases (leb (waiting s.registers) u.config.command_budget) (λ l. leb-true (waiting s.registers) u.config.command_budget l)
        (λ l. let told = refusal.too_many stop.lets_run may_before (leb-false (waiting s.registers) u.config.command_budget l) in
        let five : write_refused why opcode at n k ≡ write_refused BudgetExceeded 0 s.registers.creadr 0 0 = sym h ∙ ap (λ z. z.answer) told in
        let same : BudgetExceeded ≡ why = sym (refusal_same five) in
        let two : at_budget ≡ at_command = ap given_at same ∙ place in
        never true refl (cc))

    command_refused : CommandRefused w u s r opcode n
    command_refused =
        record {
          sound = was_sound;
          reader =
              reader stored.ring
              ∙ (offset_same w s.registers u.registers stored.base stored.reader done ∙ ap (ring_offset u.registers) number);
          waited = omega (arith, number, remain, stop.waits);
          within = within;
          remain = rw (← number) remain;
          may_still = ap (λ g. may_run r.unit.config (with_stalled g false)) (registers stored.ring) ∙ may_cleared r.unit.config s.registers _ stop.may;
          opcode_read = (staying r.unit w why opcode stop.fails).1;
        }

  refusal_from : RefusalFollows w row u s r left
  refusal_from = record { elsewhere = elsewhere; by_5 = over_budget; of_a_command = command_refused }

-- THE THEOREMS.
module _ (w : Window) (row : List ItsAction) (u : ItsState) (offset width value : ℕ) (r : Written) (left : List ItsAction)
    (e : Writes w row u offset width value r left) where
  unsound_answer : sound_unit u ≡ false → r.answer ≡ write_refused Unsound 0 0 0 0
  unsound_answer f = ap (λ z. z.answer) ((unsound_answers_1 u f).writes w row offset width value r left e).0

  pub ring_follows : sound_unit u ≡ true → RingFollows u (stores row u offset width value) r
  ring_follows =
      ring_from w row u offset width value r left (ring_kept w row u offset width value r left e) (commands_kept w row u offset width value r left e)
      (refusal_kept w row u offset width value r left e) unsound_answer

  pub commands_follow : CommandsFollow w row u (stores row u offset width value) r left
  commands_follow =
      commands_from w row u offset width value r left (ring_kept w row u offset width value r left e) (commands_kept w row u offset width value r left e)
      (refusal_kept w row u offset width value r left e) unsound_answer

  pub refusal_follows : RefusalFollows w row u (stores row u offset width value) r left
  refusal_follows =
      refusal_from w row u offset width value r left (ring_kept w row u offset width value r left e) (commands_kept w row u offset width value r left e)
      (refusal_kept w row u offset width value r left e) unsound_answer
