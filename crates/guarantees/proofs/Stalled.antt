-- STALLED (02, A4): what a write makes of it, by the way that it goes; over runs of accesses and of calls; where nothing runs; and what CREADR shows.
-- Assumes nothing.
use Rattle.std.specs.Prelude.{None, Ok, Option, Some, Err}
use Prim.Native.Nat.{ℕ, ◌+◌, ◌/◌, ◌%◌, ◌^◌, ◌<◌}
use native.Mathlib.Omega.{arith}
use mathlib.Core.Path.{◌≡◌, refl, sym, ap, ap₂, subst, ◌∙◌}
use mathlib.Core.Bool.{Bool, true, false, ◌&&◌, ◌||◌, not}
use mathlib.Core.List.{List, [], ◌∷◌}
use mathlib.Core.Logic.{◌⊎◌, inl, inr, ◌↔◌}
use lib.ListN.{length, get_or}
use lib.Dec.{eqb}
use borrow.Author.Tests.{eqb-true}
use Rattle.model.specs.declared.ItsConfig.{ItsConfig}
use Rattle.model.specs.declared.ItsRegisters.{ItsRegisters}
use Rattle.model.specs.declared.ItsState.{ItsState}
use Rattle.model.specs.declared.ItsAction.{ItsAction}
use Rattle.model.specs.declared.Command.{Command}
use Rattle.model.specs.declared.RegisterWrite.{RegisterWrite}
use Rattle.model.specs.declared.Refusal.{Refusal}
use Rattle.model.specs.declared.Refusal.TheVariants.{Unsound, RowTooShort, InvalidAccess, Identification, BaseZero, WriterRefused, BudgetExceeded, NotInWindow}
use Rattle.model.specs.declared.Refusal.TheVariants.{OpcodeUnknown, LpiOutOfRange, DeviceUnmapped, EventBeyondBits, CollectionUnmapped, PairUnmapped, ProcessorUnlisted, DeviceTooLarge, ResourceNotFound, TableFull, LineDoesNotFit}
use Rattle.model.specs.declared.Written.{Written}
use Rattle.model.specs.Answer.{ReadAnswer, WriteAnswer, write_refused}
use Rattle.model.specs.Choose.{if_found, is_found}
use Rattle.model.specs.Arm.{◌of◌, CBASER_Valid, CWRITER_Retry, GITS_CWRITER, GITS_CREADR}
use Rattle.model.specs.Refusal.{number_of, write_numbers}
use Rattle.model.specs.With.{with_registers, unit_stalled}
use Rattle.model.specs.Profile.{strict, is_strict, profile_of}
use Rattle.model.specs.Config.{sound_config, sound_ring, sound_unit}
use Rattle.model.specs.Queue.{Window, waiting, Stop, Ran, run, stall, held}
use Rattle.model.specs.Register.{one_if, is_stalled, creadr_value, read_part}
use Rattle.model.specs.Access.{check_read}
use Rattle.model.specs.Entry.{Outcome, configure, stores, read_from, read}
use Rattle.model.specs.Writing.{then_runs}
use Rattle.model.proofs.Cases.{cases, never, and_left, and_right}
use Rattle.model.proofs.Profiles.{or_on, is_strict_lem, is_base, may_clear, creadr_plain}
use Rattle.model.proofs.Registers.{unread_reads, unread_translates, unread_writes, unread_made}
use Rattle.model.proofs.Retry.{reader_whole}
use Rattle.model.proofs.Ring.{reader_below}
use Rattle.model.proofs.Runs.{RunKeeps, run_keeps}
use Rattle.model.proofs.Answers.{answerFor, halted-answer}
use Rattle.model.proofs.Stalled.{is_taken, stored_stalled_lem, base_stored, clears_when}
use Rattle.model.proofs.Ways.{Stored, Way, checked, no_base, no_writer, quiet, based, off, over, ran, way}
use Rattle.its.specs.Promises.{Reads, Writes}
use Rattle.guarantees.specs.Refusals.{at_entry, at_cwriter, at_command, given_at, IfRefused}
use Rattle.guarantees.specs.Profiles.{OnlyStores}
use Rattle.guarantees.specs.MappingsInForce.{Led, begins, a_read, a_translate, a_write}
use Rattle.guarantees.specs.CallsInForce.{LedByCalls, by_its_configure, by_its_read, by_its_translate, by_its_write}
use Rattle.guarantees.specs.Stalled.{of_command, stopped, afterwards, accepted, with_retry, stores_base, Mark, stops, clears as clears-it, leaves, mark_with, mark_by, mark_of, marked, StalledKept, trail, StoppedSince, just_now, still, stopped_told, accepted_told, mark_told, trail_told, StalledShown, Unread}
use Rattle.guarantees.proofs.Reasons.{Only, Entries, write_only, staying}
use Rattle.guarantees.proofs.Refused.{refusal_kept}
use Rattle.guarantees.proofs.AsWrites.{call_writes}
use Rattle.guarantees.proofs.InForce.{mappings_in_force}
use Rattle.guarantees.proofs.ByCalls.{led_by_calls}
use Rattle.guarantees.proofs.Holding.{held_by_way, base_quiet}
use Rattle.guarantees.proofs.Frames.{creadr_taken, creadr_high_taken, at_creadr, at_creadr_high}
use Rattle.guarantees.proofs.Alike.{answer_alike}

-- 7 is the only refusal at CWRITER
by_place : (why : Refusal) → given_at why ≡ at_cwriter → WriterRefused ≡ why
by_place Unsound h = never true refl (cc)
by_place RowTooShort h = never true refl (cc)
by_place InvalidAccess h = never true refl (cc)
by_place Identification h = never true refl (cc)
by_place BaseZero h = never true refl (cc)
by_place WriterRefused h = refl
by_place BudgetExceeded h = never true refl (cc)
by_place NotInWindow h = never true refl (cc)
by_place OpcodeUnknown h = never true refl (cc)
by_place LpiOutOfRange h = never true refl (cc)
by_place DeviceUnmapped h = never true refl (cc)
by_place EventBeyondBits h = never true refl (cc)
by_place CollectionUnmapped h = never true refl (cc)
by_place PairUnmapped h = never true refl (cc)
by_place ProcessorUnlisted h = never true refl (cc)
by_place DeviceTooLarge h = never true refl (cc)
by_place ResourceNotFound h = never true refl (cc)
by_place TableFull h = never true refl (cc)
by_place LineDoesNotFit h = never true refl (cc)

-- ONE WRITE.
module _ (w : Window) (row : List ItsAction) (u : ItsState) (offset width value : ℕ) where
  -- A run of what waits: by why it stopped.
  module _ (s : ItsRegisters) (g : Stored w row u offset width value s) where
    abbrev q : Ran
    q = run w (waiting s) (with_registers u s)

    kept : RunKeeps w (waiting s) (with_registers u s) q
    kept = run_keeps w (waiting s) (with_registers u s) (reader_below s g.ring)

    of_command_lem : (o : Option Stop) → q.stopped ≡ o → (z : Stop) → o ≡ Some z → given_at z.refusal ≡ at_command
    of_command_lem o e z h = (staying q.unit w z.refusal z.opcode (kept.refused z (e ∙ h))).0

    accepted_for : (o : Option Stop) → ((z : Stop) → o ≡ Some z → given_at z.refusal ≡ at_command) → accepted (answerFor q o) ≡ true
    accepted_for None h = refl
    accepted_for (Some z) h = rw (h z refl)

    stopped_for : (o : Option Stop) → ((z : Stop) → o ≡ Some z → given_at z.refusal ≡ at_command) → stopped (answerFor q o) ≡ is_found o
    stopped_for None h = refl
    stopped_for (Some z) h = rw (h z refl)

    stays : q.unit.registers.stalled ≡ s.stalled
    stays = ap (λ r. r.stalled) kept.registers

    bit_for : is_strict u.config.profile ≡ true → (o : Option Stop) → (if_found o (λ z. stall q.unit) q.unit).registers.stalled ≡ (is_found o || s.stalled)
    unfolding stall
    bit_for y None = stays
    bit_for y (Some z) = rw (kept.config, y)

    base_for : is_strict u.config.profile ≡ false → (o : Option Stop) → (if_found o (λ z. stall q.unit) q.unit).registers.stalled ≡ s.stalled
    unfolding stall
    base_for n None = stays
    base_for n (Some z) = rw (kept.config, n) stays

  -- accepted or not, as the answer says and as what is stored says
  pub accepted_by : {s : RegisterWrite} {o : Outcome} → Way w row u offset width value s o → accepted o.written.answer ≡ is_taken s.answer
  accepted_by (checked why c) =
      let place : given_at why ≡ at_entry = subst (Only Entries) c (write_only u (length row) offset width) in
      rw place
  accepted_by (no_base sound) = refl
  accepted_by (no_writer sound at) = refl
  accepted_by (quiet s g) = refl
  accepted_by (based s c k z) = refl
  accepted_by (off s g out) = refl
  accepted_by (over s g on more) = refl
  accepted_by (ran s g on within) = ap accepted (halted-answer (q s g)) ∙ accepted_for s g (q s g).stopped (of_command_lem s g (q s g).stopped refl)

  -- in strict a command sets the bit, and else it is as it was stored
  bit_by : is_strict u.config.profile ≡ true → {s : RegisterWrite} {o : Outcome} → Way w row u offset width value s o →
      o.written.unit.registers.stalled ≡ (stopped o.written.answer || s.registers.stalled)
  bit_by y (checked why c) =
      let place : given_at why ≡ at_entry = subst (Only Entries) c (write_only u (length row) offset width) in
      rw place
  bit_by y (no_base sound) = refl
  bit_by y (no_writer sound at) = refl
  bit_by y (quiet s g) = refl
  bit_by y (based s c k z) = refl
  bit_by y (off s g out) = refl
  bit_by y (over s g on more) = refl
  bit_by y (ran s g on within) =
      bit_for s g y (q s g).stopped
      ∙ ap (λ b. b || s.stalled) (sym (ap stopped (halted-answer (q s g)) ∙ stopped_for s g (q s g).stopped (of_command_lem s g (q s g).stopped refl)))

  base_by : is_strict u.config.profile ≡ false → {s : RegisterWrite} {o : Outcome} → Way w row u offset width value s o → o.written.unit.registers.stalled ≡ s.registers.stalled
  base_by n (checked why c) = refl
  base_by n (no_base sound) = refl
  base_by n (no_writer sound at) = refl
  base_by n (quiet s g) = refl
  base_by n (based s c k z) = refl
  base_by n (off s g out) = refl
  base_by n (over s g on more) = refl
  base_by n (ran s g on within) = base_for s g n (q s g).stopped

  -- what the mark says of the bit
  by_mark : (stop taken among stalled : Bool) → (stop || (not (taken && among) && stalled)) ≡ marked (mark_with stop (taken && among)) stalled
  by_mark true taken among stalled = refl
  by_mark false true true stalled = refl
  by_mark false true false stalled = refl
  by_mark false false among stalled = refl

  -- THE THEOREM.
  module _ (r : Written) (left : List ItsAction) (e : Writes w row u offset width value r left) where
    abbrev s : RegisterWrite
    s = stores row u offset width value

    strict_bit : is_strict u.config.profile ≡ true → r.unit.registers.stalled ≡ marked (mark_of u offset value r.answer) u.registers.stalled
    strict_bit y =
        let y-way = way w row u offset width value in
        let stored : s.registers.stalled ≡ (not (accepted r.answer && (with_retry offset value || stores_base u offset)) && u.registers.stalled) =
        stored_stalled_lem u offset width value row
        ∙ rw (y, clears_when u offset width value row, ← (accepted_by y-way), ap (λ z. z.answer) e.answer) refl in
        ap (λ z. z.unit.registers.stalled) e.answer
        ∙ (bit_by y y-way
        ∙ (ap (λ z. stopped z.answer || s.registers.stalled) (sym e.answer)
        ∙ (ap (λ b. stopped r.answer || b) stored
        ∙ by_mark (stopped r.answer) (accepted r.answer) (with_retry offset value || stores_base u offset) u.registers.stalled)))

    pub base_bit : is_strict u.config.profile ≡ false → r.unit.registers.stalled ≡ u.registers.stalled
    base_bit n = ap (λ z. z.unit.registers.stalled) e.answer ∙ (base_by n (way w row u offset width value) ∙ base_stored u offset width value row n)

    pub stalled_kept : StalledKept u offset value r
    stalled_kept =
        let kept = refusal_kept w row u offset width value r left e in
        record {
          if_strict = λ y. strict_bit (is_strict_lem u.config y);
          in_base = λ b. base_bit (is_base u.config b);
          at_the_entry = λ why place opcode at done actions h. entry why place opcode at done actions h;
          over_budget = λ y opcode at done actions h.
              let (runs, on, more) = kept.only_then opcode at done actions h in
              ap (λ z. z.unit.registers.stalled) (kept.too_many runs on more) ∙ may_clear u.config s.registers (is_strict_lem u.config y) on;
          at_a_command = λ y why place opcode at done actions h.
              strict_bit (is_strict_lem u.config y) ∙ ap (λ a. marked (mark_of u offset value a) u.registers.stalled) h ∙ rw place refl;
        }
      where
        entry : (why : Refusal) → (given_at why ≡ at_entry) ⊎ (given_at why ≡ at_cwriter) → IfRefused r why (λ opcode at done actions. r.unit.registers.stalled ≡ u.registers.stalled)
        entry why (inl place) opcode at done actions h =
            ap (λ z. z.unit.registers.stalled) ((refusal_kept w row u offset width value r left e).before_all why place opcode at done actions h)
        entry why (inr place) opcode at done actions h =
            let same : WriterRefused ≡ why = by_place why place in
            ap (λ z. z.unit.registers.stalled) ((refusal_kept w row u offset width value r left e).writer opcode at done actions (h ∙ ap (λ y. write_refused y opcode at done actions) (sym same))).1

-- OVER RUNS.

-- the bit that a trail leaves, from a fresh unit
abbrev last_of : List Mark → Bool
last_of [] = false
last_of (m ∷ ms) = marked m (last_of ms)

to_since : (ms : List Mark) → last_of ms ≡ true → StoppedSince ms
to_since [] h = never true refl (sym h)
to_since (stops ∷ ms) h = just_now
to_since (clears-it ∷ ms) h = never true refl (sym h)
to_since (leaves ∷ ms) h = still (to_since ms h)

from_since : {ms : List Mark} → StoppedSince ms → last_of ms ≡ true
from_since just_now = refl
from_since (still z) = from_since z

-- a fresh unit is not stalled
pub fresh_clear : (k : ItsConfig) → (configure k).unit.registers.stalled ≡ false
unfolding configure
fresh_clear k = cases (sound_config k) (λ y. rw y) (λ n. rw n)

bit_led : {k : ItsConfig} {u : ItsState} {h : List Command} (l : Led k u h) → profile_of k ≡ strict → u.registers.stalled ≡ last_of (trail l)
bit_led {k} (begins c e a) y = ap (λ z. z.unit.registers.stalled) e.answer ∙ fresh_clear k
bit_led (a_read l offset width r e) y = bit_led l y
bit_led (a_translate l d e r q) y = bit_led l y
bit_led (a_write {u = u} l w row offset width value r left e) y =
    (stalled_kept w row u offset width value r left e).if_strict (ap profile_of (mappings_in_force l).config ∙ y)
    ∙ ap (marked (mark_of u offset value r.answer)) (bit_led l y)

pub stalled_exactly : {k : ItsConfig} {u : ItsState} {h : List Command} → (l : Led k u h) → profile_of k ≡ strict → (u.registers.stalled ≡ true) ↔ StoppedSince (trail l)
stalled_exactly l y =
    let bit = bit_led l y in
    (λ h. to_since (trail l) (sym bit ∙ h), λ z. bit ∙ from_since z)

-- By the numbers told: the place of a refusal is known by its number.
place_told : (why : Refusal) → (stopped_told (number_of why) ≡ of_command (given_at why)) × (accepted_told (number_of why) ≡ afterwards (given_at why))
place_told Unsound = (refl, refl)
place_told RowTooShort = (refl, refl)
place_told InvalidAccess = (refl, refl)
place_told Identification = (refl, refl)
place_told BaseZero = (refl, refl)
place_told WriterRefused = (refl, refl)
place_told BudgetExceeded = (refl, refl)
place_told NotInWindow = (refl, refl)
place_told OpcodeUnknown = (refl, refl)
place_told LpiOutOfRange = (refl, refl)
place_told DeviceUnmapped = (refl, refl)
place_told EventBeyondBits = (refl, refl)
place_told CollectionUnmapped = (refl, refl)
place_told PairUnmapped = (refl, refl)
place_told ProcessorUnlisted = (refl, refl)
place_told DeviceTooLarge = (refl, refl)
place_told ResourceNotFound = (refl, refl)
place_told TableFull = (refl, refl)
place_told LineDoesNotFit = (refl, refl)

mark_told_lem : (u : ItsState) (offset value : ℕ) (a : WriteAnswer) → mark_by (stopped_told (write_numbers a).refusal) (accepted_told (write_numbers a).refusal) u offset value ≡ mark_of u offset value a
mark_told_lem u offset value (Ok w) = refl
mark_told_lem u offset value (Err w) = ap₂ (λ x y. mark_by x y u offset value) (place_told w.refusal).0 (place_told w.refusal).1

bit_told : {k : ItsConfig} {u : ItsState} {h : List Command} (l : LedByCalls k u h) → profile_of k ≡ strict → u.registers.stalled ≡ last_of (trail_told l)
bit_told (by_its_configure ss ps e u r told c z) y = ap (λ v. v.registers.stalled) c.0 ∙ fresh_clear _
bit_told (by_its_read l offset width r told c) y = bit_told l y
bit_told (by_its_translate l device event r told c) y = bit_told l y
bit_told (by_its_write {u = u} l w row offset width value left after r told c) y =
    let (a, (x, t)) = call_writes w row u offset width value left after r told c in
    (stalled_kept w _ u offset width value _ _ x).if_strict (ap profile_of (mappings_in_force (led_by_calls l)).config ∙ y)
    ∙ (ap (λ m. marked m u.registers.stalled) (sym (ap (λ n. mark_by (stopped_told (get_or n 0 0)) (accepted_told (get_or n 0 0)) u offset value) t.0 ∙ mark_told_lem u offset value a))
    ∙ ap (marked (mark_told u offset value told)) (bit_told l y))

pub calls_stalled_exactly : {k : ItsConfig} {u : ItsState} {h : List Command} → (l : LedByCalls k u h) → profile_of k ≡ strict → (u.registers.stalled ≡ true) ↔ StoppedSince (trail_told l)
calls_stalled_exactly l y =
    let bit = bit_told l y in
    (λ h. to_since (trail_told l) (sym bit ∙ h), λ z. bit ∙ from_since z)

-- NOTHING RUNS in a stalled unit, but with Retry.
module _ (w : Window) (row : List ItsAction) (u : ItsState) (offset width value : ℕ) where
  pub stalled_stores : (r : Written) (left : List ItsAction) → Writes w row u offset width value r left → profile_of u.config ≡ strict → u.registers.stalled ≡ true →
      then_runs (stores row u offset width value) ≡ true → (offset ≡ GITS_CWRITER → CWRITER_Retry of value ≡ 0) → OnlyStores row u (stores row u offset width value) r left
  unfolding held
  stalled_stores r left e y stalled runs no_retry =
      let s = stores row u offset width value in
      let there = way w row u offset width value in
      let no_base : s.rebased ≡ false = cases s.rebased (λ b. never (then_runs s) runs (base_quiet w row u offset width value there b)) (λ n. n) in
      let no_bit : (eqb offset GITS_CWRITER && eqb (CWRITER_Retry of value) 1) ≡ false = cases (eqb offset GITS_CWRITER) (λ at. rw (at, no_retry (eqb-true offset GITS_CWRITER at))) (λ n. rw n) in
      let stays : s.registers.stalled ≡ true = stored_stalled_lem u offset width value row ∙ rw (is_strict_lem u.config y, no_base, runs, no_bit, stalled) refl in
      rw (e.answer, e.row_is)
      (held_by_way w row u offset width value there runs (rw (is_strict_lem u.config y, stays) (or_on (eqb (CBASER_Valid of s.registers.cbaser) 0))))

-- WHAT CREADR SHOWS.
module _ (u : ItsState) (sound : sound_unit u ≡ true) where
  ring_of : sound_ring u.registers ≡ true
  ring_of = and_right (sound_config u.config) _ sound

  read_so : (width : ℕ) → (width ≡ 8) ⊎ (width ≡ 4) → read u GITS_CREADR width ≡ Ok (read_part GITS_CREADR width (creadr_value u.config u.registers))
  unfolding read_from check_read
  read_so width h = rw (sound, creadr_taken u.config (and_left (sound_config u.config) _ sound) width h, at_creadr)

  -- its offset is below the size of the ring, so it lies in the low half
  part_so : (v : ℕ) → v < 2 ^ 32 → (width : ℕ) → (width ≡ 8) ⊎ (width ≡ 4) → read_part GITS_CREADR width v ≡ v
  unfolding read_part
  part_so v l width (inl e) = rw e
  part_so v l width (inr e) = rw e (omega (arith, l))

  small : u.registers.creadr + 1 < 2 ^ 32
  small = omega (arith, reader_below u.registers ring_of)

  shows : (v : ℕ) → v < 2 ^ 32 → creadr_value u.config u.registers ≡ v → (width : ℕ) → (width ≡ 8) ⊎ (width ≡ 4) → (r : ReadAnswer) → Reads u GITS_CREADR width r → r ≡ Ok v
  shows v l is width h r e = e.answer ∙ (read_so width h ∙ ap Ok (ap (read_part GITS_CREADR width) is ∙ part_so v l width h))

  value_strict : is_strict u.config.profile ≡ true → creadr_value u.config u.registers ≡ u.registers.creadr + one_if u.registers.stalled
  unfolding creadr_value
  value_strict y =
      cases u.registers.stalled
      (λ on. rw (y, on) (omega (arith, reader_whole u.registers ring_of)))
      (λ no. rw (y, no) (omega arith))

  bit_small : (b : Bool) → u.registers.creadr + one_if b < 2 ^ 32
  bit_small true = small
  bit_small false = omega (arith, small)

  -- the high half of what is below 2^32
  value_small : creadr_value u.config u.registers < 2 ^ 32
  unfolding creadr_value
  value_small =
      cases (is_stalled u.config u.registers) (λ on. rw on (omega (arith, small, reader_whole u.registers ring_of))) (λ no. rw no (omega (arith, small)))

  high_so : read u (GITS_CREADR + 4) 4 ≡ Ok 0
  unfolding read_from check_read read_part
  high_so =
      let None : creadr_value u.config u.registers / 2 ^ 32 % 2 ^ 32 ≡ 0 = omega (arith, value_small) in
      rw (sound, creadr_high_taken u.config (and_left (sound_config u.config) _ sound), at_creadr_high, None)

  pub stalled_shown : StalledShown u
  stalled_shown =
      record {
        if_strict = λ y. shows _ (bit_small u.registers.stalled) (value_strict (is_strict_lem u.config y));
        high = λ r e. e.answer ∙ high_so;
        in_base = λ b. shows _ (omega (arith, small)) (creadr_plain u.config u.registers (rw (is_base u.config b)));
      }

-- BASE DOES NOT READ IT.
pub stalled_unread : (u : ItsState) → u.config.profile ≡ 0 → (b : Bool) → Unread u b
stalled_unread u is b =
    answer_alike (λ v. unit_stalled v b) _ u (unread_reads u b is) (unread_translates u b)
    (λ w row offset width value _. unread_writes u b is w row offset width value)
    (λ w row offset width value _. unread_made u b is w row offset width value)
