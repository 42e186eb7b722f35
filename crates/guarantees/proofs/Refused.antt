-- WHAT A REFUSAL AND AN ANSWER KEEP, by the way that the write goes.
-- Assumes nothing.
use Prim.Native.Nat.{ℕ, ◌<◌}
use native.Mathlib.Omega.{arith}
use mathlib.Core.Path.{◌≡◌, refl, sym, ap, subst, ◌∙◌}
use mathlib.Core.Bool.{true}
use mathlib.Core.List.{List}
use lib.ListN.{length}
use Rattle.model.specs.declared.ItsState.{ItsState}
use Rattle.model.specs.declared.ItsAction.{ItsAction}
use Rattle.model.specs.declared.Register.TheVariants.{Cwriter}
use Rattle.model.specs.declared.RegisterWrite.{RegisterWrite}
use Rattle.model.specs.declared.Refusal.{Refusal}
use Rattle.model.specs.declared.Refusal.TheVariants.{BaseZero, WriterRefused, BudgetExceeded, LineDoesNotFit}
use Rattle.model.specs.declared.Written.{Written}
use Rattle.guarantees.proofs.Unsound.{refusal_same}
use Rattle.model.specs.Answer.{write_refused, write_taken}
use Rattle.model.specs.With.{with_registers}
use Rattle.model.specs.Queue.{Window, waiting, may_run}
use Rattle.model.specs.Register.{register_at}
use Rattle.model.specs.Entry.{Outcome, stores}
use Rattle.model.specs.Writing.{then_runs}
use Rattle.model.proofs.Cases.{never}
use Rattle.model.proofs.Ways.{Way, checked, no_base, no_writer, quiet, based, off, over, ran, way}
use Rattle.its.specs.Promises.{Writes}
use Rattle.guarantees.specs.Refusals.{at_entry, at_cwriter, at_budget, at_command, at_output, given_at, writer_by, IfRefused}
use Rattle.guarantees.specs.Kept.{StopsAt, RefusalKept}
use Rattle.guarantees.proofs.Reasons.{Only, Entries, write_only}
use Rattle.guarantees.proofs.Stopped.{stop_kind, stops, none_left}

module _ (w : Window) (row : List ItsAction) (u : ItsState) (offset width value : ℕ) where
  too_many : {s : RegisterWrite} {o : Outcome} → Way w row u offset width value s o → then_runs s ≡ true → may_run u.config s.registers ≡ true →
      u.config.command_budget < waiting s.registers →
      o.written ≡ record { unit = with_registers u s.registers; answer = write_refused BudgetExceeded 0 s.registers.creadr 0 0 }
  too_many (checked why c) runs on more = never true refl (sym runs)
  too_many (no_base sound) runs on more = never true refl (sym runs)
  too_many (no_writer sound at) runs on more = never true refl (sym runs)
  too_many (quiet s g) runs on more = never true refl (sym runs)
  too_many (based s c k z) runs on more = never true refl (sym runs)
  too_many (off s g out) runs on more = never (may_run u.config s) on out
  too_many (over s g _ _) runs on more = refl
  too_many (ran s g _ within) runs on more = absurd (omega (arith, within, more))

  only_then : {s : RegisterWrite} {o : Outcome} → Way w row u offset width value s o → IfRefused o.written BudgetExceeded (λ opcode at done actions.
      (then_runs s ≡ true) × (may_run u.config s.registers ≡ true) × (u.config.command_budget < waiting s.registers))
  only_then (checked why c) opcode at done actions h =
      let same : why ≡ BudgetExceeded = refusal_same h in
      let place : at_budget ≡ at_entry = rw same at (subst (Only Entries) c (write_only u (length row) offset width)) in
      never true refl (cc)
  only_then (no_base sound) opcode at done actions h = never true refl (let same = refusal_same h in cc)
  only_then (no_writer sound cwriter) opcode at done actions h = never true refl (let same = refusal_same h in cc)
  only_then (quiet s g) opcode at done actions h = never true refl (cc)
  only_then (based s c k z) opcode at done actions h = never true refl (cc)
  only_then (off s g out) opcode at done actions h = never true refl (cc)
  only_then (over s g on more) opcode at done actions h = (refl, on, more)
  only_then (ran s g on within) opcode at done actions h =
      let place : at_budget ≡ at_command = stop_kind w row u offset width value s g on within BudgetExceeded opcode at done actions h in
      never true refl (cc)

  -- a refusal that is given at another place than the budget and the commands
  before_all : {s : RegisterWrite} {o : Outcome} → Way w row u offset width value s o → (why : Refusal) → given_at why ≡ at_entry →
      IfRefused o.written why (λ opcode at done actions. o.written ≡ record { unit = u; answer = write_refused why 0 0 0 0 })
  before_all (checked why c) why' place opcode at done actions h = let same : why ≡ why' = refusal_same h in rw same
  before_all (no_base sound) why' place opcode at done actions h = let same : BaseZero ≡ why' = refusal_same h in rw same
  before_all (no_writer sound cwriter) why' place opcode at done actions h =
      let same : WriterRefused ≡ why' = refusal_same h in
      let two : at_cwriter ≡ at_entry = ap given_at same ∙ place in
      never true refl (cc)
  before_all (quiet s g) why' place opcode at done actions h = never true refl (cc)
  before_all (based s c k z) why' place opcode at done actions h = never true refl (cc)
  before_all (off s g out) why' place opcode at done actions h = never true refl (cc)
  before_all (over s g on more) why' place opcode at done actions h =
      let same : BudgetExceeded ≡ why' = refusal_same h in
      let two : at_budget ≡ at_entry = ap given_at same ∙ place in
      never true refl (cc)
  before_all (ran s g on within) why' place opcode at done actions h =
      let two : at_command ≡ at_entry = sym (stop_kind w row u offset width value s g on within why' opcode at done actions h) ∙ place in
      never true refl (cc)

  writer : {s : RegisterWrite} {o : Outcome} → Way w row u offset width value s o → IfRefused o.written WriterRefused (λ opcode at done actions.
      (register_at offset ≡ Cwriter) × (o.written ≡ record { unit = u; answer = write_refused WriterRefused 0 (writer_by u offset width value) 0 0 }))
  writer (checked why c) opcode at done actions h =
      let same : why ≡ WriterRefused = refusal_same h in
      let place : at_cwriter ≡ at_entry = rw same at (subst (Only Entries) c (write_only u (length row) offset width)) in
      never true refl (cc)
  writer (no_base sound) opcode at done actions h = never true refl (let same = refusal_same h in cc)
  writer (no_writer sound cwriter) opcode at done actions h = (cwriter, refl)
  writer (quiet s g) opcode at done actions h = never true refl (cc)
  writer (based s c k z) opcode at done actions h = never true refl (cc)
  writer (off s g out) opcode at done actions h = never true refl (cc)
  writer (over s g on more) opcode at done actions h = never true refl (let same = refusal_same h in cc)
  writer (ran s g on within) opcode at done actions h =
      let place : at_cwriter ≡ at_command = stop_kind w row u offset width value s g on within WriterRefused opcode at done actions h in
      never true refl (cc)

  never_11 : {s : RegisterWrite} {o : Outcome} → Way w row u offset width value s o → IfRefused o.written LineDoesNotFit (λ opcode at done actions. ⊥)
  never_11 (checked why c) opcode at done actions h =
      let same : why ≡ LineDoesNotFit = refusal_same h in
      let place : at_output ≡ at_entry = rw same at (subst (Only Entries) c (write_only u (length row) offset width)) in
      never true refl (cc)
  never_11 (no_base sound) opcode at done actions h = never true refl (let same = refusal_same h in cc)
  never_11 (no_writer sound cwriter) opcode at done actions h = never true refl (let same = refusal_same h in cc)
  never_11 (quiet s g) opcode at done actions h = never true refl (cc)
  never_11 (based s c k z) opcode at done actions h = never true refl (cc)
  never_11 (off s g out) opcode at done actions h = never true refl (cc)
  never_11 (over s g on more) opcode at done actions h = never true refl (let same = refusal_same h in cc)
  never_11 (ran s g on within) opcode at done actions h =
      let place : at_output ≡ at_command = stop_kind w row u offset width value s g on within LineDoesNotFit opcode at done actions h in
      never true refl (cc)

  -- a refusal that is given at a command
  at_a_command : {s : RegisterWrite} {o : Outcome} → Way w row u offset width value s o → (why : Refusal) → given_at why ≡ at_command →
      IfRefused o.written why (λ opcode at done actions. StopsAt w s o.written why opcode at)
  at_a_command (checked why c) why' place opcode at done actions h =
      let same : why ≡ why' = refusal_same h in
      let two : at_entry ≡ at_command = sym (subst (Only Entries) c (write_only u (length row) offset width)) ∙ (ap given_at same ∙ place) in
      never true refl (cc)
  at_a_command (no_base sound) why' place opcode at done actions h =
      let same : BaseZero ≡ why' = refusal_same h in
      let two : at_entry ≡ at_command = ap given_at same ∙ place in
      never true refl (cc)
  at_a_command (no_writer sound cwriter) why' place opcode at done actions h =
      let same : WriterRefused ≡ why' = refusal_same h in
      let two : at_cwriter ≡ at_command = ap given_at same ∙ place in
      never true refl (cc)
  at_a_command (quiet s g) why' place opcode at done actions h = never true refl (cc)
  at_a_command (based s c k z) why' place opcode at done actions h = never true refl (cc)
  at_a_command (off s g out) why' place opcode at done actions h = never true refl (cc)
  at_a_command (over s g on more) why' place opcode at done actions h =
      let same : BudgetExceeded ≡ why' = refusal_same h in
      let two : at_budget ≡ at_command = ap given_at same ∙ place in
      never true refl (cc)
  at_a_command (ran s g on within) why' place opcode at done actions h = stops w row u offset width value s g on within why' opcode at done actions h

  none_waits : {s : RegisterWrite} {o : Outcome} → Way w row u offset width value s o → (done actions : ℕ) → o.written.answer ≡ write_taken done actions →
      then_runs s ≡ true → may_run u.config s.registers ≡ true → o.written.unit.registers.creadr ≡ s.registers.cwriter
  none_waits (checked why c) done actions h runs on = never true refl (sym runs)
  none_waits (no_base sound) done actions h runs on = never true refl (sym runs)
  none_waits (no_writer sound at) done actions h runs on = never true refl (sym runs)
  none_waits (quiet s g) done actions h runs on = never true refl (sym runs)
  none_waits (based s c k z) done actions h runs on = never true refl (sym runs)
  none_waits (off s g out) done actions h runs on = never (may_run u.config s) on out
  none_waits (over s g _ _) done actions h runs on = never true refl (cc)
  none_waits (ran s g on within) done actions h runs _ = none_left w row u offset width value s g on within done actions h

  kept_by_way : {s : RegisterWrite} {o : Outcome} → Way w row u offset width value s o → RefusalKept w u offset width value s o.written
  kept_by_way y =
      record {
        before_all = before_all y;
        writer = writer y;
        too_many = too_many y;
        only_then = only_then y;
        at_a_command = at_a_command y;
        never_11 = never_11 y;
        taken = none_waits y;
      }

  -- THE THEOREM.
  pub refusal_kept : (r : Written) (left : List ItsAction) → Writes w row u offset width value r left → RefusalKept w u offset width value (stores row u offset width value) r
  refusal_kept r left e = rw e.answer (kept_by_way (way w row u offset width value))
