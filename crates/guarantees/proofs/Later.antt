-- AFTER A WRITE THAT WAS REFUSED BECAUSE OF THE COMMAND AT CREADR a later write tries it again, in strict one with Retry; and with the same window it is refused
-- in the same way.
-- Assumes nothing.
use Prim.Native.Nat.{ℕ, ◌+◌, ◌≤◌}
use native.Mathlib.Omega.{arith}
use mathlib.Core.Path.{◌≡◌, refl, sym, ap, ap₂, ◌∙◌}
use mathlib.Core.Bool.{true, false}
use mathlib.Core.List.{List}
use lib.Dec.{leb}
use borrow.Author.Tests.{leb-true, leb-false}
use Rattle.model.specs.declared.ItsConfig.{ItsConfig}
use Rattle.model.specs.declared.ItsRegisters.{ItsRegisters}
use Rattle.model.specs.declared.ItsState.{ItsState}
use Rattle.model.specs.declared.ItsAction.{ItsAction}
use Rattle.model.specs.declared.Refusal.{Refusal}
use Rattle.model.specs.declared.Refusal.TheVariants.{BudgetExceeded}
use Rattle.model.specs.declared.Written.{Written}
use Rattle.model.specs.Answer.{write_refused}
use Rattle.model.specs.Arm.{GITS_CTLR, GITS_CWRITER}
use Rattle.model.specs.With.{with_registers, with_stalled, with_writer, unit_stalled}
use Rattle.model.specs.Profile.{strict, is_strict, profile_of}
use Rattle.model.specs.Config.{sound_unit}
use Rattle.model.specs.Queue.{Window, waiting, stall, held, may_run}
use Rattle.model.specs.Writing.{going, then_runs}
use Rattle.model.specs.Entry.{stores}
use Rattle.model.proofs.Cases.{cases}
use Rattle.model.proofs.Stalled.{is_taken}
use Rattle.model.proofs.Ways.{way}
use Rattle.model.proofs.Profiles.{is_strict_lem, is_base, may_enabled, may_base}
use Rattle.its.specs.Promises.{Writes}
use Rattle.guarantees.specs.Refusals.{at_command, given_at, IfRefused}
use Rattle.guarantees.specs.Stalled.{accepted}
use Rattle.guarantees.specs.Kept.{StopsAt}
use Rattle.guarantees.specs.Follows.{CommandRefused}
use Rattle.guarantees.specs.Retries.{Tries, RefusedAgain, TriedLater}
use Rattle.guarantees.proofs.Kept.{ring_kept}
use Rattle.guarantees.proofs.Refused.{refusal_kept}
use Rattle.guarantees.proofs.Follows.{commands_follow, refusal_follows}
use Rattle.guarantees.proofs.Frames.{ctlr_same, retry_same, retry_goes}
use Rattle.guarantees.proofs.Again.{tries_again}
use Rattle.guarantees.proofs.Stalled.{accepted_by, stalled_kept, stalled_stores}

-- Stalled is no part of what waits
waiting_same : (r : ItsRegisters) → waiting (with_stalled r false) ≡ waiting r
unfolding waiting
waiting_same r = refl

-- nor does it matter to the queue whether it may run where CWRITER stands
may_writer : (k : ItsConfig) (r : ItsRegisters) (writer : ℕ) → may_run k (with_stalled (with_writer r writer) false) ≡ may_run k (with_stalled r false)
unfolding may_run held
may_writer k r writer = refl

-- in base nothing is stalled; and in strict a stalled unit is stalled again by a refused command
stall_base : (u : ItsState) → is_strict u.config.profile ≡ false → stall u ≡ u
unfolding stall
stall_base u b = rw b

stall_again : (u : ItsState) → is_strict u.config.profile ≡ true → u.registers.stalled ≡ true → stall (with_registers u (with_stalled u.registers false)) ≡ u
unfolding stall
stall_again u y on = rw y (ap (λ b. unit_stalled u b) (sym on))

-- THE THEOREM.
module _ (w : Window) (row : List ItsAction) (u : ItsState) (offset width value : ℕ) (v : Written) (left : List ItsAction) (e : Writes w row u offset width value v left)
    (why : Refusal) (place : given_at why ≡ at_command) (opcode at done actions : ℕ) (h : v.answer ≡ write_refused why opcode at done actions) where
  p : StopsAt w (stores row u offset width value) v why opcode at
  p = (refusal_kept w row u offset width value v left e).at_a_command why place opcode at done actions h

  q : CommandRefused w u (stores row u offset width value) v opcode done
  q = (refusal_follows w row u offset width value v left e).of_a_command why place opcode at done actions h

  same_config : v.unit.config ≡ u.config
  same_config = (commands_follow w row u offset width value v left e).config

  sound : sound_unit v.unit ≡ true
  sound = (ring_kept w row u offset width value v left e q.sound).sound

  few : waiting v.unit.registers ≤ v.unit.config.command_budget
  few = rw same_config (omega (arith, q.remain, q.within))

  stalled : profile_of v.unit.config ≡ strict → v.unit.registers.stalled ≡ true
  stalled y = (stalled_kept w row u offset width value v left e).at_a_command (ap profile_of (sym same_config) ∙ y) why place opcode at done actions h

  -- a write that stores s, of which nothing is left once the command has been refused again
  again_refused : (row' : List ItsAction) (offset' width' value' : ℕ) (r : Written) (left' : List ItsAction) → Writes w row' v.unit offset' width' value' r left' → (s : ItsRegisters) →
      stores row' v.unit offset' width' value' ≡ going s → may_run v.unit.config s ≡ true → waiting s ≡ waiting v.unit.registers → stall (with_registers v.unit s) ≡ v.unit →
      RefusedAgain v why opcode at row' r left'
  again_refused row' offset' width' value' r left' e' s same may waits back =
      let t : Tries v.unit (going s) = record { lets_run = refl; may = may; waits = rw waits p.waits; within = rw waits few } in
      let (answer, row_same) = (tries_again w row' v.unit offset' width' value' r left' e' (rw same t)).refuses why opcode p.fails in (
        answer ∙ (ap₂ (λ z a. record { unit = stall (with_registers v.unit z.registers); answer = write_refused why opcode a 0 0 }) same (sym p.offset)
            ∙ ap (λ z. record { unit = z; answer = write_refused why opcode at 0 0 }) back),
        row_same,
      )

  -- a later write of CWRITER: accepted or not, as what it stores says; and where it is not answered with 5, no more wait than the budget
  module _ (w' : Window) (row' : List ItsAction) (width' value' : ℕ) (r : Written) (left' : List ItsAction) (e' : Writes w' row' v.unit GITS_CWRITER width' value' r left') where
    accepted_stores : accepted r.answer ≡ true → is_taken (stores row' v.unit GITS_CWRITER width' value').answer ≡ true
    accepted_stores t =
        sym (accepted_by w' row' v.unit GITS_CWRITER width' value' (way w' row' v.unit GITS_CWRITER width' value')) ∙ (ap (λ z. accepted z.answer) (sym e'.answer) ∙ t)

    not_over : then_runs (stores row' v.unit GITS_CWRITER width' value') ≡ true → may_run v.unit.config (stores row' v.unit GITS_CWRITER width' value').registers ≡ true →
        IfRefused r BudgetExceeded (λ opcode at done actions. ⊥) → waiting (stores row' v.unit GITS_CWRITER width' value').registers ≤ v.unit.config.command_budget
    not_over runs may no-5 =
        let n = waiting (stores row' v.unit GITS_CWRITER width' value').registers in
        let m = v.unit.config.command_budget in
        cases (leb n m) (λ l. leb-true n m l)
        (λ l. absurd (no-5 _ _ _ _ (ap (λ z. z.answer) ((refusal_kept w' row' v.unit GITS_CWRITER width' value' r left' e').too_many runs may (leb-false n m l)))))

  pub tried_later : TriedLater w v why opcode at
  tried_later =
      record {
        again = λ w' row' offset' width' value' r left' e' t. tries_again w' row' v.unit offset' width' value' r left' e' t;
        same = λ b row' value' r left' e' room enabling.
            let in_base = is_base v.unit.config b in
            let may = sym (may_base v.unit.config v.unit.registers false in_base) ∙ q.may_still in
            let same = ctlr_same v.unit row' sound room value' (may_enabled v.unit.config v.unit.registers may) enabling in
            again_refused row' GITS_CTLR 4 value' r left' e' v.unit.registers same may refl (stall_base v.unit in_base);
        waits = λ y w' row' offset' width' value' r left' e' runs no_retry. stalled_stores w' row' v.unit offset' width' value' r left' e' y (stalled y) runs no_retry;
        by_retry = λ y w' row' width' value' r left' e' bit taken no-5 some_wait.
            let goes = retry_goes v.unit row' width' value' (is_strict_lem v.unit.config y) bit (accepted_stores w' row' width' value' r left' e' taken) in
            let may : may_run v.unit.config (stores row' v.unit GITS_CWRITER width' value').registers ≡ true =
            ap (λ s. may_run v.unit.config s.registers) goes ∙ (may_writer v.unit.config v.unit.registers _ ∙ q.may_still) in
            let runs : then_runs (stores row' v.unit GITS_CWRITER width' value') ≡ true = ap then_runs goes in
            tries_again w' row' v.unit GITS_CWRITER width' value' r left' e'
            (record { lets_run = runs; may = may; waits = some_wait; within = not_over w' row' width' value' r left' e' runs may no-5 });
        retried = λ y row' r left' e' room.
            let strictly = is_strict_lem v.unit.config y in
            again_refused row' GITS_CWRITER 8 (v.unit.registers.cwriter + 1) r left' e' (with_stalled v.unit.registers false)
            (retry_same v.unit row' sound room strictly) q.may_still (waiting_same v.unit.registers) (stall_again v.unit strictly (stalled y));
      }
