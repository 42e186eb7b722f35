-- A unit whose configuration or ring is unsound answers 1 to everything and stays as it is; so does the unit that a refused configuration gives, and
-- the one that stands where none was configured. A sound unit never answers 1.
-- Assumes nothing.
use Rattle.std.specs.Prelude.{if◌then◌else◌, Err, None, Ok, Option, Some}
use Prim.Native.Nat.{ℕ}
use mathlib.Core.Path.{◌≡◌, refl, sym, ap, subst, ◌∙◌}
use mathlib.Core.Bool.{Bool, true, false}
use mathlib.Core.List.{List}
use lib.ListN.{length}
use Rattle.model.specs.declared.Delivery.{Delivery}
use Rattle.model.specs.declared.ItsConfig.{ItsConfig}
use Rattle.model.specs.declared.ItsState.{ItsState}
use Rattle.model.specs.declared.ItsAction.{ItsAction}
use Rattle.model.specs.declared.RegisterWrite.{RegisterWrite}
use Rattle.model.specs.declared.Refusal.{Refusal}
use Rattle.model.specs.declared.WriteRefusal.{WriteRefusal}
use Rattle.model.specs.Answer.{Verdict, WriteAnswer, write_refused}
use Rattle.model.specs.declared.Refusal.TheVariants.{Unsound, ResourceNotFound}
use Rattle.model.specs.declared.Configured.{Configured}
use Rattle.model.specs.Choose.{if_found}
use Rattle.model.specs.Config.{sizes_in01, sound_config, sound_unit, fresh_unit, answers_no_unit}
use Rattle.model.specs.Step.{delivery_in}
use Rattle.model.specs.Queue.{Window}
use Rattle.model.specs.Access.{check_read, check_write}
use Rattle.model.specs.Writing.{register_write}
use Rattle.model.specs.Entry.{Outcome, configure, read_from, translate, write}
use Rattle.model.proofs.Cases.{never}
use Rattle.model.proofs.Ways.{Way, checked, no_base, no_writer, quiet, based, off, over, ran, way}
use Rattle.its.specs.Promises.{NoUnit, Configures}
use Rattle.guarantees.specs.Refusals.{at_entry, at_command, IfRefused, AnswersOne, NeverOne}
use Rattle.guarantees.proofs.Reasons.{Only, NotOne, sound_read, sound_only}
use Rattle.guarantees.proofs.Stopped.{stop_kind}
use Rattle.guarantees.proofs.Leaves.{read_reason}

pub unsound_answers_1 : (u : ItsState) → sound_unit u ≡ false → AnswersOne u
unfolding read_from translate write check_read check_write register_write
unsound_answers_1 u no-ring =
    record {
      reads = λ offset width r e. e.answer ∙ rw no-ring;
      translates = λ d e r q. q.answer ∙ rw no-ring;
      writes = λ w row offset width value r left e. (e.answer ∙ rw no-ring, e.row_is ∙ rw no-ring);
    }

no_unit_unsound : sound_unit answers_no_unit ≡ false
unfolding sizes_in01 sound_config
no_unit_unsound = refl

pub no_unit_answers_1 : (u : ItsState) → NoUnit u → AnswersOne u
no_unit_answers_1 u e = rw e (unsound_answers_1 answers_no_unit no_unit_unsound)

-- a configuration that is refused
refused_gives : (b : Bool) (k : ItsConfig) (c : Configured) →
    c ≡ (if b then record { unit = fresh_unit k; verdict = Ok tt } else record { unit = answers_no_unit; verdict = Err Unsound }) →
    (why : Refusal) → c.verdict ≡ Err why → (why ≡ Unsound) × NoUnit c.unit
refused_gives true k c e why h = let z : ◌≡◌ {A = Verdict} (Ok tt) (Err why) = sym (ap (λ x. x.verdict) e) ∙ h in never true refl (cc)
refused_gives false k c e why h =
    let z : Err Unsound ≡ Err why = sym (ap (λ x. x.verdict) e) ∙ h in
    ((cc), ap (λ x. x.unit) e)

pub refused_configuration : (k : ItsConfig) (c : Configured) → Configures k c → (why : Refusal) → c.verdict ≡ Err why → (why ≡ Unsound) × AnswersOne c.unit
unfolding configure
refused_configuration k c e why h =
    let (one, unset) = refused_gives (sound_config k) k c e.answer why h in
    (one, no_unit_answers_1 c.unit unset)

-- A sound unit never answers 1.

found_reason : (o : Option Delivery) → if_found o Ok (Err ResourceNotFound) ≡ Err Unsound → ⊥
found_reason None h = never true refl (cc)
found_reason (Some a) h = never true refl (cc)

-- two refused writes with one answer have one reason
refusals_same : {v w : WriteRefusal} → ◌≡◌ {A = WriteAnswer} (Err v) (Err w) → v ≡ w
refusals_same h = cc

pub refusal_same : {r s : Refusal} {o p a b d e k l : ℕ} → write_refused r o a d k ≡ write_refused s p b e l → r ≡ s
refusal_same h = ap (λ w. w.refusal) (refusals_same h)

write_reason : (w : Window) (row : List ItsAction) (u : ItsState) (offset width value : ℕ) {s : RegisterWrite} {o : Outcome} → Way w row u offset width value s o →
    sound_unit u ≡ true → IfRefused o.written Unsound (λ opcode at done actions. ⊥)
write_reason w row u offset width value (checked why c) sound opcode at done actions h = subst (Only NotOne) c (sound_only u (length row) offset width sound) (refusal_same h)
write_reason w row u offset width value (no_base _) sound opcode at done actions h = never true refl (let same = refusal_same h in cc)
write_reason w row u offset width value (no_writer _ cwriter) sound opcode at done actions h = never true refl (let same = refusal_same h in cc)
write_reason w row u offset width value (quiet s g) sound opcode at done actions h = never true refl (cc)
write_reason w row u offset width value (based s c k z) sound opcode at done actions h = never true refl (cc)
write_reason w row u offset width value (off s g out) sound opcode at done actions h = never true refl (cc)
write_reason w row u offset width value (over s g on more) sound opcode at done actions h = never true refl (let same = refusal_same h in cc)
write_reason w row u offset width value (ran s g on within) sound opcode at done actions h =
    let place : at_entry ≡ at_command = stop_kind w row u offset width value s g on within Unsound opcode at done actions h in
    never true refl (cc)

pub sound_never_1 : (u : ItsState) → sound_unit u ≡ true → NeverOne u
unfolding read_from translate
sound_never_1 u sound =
    record {
      reads = λ offset width r e h.
          read_reason NotOne (check_read u.config u.registers offset width) _ (sound_read u offset width sound) Unsound (sym e.answer ∙ h) refl;
      translates = λ d e r q h. found_reason (delivery_in u d e) (rw sound at (sym q.answer ∙ h));
      writes = λ w row offset width value r left e opcode at done actions h.
          write_reason w row u offset width value (way w row u offset width value) sound opcode at done actions (ap (λ z. z.answer) (sym e.answer) ∙ h);
    }
