-- What every access keeps, and what demand 3 says of a unit of which it is kept: from a configured unit, whatever accesses follow, the unit agrees with
-- the history of the commands carried out.
-- Assumes nothing.
use Rattle.std.specs.Prelude.{Err, None, Ok, Option, Some}
use Prim.Native.Nat.{ℕ}
use native.Mathlib.Omega.{arith}
use mathlib.Core.Path.{◌≡◌, refl, sym, ap, subst, ◌∙◌}
use mathlib.Core.Bool.{Bool, true}
use mathlib.Core.List.{List, [], ◌++◌}
use mathlib.Core.Logic.{◌↔◌}
use Rattle.model.specs.declared.ItsDeviceId.{ItsDeviceId}
use Rattle.model.specs.declared.EventId.{EventId}
use Rattle.model.specs.declared.CollectionId.{CollectionId}
use Rattle.model.specs.declared.LpiId.{LpiId}
use Rattle.model.specs.declared.GicVcpuId.{GicVcpuId}
use Rattle.model.specs.declared.ItsConfig.{ItsConfig}
use Rattle.model.specs.declared.ItsState.{ItsState}
use Rattle.model.specs.declared.ItsAction.{ItsAction}
use Rattle.model.specs.declared.Command.{Command}
use Rattle.model.specs.declared.Delivery.{Delivery}
use Rattle.model.specs.declared.Refusal.{Refusal}
use Rattle.model.specs.declared.Refusal.TheVariants.{Unsound, ResourceNotFound}
use Rattle.model.specs.declared.RegisterWrite.{RegisterWrite}
use Rattle.model.specs.Answer.{TranslateAnswer, Verdict}
use Rattle.model.specs.Choose.{◌or◌then◌, if_found}
use Rattle.model.specs.Profile.{profile_of}
use Rattle.model.specs.Keys.{delivery}
use Rattle.model.specs.Refusal.{write_numbers}
use Rattle.model.specs.With.{with_registers}
use Rattle.model.specs.Config.{sound_config, sound_ring, sound_unit, fresh_unit}
use Rattle.model.specs.Step.{delivery_in}
use Rattle.model.specs.Queue.{Window}
use Rattle.model.specs.Entry.{configure, translate, Outcome, stores, write}
use Rattle.model.specs.Passed.{commands_passed, CarriedOut}
use Rattle.model.specs.Paragraph.{InForce}
use Rattle.model.specs.Promise.{SentTo}
use Rattle.model.proofs.Cases.{cases, never, both}
use Rattle.model.proofs.Agreement.{Agrees, agrees_fresh}
use Rattle.model.proofs.Backing.{Sound, sound_fresh}
use Rattle.model.proofs.Promised.{Promise, promise}
use Rattle.model.proofs.Turns.{passed_same}
use Rattle.model.proofs.Carried.{agrees_registers, lengthened}
use Rattle.model.proofs.Ways.{way, AsRun, as_run, ran_by, run_kept, stays_sound}

-- The unit u, configured with k, after the commands of h.
pub record Held (k : ItsConfig) (u : ItsState) (h : List Command) : Type 0 where
  pub config : u.config ≡ k
  pub sound : sound_unit u ≡ true
  pub agrees : Agrees h u
  pub backing : Sound k h

-- an accepted configuration is sound, and its unit fresh
fresh_held : (k : ItsConfig) → sound_config k ≡ true → Held k (fresh_unit k) []
unfolding sound_ring
fresh_held k s = record { config = refl; sound = both (sound_config k) true s refl; agrees = agrees_fresh k; backing = sound_fresh k }

pub configured_held : (k : ItsConfig) → (configure k).verdict ≡ Ok tt → Held k (configure k).unit []
unfolding configure
configured_held k h =
    cases (sound_config k) (λ s. rw s (fresh_held k s))
    (λ n. let z : ◌≡◌ {A = Verdict} (Err Unsound) (Ok tt) = rw n at h in never true refl (cc))

-- A write of a sound unit carries out exactly the commands that it passed.
module _ (w : Window) (row : List ItsAction) (u : ItsState) (offset width value : ℕ) (sound : sound_unit u ≡ true) {s : RegisterWrite} {o : Outcome}
    (a : AsRun w row u offset width value s o) where
  abbrev done_of : ℕ
  done_of = (write_numbers o.written.answer).done

  -- where a base is stored nothing is done; else they are read from the place where CREADR stood before
  pub passed_from : commands_passed w u.registers done_of ≡ commands_passed w s.registers done_of
  passed_from =
      cases s.rebased
      (λ b. let z : done_of ≡ 0 = omega (arith, a.done, (run_kept w row u offset width value sound a).at_most, a.new_base b) in rw z)
      (λ b. sym (passed_same w s.registers u.registers (a.same_base b) (a.same_reader b) done_of))

  pub carried_out : CarriedOut (with_registers u s.registers) (commands_passed w u.registers done_of) (ran_by w row u offset width value sound a).actions
      (ran_by w row u offset width value sound a).unit
  carried_out = rw (passed_from, a.done) (run_kept w row u offset width value sound a).carried

pub write_held : {k : ItsConfig} {u : ItsState} {h : List Command} → Held k u h → (w : Window) (row : List ItsAction) (offset width value : ℕ) →
    Held k (write w row u offset width value).written.unit
    (commands_passed w u.registers (write_numbers (write w row u offset width value).written.answer).done ++ h)
write_held {k} {u} {h} m w row offset width value =
    let a = as_run w row u offset width value m.sound (way w row u offset width value) in
    let l = lengthened h (carried_out w row u offset width value m.sound a)
    (agrees_registers u h (stores row u offset width value).registers m.agrees) (rw m.config m.backing) in
    record {
      config = ap (λ v. v.config) a.unit ∙ (l.config ∙ m.config);
      sound = stays_sound w row u offset width value m.sound a;
      agrees = subst (Agrees _) (sym a.unit) (agrees_registers _ _ _ l.agrees);
      backing = subst (λ c. Sound c (commands_passed w u.registers (write_numbers (write w row u offset width value).written.answer).done ++ h)) m.config l.sound;
    }

-- A translation answers what the unit's tables say.

pub passes_check : {A : Type 0} (b : Bool) (r k : A) → b ≡ true → (b or r then k) ≡ k
passes_check b r k h = rw h

abbrev answer_to : Option Delivery → TranslateAnswer
answer_to o = if_found o Ok (Err ResourceNotFound)

found_is : (o : Option Delivery) (a : Delivery) → (answer_to o ≡ Ok a) ↔ (o ≡ Some a)
found_is None a = (λ h. never true refl (cc), λ h. never true refl (cc))
found_is (Some b) a = (λ h. cc, λ h. cc)

missing_is : (o : Option Delivery) → (answer_to o ≡ Err ResourceNotFound) ↔ (o ≡ None)
missing_is None = (λ h. refl, λ h. refl)
missing_is (Some b) = (λ h. never true refl (cc), λ h. never true refl (cc))

no_other : (o : Option Delivery) (r : Refusal) → answer_to o ≡ Err r → r ≡ ResourceNotFound
no_other None r h = cc
no_other (Some b) r h = never true refl (cc)

-- WHAT IS DEMANDED, of such a unit.
module _ {k : ItsConfig} {u : ItsState} {h : List Command} (m : Held k u h) where
  translation : (d : ItsDeviceId) (e : EventId) → translate u d e ≡ answer_to (delivery_in u d e)
  unfolding translate
  translation d e = passes_check (sound_unit u) _ _ m.sound

  pub promised : Promise k u h
  promised = subst (λ c. Promise c u h) m.config (promise u h m.agrees (rw m.config m.backing))

  -- a pair translates exactly where the commands of the history send it, and to what they give
  pub translates : (d : ItsDeviceId) (e : EventId) (l : LpiId) (p : GicVcpuId) → (translate u d e ≡ Ok (delivery l p)) ↔ SentTo (profile_of k) h d e l p
  translates d e l p = (
    λ q. (promised.sent d e l p).1 ((found_is (delivery_in u d e) (delivery l p)).0 (sym (translation d e) ∙ q)),
    λ s. translation d e ∙ (found_is (delivery_in u d e) (delivery l p)).1 ((promised.sent d e l p).0 s),
  )

  -- it is answered with 8 exactly where the pair is not in force
  pub nowhere : (d : ItsDeviceId) (e : EventId) → (translate u d e ≡ Err ResourceNotFound) ↔ ((l : LpiId) (c : CollectionId) → InForce (profile_of k) h d e l c → ⊥)
  nowhere d e = (
    λ q. (promised.nowhere d e).1 ((missing_is (delivery_in u d e)).0 (sym (translation d e) ∙ q)),
    λ n. translation d e ∙ (missing_is (delivery_in u d e)).1 ((promised.nowhere d e).0 n),
  )

  -- and with nothing else but 8
  pub only_8 : (d : ItsDeviceId) (e : EventId) (r : Refusal) → translate u d e ≡ Err r → r ≡ ResourceNotFound
  only_8 d e r q = no_other (delivery_in u d e) r (sym (translation d e) ∙ q)
