-- A message is translated as Arm translates it, and INT and CLEAR signal the interrupt that Arm says.
-- Assumes nothing.
use Rattle.std.specs.Prelude.{if◌then◌else◌, Err, None, Ok, Option, Some}
use Prim.Native.Nat.{ℕ}
use mathlib.Core.Path.{◌≡◌, refl}
use mathlib.Core.Bool.{Bool, true, false}
use Rattle.model.specs.declared.CollectionId.{CollectionId}
use Rattle.model.specs.declared.ItsCollection.{ItsCollection}
use Rattle.model.specs.declared.Translation.{Translation}
use Rattle.model.specs.declared.Delivery.{Delivery}
use Rattle.model.specs.declared.ItsState.{ItsState}
use Rattle.model.specs.declared.Command.TheVariants.{Int, Clear}
use Rattle.model.specs.declared.Refusal.TheVariants.{ResourceNotFound}
use Rattle.model.specs.Choose.{when_found, if_found, list_of}
use Rattle.model.specs.Keys.{delivery}
use Rattle.model.specs.Step.{collection_of, translation_of, delivery_in, action_to, actions_on, actions_of}
use Rattle.model.specs.Entry.{translate}
use Rattle.model.proofs.Cases.{cases}
use Rattle.arm_agreement.specs.Mappings.{Interrupt, interrupt, event_of, Target, target_of, translation}
use Rattle.arm_agreement.specs.Seen.{dev, ev, col, lpi, cpu, arm_of, tables_given}
use Rattle.arm_agreement.specs.Conditions.{WellMapped, Heard}
use Rattle.arm_agreement.specs.Runs.{answered, signal}

-- a target as the unit has it
abbrev sent : Target → Delivery
sent a = delivery (lpi a.LPI) (cpu a.processor)

-- where a message goes, found in the tables and seen from Arm's mappings
to_collection : (r : Translation) (o : Option ItsCollection) →
    when_found o (λ k. Some (delivery r.lpi k.target))
    ≡ when_found (when_found (when_found o (λ k. Some k.target.0)) (λ p. Some (record { LPI = r.lpi.0; processor = p }))) (λ a. Some (sent a))
to_collection r None = refl
to_collection r (Some k) = refl

through : (g : CollectionId → Option ItsCollection) (o : Option Translation) →
    when_found o (λ r. when_found (g r.collection) (λ k. Some (delivery r.lpi k.target)))
    ≡ when_found (when_found (when_found o (λ r. Some (interrupt r.lpi.0 r.collection.0))) (λ x. when_found (when_found (g (col x.ICID)) (λ k. Some k.target.0)) (λ p. Some (record { LPI = x.pINTID; processor = p })))) (λ a. Some (sent a))
through g None = refl
through g (Some r) = to_collection r (g r.collection)

target_seen : (u : ItsState) (d e : ℕ) → delivery_in u (dev d) (ev e) ≡ when_found (target_of (arm_of u) d e) (λ a. Some (sent a))
unfolding delivery_in
target_seen u d e = through (collection_of u) (translation_of u (dev d) (ev e))

-- where there is no interrupt there is no target, and where there is one its event is within its Size
within : (b : Bool) (o : Option Interrupt) (f : Interrupt → Option Target) → ((x : Interrupt) → o ≡ Some x → b ≡ true) → (if b then when_found o f else None) ≡ when_found o f
within b None f h = cases b (λ e. rw e) (λ e. rw e)
within b (Some x) f h = rw (h x refl)

as_answer : (o : Option Target) → if_found (when_found o (λ a. Some (sent a))) Ok (Err ResourceNotFound) ≡ answered o
as_answer None = refl
as_answer (Some a) = refl

-- A MESSAGE
pub translation_as_arm : (u : ItsState) → Heard u → WellMapped (arm_of u) → (d e : ℕ) → translate u (dev d) (ev e) ≡ answered (translation u.registers.enabled (tables_given u) (arm_of u) d e)
unfolding translate
translation_as_arm u c kept d e =
    rw (target_seen u d e, c.S12_sound, c.R03_enabled, c.R47_tables_given, within (event_of (arm_of u) d e) ((arm_of u).event d e) _ (kept.R02_within_its_Size d e)) (as_answer (target_of (arm_of u) d e))

-- INT and CLEAR
signalled : (pending : Bool) (o : Option Target) → list_of (when_found (when_found o (λ a. Some (sent a))) (λ a. Some (action_to pending a))) ≡ list_of (when_found o (λ a. Some (signal pending a)))
signalled pending None = refl
signalled pending (Some a) = refl

module _ (u : ItsState) (d e : ℕ) where
  by_target : (pending : Bool) → actions_on pending u (dev d) (ev e) ≡ list_of (when_found (target_of (arm_of u) d e) (λ a. Some (signal pending a)))
  unfolding actions_on
  by_target pending = rw (target_seen u d e) (signalled pending (target_of (arm_of u) d e))

  -- INT makes the event's LPI pending at its collection's processor, and CLEAR takes it back. It is handed over though a later command is refused, where
  -- the Rust loses it (R12, S15)
  pub signals_as_arm : (actions_of u (Int (dev d) (ev e)) ≡ list_of (when_found (target_of (arm_of u) d e) (λ a. Some (signal true a))))
      × (actions_of u (Clear (dev d) (ev e)) ≡ list_of (when_found (target_of (arm_of u) d e) (λ a. Some (signal false a))))
  signals_as_arm = (by_target true, by_target false)
