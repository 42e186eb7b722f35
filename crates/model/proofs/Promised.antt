-- Demand 3 over the model's own definitions, of any unit that agrees with a history, and of that history: a step on the way to what a reader finds in
-- `guarantees: MappingsInForce`.
-- Assumes nothing.
use Rattle.std.specs.Prelude.{None, Option, Some}
use Prim.Native.Nat.{ℕ, ◌≤◌}
use mathlib.Core.Path.{◌≡◌, refl, sym, ap, ◌∙◌}
use mathlib.Core.Bool.{true}
use mathlib.Core.List.{List}
use mathlib.Core.Logic.{◌↔◌}
use lib.Dec.{leb}
use borrow.Author.Tests.{leb-true, ltb-true, ltb-false}
use Rattle.model.specs.declared.ItsDeviceId.{ItsDeviceId}
use Rattle.model.specs.declared.EventId.{EventId}
use Rattle.model.specs.declared.CollectionId.{CollectionId}
use Rattle.model.specs.declared.LpiId.{LpiId}
use Rattle.model.specs.declared.GicVcpuId.{GicVcpuId}
use Rattle.model.specs.declared.ItsCollection.{ItsCollection}
use Rattle.model.specs.declared.Translation.{Translation}
use Rattle.model.specs.declared.ItsConfig.{ItsConfig}
use Rattle.model.specs.declared.ItsState.{ItsState}
use Rattle.model.specs.declared.Delivery.{Delivery}
use Rattle.model.specs.declared.Command.{Command}
use Rattle.model.specs.Choose.{when_found}
use Rattle.model.specs.Arm.{LPI_base}
use Rattle.model.specs.Profile.{Profile, is_strict, profile_of}
use Rattle.model.specs.Keys.{delivery}
use Rattle.model.specs.Step.{collection_of, translation_of, delivery_in, lpi_in_range, event_below}
use Rattle.model.specs.History.{device_now, collection_now, processor_now, PairEntry, an_entry, pair_now, delivery_of}
use Rattle.model.specs.Paragraph.{DeviceMapped, InForce}
use Rattle.model.specs.Promise.{SentTo, Backed, BelowCapacity}
use Rattle.model.proofs.Cases.{never, and_left, and_right, found}
use Rattle.model.proofs.Effects.{target_in, entry_of, entry_in}
use Rattle.model.proofs.Agreement.{Agrees}
use Rattle.model.proofs.Backing.{Sound}
use Rattle.model.proofs.Mapped.{device_mapped_lem, collection_mapped_lem, processor_of, mapped_processor}
use Rattle.model.proofs.Paragraph.{in_force}

-- what is promised of the unit u, configured with k, and of the history h
pub record Promise (k : ItsConfig) (u : ItsState) (h : List Command) : Type 0 where
  -- a pair in force translates to what the commands give, and whatever translates is in force
  pub sent : (d : ItsDeviceId) (e : EventId) (l : LpiId) (p : GicVcpuId) → SentTo (profile_of k) h d e l p ↔ (delivery_in u d e ≡ Some (delivery l p))
  -- a pair that is not in force does not translate, and whatever does not translate is not in force
  pub nowhere : (d : ItsDeviceId) (e : EventId) → ((l : LpiId) (c : CollectionId) → InForce (profile_of k) h d e l c → ⊥) ↔ (delivery_in u d e ≡ None)
  pub backed : (d : ItsDeviceId) (e : EventId) (l : LpiId) (c : CollectionId) → InForce (profile_of k) h d e l c → Backed k h d l c
  -- in strict it lies below its device's capacity
  pub below : is_strict k.profile ≡ true → (d : ItsDeviceId) (e : EventId) (l : LpiId) (c : CollectionId) → InForce (profile_of k) h d e l c → BelowCapacity h d e
  -- and no device above 65535 is mapped
  pub announced : is_strict k.profile ≡ true → (d : ItsDeviceId) (bits : ℕ) → DeviceMapped h d bits → d.0 ≤ 65535

-- a message's way in the unit, in terms of what the unit says of pairs and of collections
module _ (u : ItsState) where
  to_target : (r : Translation) (o : Option ItsCollection) →
      when_found o (λ k. Some (delivery r.lpi k.target)) ≡ when_found (when_found o (λ k. Some k.target)) (λ p. Some (delivery r.lpi p))
  to_target r None = refl
  to_target r (Some k) = refl

  to_entry : (o : Option Translation) →
      when_found o (λ r. when_found (collection_of u r.collection) (λ k. Some (delivery r.lpi k.target)))
      ≡ when_found (when_found o (λ r. Some (entry_of r))) (λ x. when_found (target_in u x.collection) (λ p. Some (delivery x.lpi p)))
  to_entry None = refl
  to_entry (Some r) = to_target r (collection_of u r.collection)

  way : (d : ItsDeviceId) (e : EventId) →
      delivery_in u d e ≡ when_found (entry_in u d e) (λ x. when_found (target_in u x.collection) (λ p. Some (delivery x.lpi p)))
  unfolding delivery_in
  way d e = to_entry (translation_of u d e)

module _ (u : ItsState) (h : List Command) (agrees : Agrees h u) (sound : Sound u.config h) where
  abbrev f : Profile
  f = profile_of u.config

  -- the collection of a pair in force is mapped; its processor is that of the last MAPC, which is the last valid one
  backing : (d : ItsDeviceId) (e : EventId) (x : PairEntry) → pair_now f d e h ≡ Some x → (p : GicVcpuId) × (collection_now x.collection h ≡ Some p)
  backing d e x q = found (collection_now x.collection h) (sound.behind d e x q).collection

  -- the unit sends a message of the pair where the history does
  pub delivers : (d : ItsDeviceId) (e : EventId) → delivery_in u d e ≡ delivery_of f h d e
  unfolding delivery_of
  delivers d e = way u d e ∙ rw (agrees.pairs d e) (go (pair_now f d e h) refl)
    where
      go : (o : Option PairEntry) → pair_now f d e h ≡ o →
          when_found o (λ x. when_found (target_in u x.collection) (λ p. Some (delivery x.lpi p)))
          ≡ when_found o (λ x. when_found (processor_now x.collection h) (λ p. Some (delivery x.lpi p)))
      go None q = refl
      go (Some x) q =
          let (p, m) = backing d e x q in
          rw (agrees.collections x.collection, m, mapped_processor x.collection h p m)

  -- what the commands give, computed and in the paragraph's words
  gives : (d : ItsDeviceId) (e : EventId) (l : LpiId) (p : GicVcpuId) → SentTo f h d e l p → delivery_of f h d e ≡ Some (delivery l p)
  unfolding delivery_of
  gives d e l p s =
      rw ((in_force f d e h l s.collection).0 s.in_force, (processor_of s.collection h p).0 s.processor)

  given : (d : ItsDeviceId) (e : EventId) (l : LpiId) (p : GicVcpuId) → delivery_of f h d e ≡ Some (delivery l p) → SentTo f h d e l p
  unfolding delivery_of
  given d e l p q = go (pair_now f d e h) refl q
    where
      at_processor : (x : PairEntry) → pair_now f d e h ≡ Some x → (o : Option GicVcpuId) → processor_now x.collection h ≡ o →
          when_found o (λ p. Some (delivery x.lpi p)) ≡ Some (delivery l p) → SentTo f h d e l p
      at_processor x n None m r = never true refl (cc)
      at_processor x n (Some p') m r =
          let same : delivery x.lpi p' ≡ delivery l p = cc in
          let sl : x.lpi ≡ l = ap (λ a. a.lpi) same in
          let sp : p' ≡ p = ap (λ a. a.target) same in
          record {
            collection = x.collection;
            in_force = (in_force f d e h l x.collection).1 (n ∙ ap (λ z. Some (an_entry z x.collection)) sl);
            processor = (processor_of x.collection h p).1 (m ∙ ap Some sp);
          }

      go : (o : Option PairEntry) → pair_now f d e h ≡ o →
          when_found o (λ x. when_found (processor_now x.collection h) (λ p. Some (delivery x.lpi p))) ≡ Some (delivery l p) → SentTo f h d e l p
      go None n r = never true refl (cc)
      go (Some x) n r = at_processor x n (processor_now x.collection h) refl r

  -- a pair in force is sent somewhere
  sent_somewhere : (d : ItsDeviceId) (e : EventId) (l : LpiId) (c : CollectionId) → InForce f h d e l c → (p : GicVcpuId) × SentTo f h d e l p
  sent_somewhere d e l c i =
      let (p, m) = backing d e (an_entry l c) ((in_force f d e h l c).0 i) in
      (p, record { collection = c; in_force = i; processor = (processor_of c h p).1 (mapped_processor c h p m) })

  not_given : (d : ItsDeviceId) (e : EventId) → ((l : LpiId) (c : CollectionId) → InForce f h d e l c → ⊥) → delivery_of f h d e ≡ None
  unfolding delivery_of
  not_given d e n = go (pair_now f d e h) refl
    where
      go : (o : Option PairEntry) → pair_now f d e h ≡ o → when_found o (λ x. when_found (processor_now x.collection h) (λ p. Some (delivery x.lpi p))) ≡ None
      go None q = refl
      go (Some x) q = absurd (n x.lpi x.collection ((in_force f d e h x.lpi x.collection).1 q))

  pub promise : Promise u.config u h
  unfolding lpi_in_range event_below
  promise =
      record {
        sent = λ d e l p. (
          λ s. delivers d e ∙ gives d e l p s,
          λ q. given d e l p (sym (delivers d e) ∙ q),
        );
        nowhere = λ d e. (
          λ n. delivers d e ∙ not_given d e n,
          λ q l c i.
              let (p, s) = sent_somewhere d e l c i in
              let z : ◌≡◌ {A = Option Delivery} None (Some (delivery l p)) = sym q ∙ (delivers d e ∙ gives d e l p s) in
              never true refl (cc),
        );
        backed = λ d e l c i.
            let q = (in_force f d e h l c).0 i in
            let b = sound.behind d e (an_entry l c) q in
            let (bits, m) = found (device_now d h) b.device in
            let (p, k) = backing d e (an_entry l c) q in
            record {
              from = leb-true _ _ (and_left _ _ b.range);
              up_to = leb-true _ _ (and_right (leb LPI_base l.0) _ b.range);
              event_bits = bits;
              device_mapped_lem = (device_mapped_lem d h bits).1 m;
              processor = p;
              collection_mapped_lem = (collection_mapped_lem c h p).1 k;
              processor_of = (processor_of c h p).1 (mapped_processor c h p k);
              processor_listed = sound.processors c p k;
            };
        below = λ s d e l c i bits m.
            ltb-true _ _ (sound.below s d e (an_entry l c) ((in_force f d e h l c).0 i) bits ((device_mapped_lem d h bits).0 m));
        announced = λ s d bits m. ltb-false 65535 d.0 (sound.announced s d bits ((device_mapped_lem d h bits).0 m));
      }
