-- What is listed is what the unit says of a pair and of a device, as the model's laws ask it.
-- Assumes nothing.
use Rattle.std.specs.Prelude.{None, Option, Some}
use Prim.Native.Nat.{ℕ, ◌≤◌}
use native.Mathlib.Omega.{arith}
use mathlib.Core.Path.{◌≡◌, refl, sym, ap, ◌∙◌}
use mathlib.Core.Bool.{true}
use lib.ListN.{length, get_or}
use Rattle.model.specs.declared.ItsDeviceId.{ItsDeviceId}
use Rattle.model.specs.declared.EventId.{EventId}
use Rattle.model.specs.declared.CollectionId.{CollectionId}
use Rattle.model.specs.declared.LpiId.{LpiId}
use Rattle.model.specs.declared.GicVcpuId.{GicVcpuId}
use Rattle.model.specs.declared.ItsCollection.{ItsCollection}
use Rattle.model.specs.declared.Translation.{Translation}
use Rattle.model.specs.declared.ItsState.{ItsState}
use Rattle.model.specs.Choose.{when_found}
use Rattle.model.specs.Table.{first_at}
use Rattle.model.specs.Keys.{same_pair, is_pair, no_translation}
use Rattle.model.specs.History.{an_entry}
use Rattle.model.specs.Step.{collection_of, translation_of}
use Rattle.model.proofs.Cases.{cases, never}
use Rattle.model.proofs.TableLaws.{look_found, look_passes}
use Rattle.model.proofs.KeyLaws.{pair_device, pair_event, pair_has_device, pair_has_event}
use Rattle.model.proofs.Effects.{target_in, entry_of, entry_in}
use Rattle.mappings.specs.declared.Mapping.{Mapping}
use Rattle.mappings.specs.Mappings.{a_mapping, pair_counts, mapping_of, mapping_at, mappings_of}
use Rattle.mappings.specs.Listed.{◌among◌, how_many}
use Rattle.mappings.proofs.Passing.{there, from, at_most_once}
use Rattle.mappings.proofs.Counting.{counting_first, counting_look, looked_counts, looked_at}

-- a thing of which something was made was found
pub made : {A B : Type 0} (o : Option A) (f : A → B) {b : B} → when_found o (λ a. Some (f a)) ≡ Some b → (a : A) × (o ≡ Some a) × (f a ≡ b)
made None f h = never true refl (cc)
made (Some a) f h = (a, refl, (cc))

-- two names of one thing
pub same_thing : {A : Type 0} {a b : A} → Some a ≡ Some b → a ≡ b
same_thing h = cc

module _ (u : ItsState) where
  -- Of the pairs.

  -- a record that stands for a mapping counts, and its collection is mapped
  pub record StandsForPair (i : ℕ) (r : Translation) : Type 0 where
    pub counted : pair_counts u i r ≡ true
    pub collection : ItsCollection
    pub mapped : collection_of u r.collection ≡ Some collection
    pub mapping : mapping_of u i r ≡ Some (a_mapping r.device r.event r.lpi r.collection collection.target)

  standing : (i : ℕ) (r : Translation) {m : Mapping} → mapping_of u i r ≡ Some m → StandsForPair i r
  standing i r {m} t =
      cases (pair_counts u i r)
      (λ s. go s (collection_of u r.collection) refl (rw s at t))
      (λ s. nothing (rw s at t))
    where
      nothing : {P : Type 0} → ◌≡◌ {A = Option Mapping} None (Some m) → P
      nothing h = never true refl (cc)

      go : pair_counts u i r ≡ true → (o : Option ItsCollection) → collection_of u r.collection ≡ o →
          when_found o (λ k. Some (a_mapping r.device r.event r.lpi r.collection k.target)) ≡ Some m → StandsForPair i r
      go s None q z = nothing z
      go s (Some k) q z = record { counted = s; collection = k; mapped = q; mapping = rw (s, q) }

  -- the unit holds the pair with this LPI and this collection, and the collection with this processor
  pub record Holds (d : ItsDeviceId) (e : EventId) (l : LpiId) (c : CollectionId) (p : GicVcpuId) : Type 0 where
    pub entry : entry_in u d e ≡ Some (an_entry l c)
    pub target : target_in u c ≡ Some p

  held : (i : ℕ) (r : Translation) → get_or u.translations i no_translation ≡ r → StandsForPair i r → (d : ItsDeviceId) (e : EventId) (l : LpiId) (c : CollectionId) (p : GicVcpuId) →
      mapping_of u i r ≡ Some (a_mapping d e l c p) → Holds d e l c p
  held i r at s d e l c p q =
      let m : a_mapping d e l c p ≡ a_mapping r.device r.event r.lpi r.collection s.collection.target = same_thing (sym q ∙ s.mapping) in
      let md : d ≡ r.device = ap (λ z. z.device) m in
      let me : e ≡ r.event = ap (λ z. z.event) m in
      let ml : l ≡ r.lpi = ap (λ z. z.lpi) m in
      let mc : c ≡ r.collection = ap (λ z. z.collection) m in
      let mp : p ≡ s.collection.target = ap (λ z. z.target) m in
      let found = counting_look (is_pair r.device r.event) u.translations i s.counted no_translation in
      record { entry = rw (md, me, ml, mc, found, at); target = rw (mc, mp, s.mapped) }

  pub listed_held : (d : ItsDeviceId) (e : EventId) (l : LpiId) (c : CollectionId) (p : GicVcpuId) → a_mapping d e l c p among mappings_of u → Holds d e l c p
  unfolding mappings_of mapping_at
  listed_held d e l c p m =
      let f = from (mapping_at u) (length u.translations) 0 (a_mapping d e l c p) m in
      held f.place (get_or u.translations f.place no_translation) refl (standing f.place (get_or u.translations f.place no_translation) f.is) d e l c p f.is

  -- the record of a pair that the unit holds stands for it
  module _ (d : ItsDeviceId) (e : EventId) (l : LpiId) (c : CollectionId) (p : GicVcpuId) (holds : Holds d e l c p) where
    place : ℕ
    place = first_at (is_pair d e) u.translations

    stands_for : (r : Translation) → translation_of u d e ≡ Some r → entry_of r ≡ an_entry l c → (k : ItsCollection) → collection_of u c ≡ Some k → k.target ≡ p →
        mapping_at u place ≡ Some (a_mapping d e l c p)
    unfolding mapping_at place
    stands_for r t s k q w =
        let passes = look_passes (is_pair d e) u.translations t in
        let rd : r.device ≡ d = pair_has_device d e r passes in
        let re : r.event ≡ e = pair_has_event d e r passes in
        let rl : r.lpi ≡ l = ap (λ z. z.lpi) s in
        let rc : r.collection ≡ c = ap (λ z. z.collection) s in
        rw (looked_at (is_pair d e) u.translations t no_translation, rd, re, looked_counts (is_pair d e) u.translations t, rl, rc, q, w)

    pub held_listed : a_mapping d e l c p among mappings_of u
    unfolding mappings_of place
    held_listed =
        let (r, t, s) = made (translation_of u d e) entry_of holds.entry in
        let (k, q, w) = made (collection_of u c) (λ r. r.target) holds.target in
        there (mapping_at u) (length u.translations) 0 place (omega arith) (omega (arith, look_found (is_pair d e) u.translations t)) (stands_for r t s k q w)

  -- only one record stands for a pair
  only_place : (d : ItsDeviceId) (e : EventId) (i : ℕ) (m : Mapping) → mapping_at u i ≡ Some m → same_pair m.device m.event d e ≡ true →
      i ≡ first_at (is_pair d e) u.translations
  unfolding mapping_at
  only_place d e i m t q = go (get_or u.translations i no_translation) (standing i (get_or u.translations i no_translation) t) t
    where
      go : (r : Translation) → StandsForPair i r → mapping_of u i r ≡ Some m → i ≡ first_at (is_pair d e) u.translations
      go r s t =
          let same : same_pair r.device r.event d e ≡ true = ap (λ z. same_pair z.device z.event d e) (same_thing (sym s.mapping ∙ t)) ∙ q in
          rw (← pair_device r.device r.event d e same, ← pair_event r.device r.event d e same)
          (sym (counting_first (is_pair r.device r.event) u.translations i s.counted))

  pub pair_once : (d : ItsDeviceId) (e : EventId) → how_many (λ m. same_pair m.device m.event d e) (mappings_of u) ≤ 1
  unfolding mappings_of
  pair_once d e =
      at_most_once (mapping_at u) (λ m. same_pair m.device m.event d e) (first_at (is_pair d e) u.translations) (only_place d e) (length u.translations) 0
