-- The tests of Keys.antt are tests of keys, in the sense that the laws of a table ask: a record has one key.
-- Assumes nothing.
use Prim.Native.Nat.{ℕ}
use mathlib.Core.Path.{◌≡◌, refl, sym, ap, ap₂, ◌∙◌}
use mathlib.Core.Bool.{true, ◌&&◌}
use lib.Dec.{eqb}
use borrow.Author.Tests.{eqb-true, eqb-false, eq-eqb, ne_eqb}
use Rattle.model.specs.declared.ItsDeviceId.{ItsDeviceId}
use Rattle.model.specs.declared.EventId.{EventId}
use Rattle.model.specs.declared.CollectionId.{CollectionId}
use Rattle.model.specs.declared.ItsDevice.{ItsDevice}
use Rattle.model.specs.declared.ItsCollection.{ItsCollection}
use Rattle.model.specs.declared.Translation.{Translation}
use Rattle.model.specs.Keys.{same_device, same_collection, same_pair, is_device, is_collection, is_pair, of_device}
use Rattle.model.proofs.Cases.{cases, and_left, and_right, both}
use Rattle.model.proofs.TableLaws.{Keys}

pub eqb_sym : (m n : ℕ) → eqb m n ≡ eqb n m
eqb_sym m n =
    cases (eqb n m) (λ e. rw e (eq-eqb m n (sym (eqb-true n m e)))) (λ e. rw e (ne_eqb m n (λ p. eqb-false n m e (sym p))))

-- The same number is the same key.

pub device_eq : (d d' : ItsDeviceId) → same_device d d' ≡ true → d ≡ d'
device_eq d d' h = λ i. record { 0 = eqb-true d.0 d'.0 h i }

pub collection_eq : (c c' : CollectionId) → same_collection c c' ≡ true → c ≡ c'
collection_eq c c' h = λ i. record { 0 = eqb-true c.0 c'.0 h i }

pub event_eq : (e e' : EventId) → eqb e.0 e'.0 ≡ true → e ≡ e'
event_eq e e' h = λ i. record { 0 = eqb-true e.0 e'.0 h i }

module _ (d : ItsDeviceId) (e : EventId) (d' : ItsDeviceId) (e' : EventId) where
  pub pair_device : same_pair d e d' e' ≡ true → d ≡ d'
  pair_device h = device_eq d d' (and_left _ _ h)

  pub pair_event : same_pair d e d' e' ≡ true → e ≡ e'
  pair_event h = event_eq e e' (and_right (same_device d d') _ h)

  pub pair_sym : same_pair d e d' e' ≡ same_pair d' e' d e
  pair_sym = ap₂ ◌&&◌ (eqb_sym d.0 d'.0) (eqb_sym e.0 e'.0)

pub pair_refl : (d : ItsDeviceId) (e : EventId) → same_pair d e d e ≡ true
pair_refl d e = both _ _ (eq-eqb d.0 d.0 refl) (eq-eqb e.0 e.0 refl)

-- What a record that passes has.

module _ (d : ItsDeviceId) (a : ItsDevice) (h : is_device d a ≡ true) where
  pub device_used : a.used ≡ true
  device_used = and_left a.used _ h

  pub device_has : a.device ≡ d
  device_has = device_eq a.device d (and_right a.used _ h)

module _ (c : CollectionId) (a : ItsCollection) (h : is_collection c a ≡ true) where
  pub collection_used : a.used ≡ true
  collection_used = and_left a.used _ h

  pub collection_has : a.collection ≡ c
  collection_has = collection_eq a.collection c (and_right a.used _ h)

module _ (d : ItsDeviceId) (e : EventId) (a : Translation) (h : is_pair d e a ≡ true) where
  pub pair_used : a.used ≡ true
  pair_used = and_left a.used _ h

  pub pair_has_device : a.device ≡ d
  pair_has_device = pair_device a.device a.event d e (and_right a.used _ h)

  pub pair_has_event : a.event ≡ e
  pair_has_event = pair_event a.device a.event d e (and_right a.used _ h)

-- A record has one key.

pub device_keys : (d d' : ItsDeviceId) → Keys (is_device d) (is_device d')
device_keys d d' a b h k = ap (λ x. is_device x b) (sym (device_has d a h) ∙ device_has d' a k)

pub collection_keys : (c c' : CollectionId) → Keys (is_collection c) (is_collection c')
collection_keys c c' a b h k = ap (λ x. is_collection x b) (sym (collection_has c a h) ∙ collection_has c' a k)

pub pair_keys : (d : ItsDeviceId) (e : EventId) (d' : ItsDeviceId) (e' : EventId) → Keys (is_pair d e) (is_pair d' e')
pair_keys d e d' e' a b h k =
    ap₂ (λ x y. is_pair x y b)
    (sym (pair_has_device d e a h) ∙ pair_has_device d' e' a k)
    (sym (pair_has_event d e a h) ∙ pair_has_event d' e' a k)

-- A drop by a key is a drop of the records of that key, and of no others.

pub device_drops : (d d' : ItsDeviceId) (a : ItsDevice) → is_device d a ≡ true → is_device d' a ≡ same_device d' d
device_drops d d' a h = rw (device_used d a h) (ap (λ x. same_device x d') (device_has d a h) ∙ eqb_sym d.0 d'.0)

pub collection_drops : (c c' : CollectionId) (a : ItsCollection) → is_collection c a ≡ true → is_collection c' a ≡ same_collection c' c
collection_drops c c' a h = rw (collection_used c a h) (ap (λ x. same_collection x c') (collection_has c a h) ∙ eqb_sym c.0 c'.0)

module _ (d : ItsDeviceId) (e : EventId) (d' : ItsDeviceId) (e' : EventId) (a : Translation) (h : is_pair d e a ≡ true) where
  pub device_drops_pair : of_device d' a ≡ same_device d' d
  device_drops_pair = rw (pair_used d e a h) (ap (λ x. same_device x d') (pair_has_device d e a h) ∙ eqb_sym d.0 d'.0)

  pub pair_drops : is_pair d' e' a ≡ same_pair d' e' d e
  pair_drops =
      rw (pair_used d e a h)
      (ap₂ (λ x y. same_pair x y d' e') (pair_has_device d e a h) (pair_has_event d e a h) ∙ pair_sym d e d' e')
