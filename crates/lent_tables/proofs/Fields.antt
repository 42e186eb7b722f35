-- The fields of a word, taken out and put together.
-- Assumes nothing.
use Rattle.std.specs.Prelude.{if◌then◌else◌}
use Prim.Native.Nat.{ℕ, ◌+◌, ◌*◌, ◌/◌, ◌%◌, ◌^◌, ◌≤◌, ◌<◌}
use native.Mathlib.Omega.{arith}
use mathlib.Core.Path.{◌≡◌, refl, sym, ◌∙◌}
use mathlib.Core.Bool.{Bool, true, false, ◌&&◌, and-true, and-false}
use lib.Dec.{eqb}
use borrow.Author.Tests.{le-leb, lt-leb, eqb-true, eqb-false, eq-eqb, ne_eqb}
use Rattle.model.specs.declared.ItsDeviceId.{ItsDeviceId}
use Rattle.model.specs.declared.EventId.{EventId}
use Rattle.model.specs.declared.ItsDevice.{ItsDevice}
use Rattle.model.specs.declared.ItsCollection.{ItsCollection}
use Rattle.model.specs.declared.Translation.{Translation}
use Rattle.model.specs.Keys.{is_pair, no_device, no_collection, no_translation}
use Rattle.model.proofs.Cases.{cases}
use Rattle.lent_tables.specs.Numbers.{is_used, device_in, collection_in, translation_in}

-- the highest bit
abbrev pub high : Bool → ℕ
high u = if u then 2 ^ 63 else 0

pub high_le : (u : Bool) → high u ≤ 2 ^ 63
high_le true = omega arith
high_le false = omega arith

-- below it, the other fields are as they stand
used_is : (u : Bool) (x y : ℕ) → x + y < 2 ^ 63 → is_used (high u + x + y) ≡ u
used_is true x y h = le-leb (2 ^ 63) (2 ^ 63 + x + y) (omega arith)
used_is false x y h = lt-leb (2 ^ 63) (0 + x + y) (omega arith)

low32_is : (u : Bool) (x y : ℕ) → y < 2 ^ 32 → (high u + x * 2 ^ 32 + y) % 2 ^ 32 ≡ y
low32_is true x y h = omega arith
low32_is false x y h = omega arith

bits_is : (u : Bool) (x y : ℕ) → y < 2 ^ 32 → x < 2 ^ 8 → (high u + x * 2 ^ 32 + y) / 2 ^ 32 % 2 ^ 8 ≡ x
bits_is true x y h k = omega arith
bits_is false x y h k = omega arith

next16_is : (u : Bool) (x y : ℕ) → y < 2 ^ 32 → x < 2 ^ 16 → (high u + x * 2 ^ 32 + y) / 2 ^ 32 % 2 ^ 16 ≡ x
next16_is true x y h k = omega arith
next16_is false x y h k = omega arith

low16_is : (u : Bool) (x y : ℕ) → y < 2 ^ 16 → (high u + x * 2 ^ 16 + y) % 2 ^ 16 ≡ y
low16_is true x y h = omega arith
low16_is false x y h = omega arith

second16_is : (u : Bool) (x y : ℕ) → y < 2 ^ 16 → x < 2 ^ 16 → (high u + x * 2 ^ 16 + y) / 2 ^ 16 % 2 ^ 16 ≡ x
second16_is true x y h k = omega arith
second16_is false x y h k = omega arith

-- the words of the records
pub device_made : (r : ItsDevice) → r.device.0 < 2 ^ 32 → r.event_bits < 2 ^ 8 →
    device_in (high r.used + r.event_bits * 2 ^ 32 + r.device.0) ≡ r
unfolding device_in
device_made r h k =
    rw (
      low32_is r.used r.event_bits r.device.0 h,
      bits_is r.used r.event_bits r.device.0 h k,
      used_is r.used (r.event_bits * 2 ^ 32) r.device.0 (omega arith),
    )

pub collection_made : (r : ItsCollection) → r.collection.0 < 2 ^ 16 → r.target.0 < 2 ^ 16 →
    collection_in (high r.used + r.target.0 * 2 ^ 16 + r.collection.0) ≡ r
unfolding collection_in
collection_made r h k =
    rw (
      low16_is r.used r.target.0 r.collection.0 h,
      second16_is r.used r.target.0 r.collection.0 h k,
      used_is r.used (r.target.0 * 2 ^ 16) r.collection.0 (omega arith),
    )

key_high : (d e : ℕ) → e < 2 ^ 32 → (d * 2 ^ 32 + e) / 2 ^ 32 ≡ d
key_high d e h = omega arith

key_low : (d e : ℕ) → e < 2 ^ 32 → (d * 2 ^ 32 + e) % 2 ^ 32 ≡ e
key_low d e h = omega arith

pub goal_made : (r : Translation) → r.event.0 < 2 ^ 32 → r.lpi.0 < 2 ^ 32 → r.collection.0 < 2 ^ 16 →
    translation_in (r.device.0 * 2 ^ 32 + r.event.0) (high r.used + r.collection.0 * 2 ^ 32 + r.lpi.0) ≡ r
unfolding translation_in
goal_made r e h k =
    rw (
      key_high r.device.0 r.event.0 e,
      key_low r.device.0 r.event.0 e,
      low32_is r.used r.collection.0 r.lpi.0 h,
      next16_is r.used r.collection.0 r.lpi.0 h k,
      used_is r.used (r.collection.0 * 2 ^ 32) r.lpi.0 (omega arith),
    )

-- a key is its two halves
pub same_key : (k w : ℕ) → eqb k w ≡ (eqb (k / 2 ^ 32) (w / 2 ^ 32) && eqb (k % 2 ^ 32) (w % 2 ^ 32))
same_key k w =
    cases (eqb (k / 2 ^ 32) (w / 2 ^ 32))
    (λ e. cases (eqb (k % 2 ^ 32) (w % 2 ^ 32))
    (λ f. rw (e, f) (eq-eqb k w (omega (arith, eqb-true (k / 2 ^ 32) (w / 2 ^ 32) e, eqb-true (k % 2 ^ 32) (w % 2 ^ 32) f))))
    (λ f. rw (e, f) (ne_eqb k w (λ q. eqb-false (k % 2 ^ 32) (w % 2 ^ 32) f (omega arith)))))
    (λ e. rw e (ne_eqb k w (λ q. eqb-false (k / 2 ^ 32) (w / 2 ^ 32) e (omega arith))))

-- whether two words are the record of a pair
pub pair_test : (d : ItsDeviceId) (e : EventId) (k g : ℕ) → e.0 < 2 ^ 32 → is_pair d e (translation_in k g) ≡ (is_used g && eqb k (d.0 * 2 ^ 32 + e.0))
unfolding translation_in
pair_test d e k g h = sym (rw (same_key k (d.0 * 2 ^ 32 + e.0), key_high d.0 e.0 h, key_low d.0 e.0 h))

pub pair_hit : (d : ItsDeviceId) (e : EventId) (k g : ℕ) → e.0 < 2 ^ 32 → {w : ℕ} → w ≡ d.0 * 2 ^ 32 + e.0 → k ≡ w → {u : Bool} → u ≡ is_used g →
    u ≡ is_pair d e (translation_in k g)
pair_hit d e k g h a b c =
    let q : eqb k (d.0 * 2 ^ 32 + e.0) ≡ true = eq-eqb k (d.0 * 2 ^ 32 + e.0) (b ∙ a) in
    c ∙ sym (pair_test d e k g h ∙ rw q (and-true (is_used g)))

pub pair_miss : (d : ItsDeviceId) (e : EventId) (k g : ℕ) → e.0 < 2 ^ 32 → {w : ℕ} → w ≡ d.0 * 2 ^ 32 + e.0 → (k ≡ w → ⊥) → {u : Bool} → u ≡ eqb k w →
    u ≡ is_pair d e (translation_in k g)
pair_miss d e k g h {w} a b c =
    let q : eqb k (d.0 * 2 ^ 32 + e.0) ≡ false = ne_eqb k (d.0 * 2 ^ 32 + e.0) (λ f. b (f ∙ sym a)) in
    c ∙ ne_eqb k w b ∙ sym (pair_test d e k g h ∙ rw q (and-false (is_used g)))

-- a word that is 0 is free
pub zero_device : device_in 0 ≡ no_device
unfolding device_in
zero_device = refl

pub zero_collection : collection_in 0 ≡ no_collection
unfolding collection_in
zero_collection = refl

pub zero_translation : translation_in 0 0 ≡ no_translation
unfolding translation_in
zero_translation = refl
