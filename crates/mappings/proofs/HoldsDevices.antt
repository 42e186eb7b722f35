-- The devices that are listed are those of which the unit says event bits.
-- Assumes nothing.
use Rattle.std.specs.Prelude.{Option, None, Some}
use Prim.Native.Nat.{ℕ, ◌≤◌}
use native.Mathlib.Omega.{arith}
use mathlib.Core.Path.{◌≡◌, refl, sym, ap, ◌∙◌}
use mathlib.Core.Bool.{true}
use lib.ListN.{length, get_or}
use Rattle.model.specs.declared.ItsDeviceId.{ItsDeviceId}
use Rattle.model.specs.declared.ItsDevice.{ItsDevice}
use Rattle.model.specs.declared.ItsState.{ItsState}
use Rattle.model.specs.Table.{first_at}
use Rattle.model.specs.Keys.{same_device, is_device, a_device, no_device}
use Rattle.model.specs.Step.{device_of}
use Rattle.model.proofs.Cases.{cases, never}
use Rattle.model.proofs.TableLaws.{look_found, look_passes}
use Rattle.model.proofs.KeyLaws.{device_eq, device_used, device_has}
use Rattle.model.proofs.Effects.{bits_in}
use Rattle.mappings.specs.Mappings.{device_counts, mapped_device, mapped_at, devices_of}
use Rattle.mappings.specs.Listed.{◌among◌, how_many}
use Rattle.mappings.proofs.Passing.{there, from, at_most_once}
use Rattle.mappings.proofs.Counting.{counting_first, counting_look, looked_counts, looked_at}
use Rattle.mappings.proofs.Holds.{made, same_thing}

module _ (u : ItsState) where
  -- a record that stands for a device counts, and stands for itself
  pub record StandsForDevice (i : ℕ) (r : ItsDevice) : Type 0 where
    pub counted : device_counts u i r ≡ true
    pub itself : mapped_device u i r ≡ Some r

  standing : (i : ℕ) (r : ItsDevice) {x : ItsDevice} → mapped_device u i r ≡ Some x → StandsForDevice i r
  standing i r {x} t = cases (device_counts u i r) (λ s. record { counted = s; itself = rw s }) (λ s. nothing (rw s at t))
    where
      nothing : ◌≡◌ {A = Option ItsDevice} None (Some x) → StandsForDevice i r
      nothing h = never true refl (cc)

  held : (i : ℕ) (r : ItsDevice) → get_or u.devices i no_device ≡ r → StandsForDevice i r → (d : ItsDeviceId) (bits : ℕ) → mapped_device u i r ≡ Some (a_device d bits) → bits_in u d ≡ Some bits
  held i r at s d bits q =
      let m : a_device d bits ≡ r = same_thing (sym q ∙ s.itself) in
      let md : d ≡ r.device = ap (λ z. z.device) m in
      let mb : bits ≡ r.event_bits = ap (λ z. z.event_bits) m in
      let found = counting_look (is_device r.device) u.devices i s.counted no_device in
      rw (md, mb, found, at)

  pub listed_bits : (d : ItsDeviceId) (bits : ℕ) → a_device d bits among devices_of u → bits_in u d ≡ Some bits
  unfolding devices_of mapped_at
  listed_bits d bits m =
      let f = from (mapped_at u) (length u.devices) 0 (a_device d bits) m in
      held f.place (get_or u.devices f.place no_device) refl (standing f.place (get_or u.devices f.place no_device) f.is) d bits f.is

  pub only_used : (r : ItsDevice) → r among devices_of u → r.used ≡ true
  unfolding devices_of mapped_at
  only_used r l =
      let f = from (mapped_at u) (length u.devices) 0 r l in
      used f.place (get_or u.devices f.place no_device) refl (standing f.place (get_or u.devices f.place no_device) f.is) f.is
    where
      used : (i : ℕ) (x : ItsDevice) → get_or u.devices i no_device ≡ x → StandsForDevice i x → mapped_device u i x ≡ Some r → r.used ≡ true
      used i x at s q =
          let found = counting_look (is_device x.device) u.devices i s.counted no_device ∙ ap Some at in
          ap (λ z. z.used) (same_thing (sym q ∙ s.itself)) ∙ device_used x.device x (look_passes (is_device x.device) u.devices found)

  -- the record of a device that the unit holds stands for it
  module _ (d : ItsDeviceId) (bits : ℕ) where
    place : ℕ
    place = first_at (is_device d) u.devices

    stands_for : (r : ItsDevice) → device_of u d ≡ Some r → r.event_bits ≡ bits → mapped_at u place ≡ Some (a_device d bits)
    unfolding mapped_at place
    stands_for r t b =
        let passes = look_passes (is_device d) u.devices t in
        let counted : device_counts u place r ≡ true = rw (device_has d r passes) (looked_counts (is_device d) u.devices t) in
        rw (looked_at (is_device d) u.devices t no_device, counted)
        (ap Some (λ i. record { device = device_has d r passes i; event_bits = b i; used = device_used d r passes i }))

    pub bits_listed : bits_in u d ≡ Some bits → a_device d bits among devices_of u
    unfolding devices_of place
    bits_listed h =
        let (r, t, b) = made (device_of u d) (λ r. r.event_bits) h in
        there (mapped_at u) (length u.devices) 0 place (omega arith) (omega (arith, look_found (is_device d) u.devices t)) (stands_for r t b)

  -- only one record stands for a device
  only_place : (d : ItsDeviceId) (i : ℕ) (x : ItsDevice) → mapped_at u i ≡ Some x → same_device x.device d ≡ true → i ≡ first_at (is_device d) u.devices
  unfolding mapped_at
  only_place d i x t q = go (get_or u.devices i no_device) (standing i (get_or u.devices i no_device) t) t
    where
      go : (r : ItsDevice) → StandsForDevice i r → mapped_device u i r ≡ Some x → i ≡ first_at (is_device d) u.devices
      go r s t =
          let same : same_device r.device d ≡ true = ap (λ z. same_device z.device d) (same_thing (sym s.itself ∙ t)) ∙ q in
          rw (← device_eq r.device d same) (sym (counting_first (is_device r.device) u.devices i s.counted))

  pub device_once : (d : ItsDeviceId) → how_many (λ r. same_device r.device d) (devices_of u) ≤ 1
  unfolding devices_of
  device_once d =
      at_most_once (mapped_at u) (λ r. same_device r.device d) (first_at (is_device d) u.devices) (only_place d) (length u.devices) 0
