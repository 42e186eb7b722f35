-- Arm's commands keep every mapped event within its device's Size and in a mapped collection, where Arm does not leave open what happens (R09) and
-- no event is mapped before its collection (R48).
-- So a unit that started fresh is such a one as long as the conditions are met.
-- Assumes nothing.
use Rattle.std.specs.Prelude.{None, Option, Some}
use Prim.Native.Nat.{ℕ}
use mathlib.Core.Path.{◌≡◌, refl}
use mathlib.Core.Bool.{true, false, ◌&&◌}
use lib.Dec.{eqb}
use borrow.Author.Tests.{eqb-true}
use Rattle.model.specs.declared.ItsState.{ItsState}
use Rattle.model.specs.Choose.{when_found, is_found}
use Rattle.model.proofs.Cases.{cases, never, and_left, and_right}
use Rattle.model.proofs.KeyLaws.{eqb_sym}
use Rattle.arm_agreement.specs.Commands.{ArmCommand, MAPD, MAPC, MAPTI, MAPI, MOVI, INT, CLEAR, DISCARD, INV, INVALL, SYNC, MOVALL}
use Rattle.arm_agreement.specs.Mappings.{Interrupt, interrupt, Mappings, Announced, with_device, with_collection, with_event, nothing}
use Rattle.arm_agreement.specs.Mappings.{event_of, event_announced, device_announced, is_LPI, names_event, names_interrupt, no_error, does, next_mappings}
use Rattle.arm_agreement.specs.Seen.{arm_of, Tables, announced_by}
use Rattle.arm_agreement.specs.Conditions.{WellMapped, Under}

-- something is not nothing
not_none : {A P : Type 0} {a : A} → None ≡ Some a → P
not_none h = never true refl (cc)

pub kept_nothing : WellMapped nothing
kept_nothing = record { R02_within_its_Size = λ d e x h. not_none h; R09_in_a_collection = λ d e x h. not_none h }

-- what is asked of one mapped event
abbrev Backed : Mappings → ℕ → ℕ → Interrupt → Type 0
Backed m d e x = (event_of m d e ≡ true) × (is_found (m.collection x.ICID) ≡ true)

keeping : (m : Mappings) → ((d e : ℕ) (x : Interrupt) → m.event d e ≡ Some x → Backed m d e x) → WellMapped m
keeping m f = record { R02_within_its_Size = λ d e x h. (f d e x h).0; R09_in_a_collection = λ d e x h. (f d e x h).1 }

module _ (m : Mappings) (kept : WellMapped m) where
  held : (d e : ℕ) (x : Interrupt) → m.event d e ≡ Some x → Backed m d e x
  held d e x h = (kept.R02_within_its_Size d e x h, kept.R09_in_a_collection d e x h)

  -- MAPD
  kept_device : (d : ℕ) (o : Option ℕ) → WellMapped (with_device d o m)
  kept_device d o =
      keeping _ (λ d' e' x h. cases (eqb d d') (λ s. not_none (rw s at h)) (λ s. rw s (held d' e' x (rw s at h))))

  -- MAPC, valid
  kept_collection : (c p : ℕ) → WellMapped (with_collection c (Some p) m)
  kept_collection c p =
      keeping _ (λ d e x h. ((held d e x h).0, cases (eqb c x.ICID) (λ s. rw s) (λ s. rw s (held d e x h).1)))

  -- MAPC, not valid
  kept_without : (c : ℕ) → ((d e : ℕ) (x : Interrupt) → m.event d e ≡ Some x → eqb x.ICID c ≡ false) → WellMapped (with_collection c None m)
  kept_without c unused =
      keeping _ (λ d e x h. ((held d e x h).0, rw (eqb_sym c x.ICID, unused d e x h) (held d e x h).1))

  -- MAPTI, MAPI, MOVI, DISCARD
  kept_event : (d e : ℕ) (o : Option Interrupt) → ((x : Interrupt) → o ≡ Some x → Backed m d e x) → WellMapped (with_event d e o m)
  kept_event d e o new =
      keeping _ (λ d' e' x h.
      cases (eqb d d')
      (λ s. cases (eqb e e')
      (λ r. rw (← (eqb-true d d' s), ← (eqb-true e e' r)) (new x (rw (s, r) at h)))
      (λ r. held d' e' x (rw (← (eqb-true d d' s)) (rw (s, r) at h))))
      (λ s. held d' e' x (rw s at h)))

module _ (a : Announced) (m : Mappings) where
  -- a named interrupt is that of an event within its Size
  named_event : (d e : ℕ) → names_event a m d e ≡ true → event_of m d e ≡ true
  named_event d e h = and_right (event_announced a m e) _ (and_right (device_announced a m d) _ h)

  named_interrupt : (d e : ℕ) → names_interrupt a m d e ≡ true → event_of m d e ≡ true
  named_interrupt d e h = named_event d e (and_left (names_event a m d e) _ h)

  -- MAPTI and MAPI, of a mapped collection
  mapped : (d e l c : ℕ) → (names_event a m d e && (is_LPI a m l && a.collection_table c)) ≡ true → is_found (m.collection c) ≡ true →
      (x : Interrupt) → Some (interrupt l c) ≡ Some x → Backed m d e x
  mapped d e l c ok there x h =
      let i : interrupt l c ≡ x = cc in
      rw (← i) (named_event d e (and_left (names_event a m d e) _ ok), there)

  -- MOVI
  moved : (d e c : ℕ) → (names_interrupt a m d e && (a.collection_table c && is_found (m.collection c))) ≡ true →
      (o : Option Interrupt) (x : Interrupt) → when_found o (λ z. Some (interrupt z.pINTID c)) ≡ Some x → Backed m d e x
  moved d e c ok None x h = not_none h
  moved d e c ok (Some z) x h =
      let i : interrupt z.pINTID c ≡ x = cc in
      rw (← i) (named_interrupt d e (and_left (names_interrupt a m d e) _ ok), and_right (a.collection_table c) _ (and_right (names_interrupt a m d e) _ ok))

module _ (u : ItsState) (t : Tables) (kept : WellMapped (arm_of u)) where
  abbrev now : Mappings
  now = arm_of u

  abbrev said : Announced
  said = announced_by u.config t

  kept_does : (x : ArmCommand) → Under u t x → no_error said now x ≡ true → WellMapped (does x now)
  kept_does (MAPD d size itt true) k ok = kept_device now kept d _
  kept_does (MAPD d size itt false) k ok = kept_device now kept d None
  kept_does (MAPC c p true) k ok = kept_collection now kept c p
  kept_does (MAPC c p false) k ok = kept_without now kept c k.R09_unused
  kept_does (MAPTI d e l c) k ok = kept_event now kept d e _ (mapped said now d e l c ok k.R48_collection_mapped)
  kept_does (MAPI d e c) k ok = kept_event now kept d e _ (mapped said now d e e c ok k.R48_collection_mapped)
  kept_does (MOVI d e c) k ok = kept_event now kept d e _ (moved said now d e c ok (now.event d e))
  kept_does (INT d e) k ok = kept
  kept_does (CLEAR d e) k ok = kept
  kept_does (DISCARD d e) k ok = kept_event now kept d e None (λ x h. not_none h)
  kept_does (INV d e) k ok = kept
  kept_does (INVALL c) k ok = kept
  kept_does (SYNC p) k ok = kept
  kept_does (MOVALL p q) k ok = kept

  pub kept_next : (x : ArmCommand) → Under u t x → WellMapped (next_mappings said now x)
  kept_next x k = cases (no_error said now x) (λ h. rw h (kept_does x k h)) (λ h. rw h kept)
