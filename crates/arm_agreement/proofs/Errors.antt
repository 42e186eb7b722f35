-- The unit refuses a command exactly where Arm calls it an error, under the conditions of specs/Conditions.antt.
-- Assumes nothing.
use Rattle.std.specs.Prelude.{Err, None, Ok, Option, Some}
use Prim.Native.Nat.{ℕ}
use mathlib.Core.Path.{◌≡◌, refl, sym, ap, ◌∙◌}
use mathlib.Core.Bool.{Bool, true, false, ◌&&◌}
use Rattle.model.specs.declared.ItsDevice.{ItsDevice}
use Rattle.model.specs.declared.ItsState.{ItsState}
use Rattle.model.specs.declared.Refusal.{Refusal}
use Rattle.model.specs.Choose.{◌or◌then◌, when_found, if_found, is_found}
use Rattle.model.specs.Config.{listed}
use Rattle.model.specs.Step.{device_of, collection_of, translation_of, delivery_in, lpi_in_range, event_below, device_mapped, event_fits, collection_mapped, pair_mapped, pair_translates, check_mapping, too_large, is_accepted}
use Rattle.model.proofs.Cases.{cases, found_when}
use Rattle.model.proofs.Profiles.{announced_small}
use Rattle.arm_agreement.specs.Commands.{ArmCommand, MAPD, MAPC, MAPTI, MAPI, MOVI, INT, CLEAR, DISCARD, INV, INVALL, SYNC, MOVALL}
use Rattle.arm_agreement.specs.Mappings.{interrupt, Mappings, Announced, is_LPI, event_of, names_event, names_collection, names_interrupt, no_error}
use Rattle.arm_agreement.specs.Seen.{dev, ev, col, lpi, cpu, takes, arm_of, Tables, announced_by}
use Rattle.arm_agreement.specs.Conditions.{WellMapped, ADevice, AnEvent, ACollection, MapsEvent, Under}

-- the checks of MAPTI and MAPI, in the unit's order and as one test
mapping_checks : (l d e c : Bool) (r s t v : Refusal) → (e ≡ true → d ≡ true) →
    is_accepted (l or Err r then d or Err s then e or Err t then c or Err v then Ok tt) ≡ (e && (l && c))
mapping_checks l d true c r s t v h =
    rw (h refl) (cases l (λ k. rw k (cases c (λ j. rw j) (λ j. rw j))) (λ k. rw k))
mapping_checks l d false c r s t v h = cases l (λ k. rw k (cases d (λ j. rw j) (λ j. rw j))) (λ k. rw k)

-- one check
one_check : (b : Bool) (r : Refusal) → is_accepted (b or Err r then Ok tt) ≡ b
one_check true r = refl
one_check false r = refl

two_checks : (a b : Bool) (r s : Refusal) → is_accepted (a or Err r then b or Err s then Ok tt) ≡ (b && a)
two_checks true true r s = refl
two_checks true false r s = refl
two_checks false true r s = refl
two_checks false false r s = refl

-- a test that holds wherever something is found
and_found : {A : Type 0} (o : Option A) (b : Bool) → ((a : A) → o ≡ Some a → b ≡ true) → (b && is_found o) ≡ is_found o
and_found None b h = cases b (λ e. rw e) (λ e. rw e)
and_found (Some a) b h = rw (h a refl)

-- what is found of a thing that was found
both_found : {A B C : Type 0} (o : Option A) (g : A → Option B) (f : A → B → C) → ((a : A) → o ≡ Some a → is_found (g a) ≡ true) →
    is_found (when_found o (λ a. when_found (g a) (λ b. Some (f a b)))) ≡ is_found o
both_found None g f h = refl
both_found (Some a) g f h = found_when (g a) (f a) ∙ h a refl

module _ (u : ItsState) (t : Tables) where
  abbrev now : Mappings
  now = arm_of u

  abbrev said : Announced
  said = announced_by u.config t

  collection_seen : (c : ℕ) → is_found (now.collection c) ≡ collection_mapped u (col c)
  collection_seen c = found_when (collection_of u (col c)) (λ r. r.target.0)

  pair_seen : (d e : ℕ) → is_found (now.event d e) ≡ pair_mapped u (dev d) (ev e)
  pair_seen d e = found_when (translation_of u (dev d) (ev e)) _

  size_seen : (o : Option ItsDevice) (e : ℕ) → if_found (when_found o (λ r. Some r.event_bits)) (λ bits. event_below bits (ev e)) false ≡ if_found o (λ r. event_below r.event_bits (ev e)) false
  size_seen None e = refl
  size_seen (Some r) e = refl

  event_seen : (d e : ℕ) → event_of now d e ≡ event_fits u (dev d) (ev e)
  unfolding event_below
  event_seen d e = size_seen (device_of u (dev d)) e

  -- an event that fits has a mapped device
  fits_mapped : (o : Option ItsDevice) (f : ItsDevice → Bool) → if_found o f false ≡ true → is_found o ≡ true
  fits_mapped None f h = h
  fits_mapped (Some r) f h = refl

  announced_collection : (c : ℕ) → ACollection u t c → names_collection said now c ≡ collection_mapped u (col c)
  announced_collection c k = rw k.R20_in_the_table (collection_seen c)

  announced_event : (d e : ℕ) → AnEvent u t d e → names_event said now d e ≡ event_fits u (dev d) (ev e)
  announced_event d e k = rw (k.of_device_lem.R17_announced, k.of_device_lem.R22_R23_in_the_table, k.R18_announced) (event_seen d e)

  mapping : (d e l c : ℕ) → MapsEvent u t d e c → is_accepted (check_mapping u (dev d) (ev e) (lpi l) (col c)) ≡ (names_event said now d e && (is_LPI said now l && said.collection_table c))
  unfolding check_mapping lpi_in_range
  mapping d e l c k =
      rw (announced_event d e k.of_event, k.of_collection.R20_in_the_table, k.S01_room)
      (mapping_checks (is_LPI said now l) (device_mapped u (dev d)) (event_fits u (dev d) (ev e)) (collection_mapped u (col c)) _ _ _ _
      (fits_mapped (device_of u (dev d)) _)
      ∙ ap (λ b. event_fits u (dev d) (ev e) && (is_LPI said now l && b)) (sym (collection_seen c) ∙ k.R48_collection_mapped))

  module _ (kept : WellMapped now) where
    -- an event that is mapped has its device and its Size
    announced_interrupt : (d e : ℕ) → AnEvent u t d e → names_interrupt said now d e ≡ pair_mapped u (dev d) (ev e)
    announced_interrupt d e k =
        and_found (now.event d e) (names_event said now d e)
        (λ x s. rw (k.of_device_lem.R17_announced, k.of_device_lem.R22_R23_in_the_table, k.R18_announced) (kept.R02_within_its_Size d e x s))
        ∙ pair_seen d e

    -- and it translates
    translating : (d e : ℕ) → pair_translates u (dev d) (ev e) ≡ pair_mapped u (dev d) (ev e)
    unfolding delivery_in
    translating d e =
        both_found (translation_of u (dev d) (ev e)) (λ r. collection_of u r.collection) _
        (λ r s. sym (collection_seen r.collection.0) ∙ kept.R09_in_a_collection d e (interrupt r.lpi.0 r.collection.0) (rw s))

    -- R17: a device that is announced is not too large
    not_large : (d : ℕ) → ADevice u t d → too_large u.config (dev d) ≡ false
    not_large d k = announced_small u.config (dev d) k.R17_announced

    pub errors_as_arm : (x : ArmCommand) → Under u t x → takes u x ≡ no_error said now x
    errors_as_arm (MAPD d size itt true) k = rw (not_large d k.of_device_lem, k.S01_room, k.of_device_lem.R17_announced, k.of_device_lem.R22_R23_in_the_table, k.R18_announced)
    errors_as_arm (MAPD d size itt false) k = rw (not_large d k, k.R17_announced, k.R22_R23_in_the_table)
    errors_as_arm (MAPC c p true) k = rw (k.S01_room, k.of_collection.R20_in_the_table) (one_check (listed u.config (cpu p)) _)
    errors_as_arm (MAPC c p false) k = rw k.of_collection.R20_in_the_table
    errors_as_arm (MAPTI d e l c) k = rw (not_large d k.of_event.of_device_lem) (mapping d e l c k)
    errors_as_arm (MAPI d e c) k = rw (not_large d k.of_event.of_device_lem) (mapping d e e c k)
    errors_as_arm (MOVI d e c) k =
        rw (not_large d k.of_event.of_device_lem, announced_interrupt d e k.of_event, announced_collection c k.of_collection) (two_checks (collection_mapped u (col c)) (pair_mapped u (dev d) (ev e)) _ _)
    errors_as_arm (INT d e) k = rw (not_large d k.of_device_lem) (one_check (pair_translates u (dev d) (ev e)) _ ∙ (translating d e ∙ sym (announced_interrupt d e k)))
    errors_as_arm (CLEAR d e) k = rw (not_large d k.of_device_lem) (one_check (pair_translates u (dev d) (ev e)) _ ∙ (translating d e ∙ sym (announced_interrupt d e k)))
    errors_as_arm (DISCARD d e) k = rw (not_large d k.of_device_lem) (one_check (pair_mapped u (dev d) (ev e)) _ ∙ sym (announced_interrupt d e k))
    errors_as_arm (INV d e) k = rw (not_large d k.of_device_lem) (one_check (pair_mapped u (dev d) (ev e)) _ ∙ sym (announced_interrupt d e k))
    errors_as_arm (INVALL c) k = one_check (collection_mapped u (col c)) _ ∙ sym (announced_collection c k)
    errors_as_arm (SYNC p) k = sym k.R38_processor
    errors_as_arm (MOVALL p q) k = absurd k
