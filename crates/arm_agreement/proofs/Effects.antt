-- What an accepted command does to the unit's mappings is what Arm says that it does, under the conditions of specs/Conditions.antt.
-- Assumes nothing.
use Rattle.std.specs.Prelude.{if◌then◌else◌, None, Option, Some}
use Prim.Native.Nat.{ℕ, ◌+◌}
use mathlib.Core.Path.{◌≡◌, refl, sym, ap, ◌∙◌}
use mathlib.Core.Bool.{true, false, ◌&&◌}
use lib.Dec.{eqb}
use borrow.Author.Tests.{eqb-true}
use Rattle.model.specs.declared.GicVcpuId.{GicVcpuId}
use Rattle.model.specs.declared.ItsCollection.{ItsCollection}
use Rattle.model.specs.declared.Translation.{Translation}
use Rattle.model.specs.declared.ItsState.{ItsState}
use Rattle.model.specs.declared.Command.{Command}
use Rattle.model.specs.declared.Command.TheVariants.{Mapd, Mapc, Mapti, Mapi, Movi, Discard}
use Rattle.model.specs.Choose.{when_found, if_found}
use Rattle.model.specs.Profile.{profile_of, mapd_ends}
use Rattle.model.specs.Step.{collection_of, translation_of, effect, accepts}
use Rattle.model.specs.History.{after, Says, maps_it, unmaps_it, silent, of_device_says, of_collection_says, Part, maps, moves, ends, ends_in, leaves, part_in, PairEntry, pair_after}
use Rattle.model.proofs.Cases.{cases, never}
use Rattle.model.proofs.Backing.{always}
use Rattle.model.proofs.Effects.{target_in, entry_in, entry_of, Clean, devices_effect, collections_effect, pairs_effect}
use Rattle.arm_agreement.specs.Commands.{ArmCommand, MAPD, MAPC, MAPTI, MAPI, MOVI, INT, CLEAR, DISCARD, INV, INVALL, SYNC, MOVALL}
use Rattle.arm_agreement.specs.Mappings.{Interrupt, interrupt, Mappings, put, does}
use Rattle.arm_agreement.specs.Seen.{dev, ev, col, lpi, cpu, as_command, takes, arm_of, Tables}
use Rattle.arm_agreement.specs.Conditions.{Under}

-- two mappings that say the same of everything are the same
pub same : (m m' : Mappings) → ((d : ℕ) → m.device d ≡ m'.device d) → ((c : ℕ) → m.collection c ≡ m'.collection c) →
    ((d e : ℕ) → m.event d e ≡ m'.event d e) → m ≡ m'
same m m' p q r = λ i. record { device = λ d. p d i; collection = λ c. q c i; event = λ d e. r d e i }

-- The model's words for what a command says of a device, of a collection and of a pair, over plain numbers.

abbrev numbered : Option GicVcpuId → Option ℕ
numbered o = when_found o (λ p. Some p.0)

abbrev numbered_says : Says GicVcpuId → Says ℕ
numbered_says (maps_it p) = maps_it p.0
numbered_says unmaps_it = unmaps_it
numbered_says silent = silent

abbrev as_interrupt : Option PairEntry → Option Interrupt
as_interrupt o = when_found o (λ x. Some (interrupt x.lpi.0 x.collection.0))

abbrev part_after : Part → Option Interrupt → Option Interrupt
part_after (maps l c) o = Some (interrupt l.0 c.0)
part_after (moves c) o = when_found o (λ x. Some (interrupt x.pINTID c.0))
part_after ends o = None
part_after (ends_in c) o = when_found o (λ x. if eqb x.ICID c.0 then None else Some x)
part_after leaves o = o

numbered_after : (s : Says GicVcpuId) (o : Option GicVcpuId) → numbered (after s o) ≡ after (numbered_says s) (numbered o)
numbered_after (maps_it p) o = refl
numbered_after unmaps_it o = refl
numbered_after silent o = refl

interrupt_after : (p : Part) (o : Option PairEntry) → as_interrupt (pair_after p o) ≡ part_after p (as_interrupt o)
interrupt_after (maps l c) o = refl
interrupt_after (moves c) None = refl
interrupt_after (moves c) (Some x) = refl
interrupt_after ends o = refl
interrupt_after (ends_in c) None = refl
interrupt_after (ends_in c) (Some x) = cases (eqb x.collection.0 c.0) (λ s. rw s) (λ s. rw s)
interrupt_after leaves o = refl

target_seen : (o : Option ItsCollection) → when_found o (λ r. Some r.target.0) ≡ numbered (when_found o (λ r. Some r.target))
target_seen None = refl
target_seen (Some r) = refl

entry_seen : (o : Option Translation) → when_found o (λ r. Some (interrupt r.lpi.0 r.collection.0)) ≡ as_interrupt (when_found o (λ r. Some (entry_of r)))
entry_seen None = refl
entry_seen (Some r) = refl

module _ (u : ItsState) (y : Command) (ok : accepts u y ≡ true) where
  device_after : (d : ℕ) → (arm_of (effect u y)).device d ≡ after (of_device_says (dev d) y) ((arm_of u).device d)
  device_after d = devices_effect u y ok (dev d)

  collection_after_lem : (c : ℕ) → (arm_of (effect u y)).collection c ≡ after (numbered_says (of_collection_says (col c) y)) ((arm_of u).collection c)
  collection_after_lem c =
      target_seen (collection_of (effect u y) (col c))
      ∙ (ap numbered (collections_effect u y ok (col c))
      ∙ (numbered_after (of_collection_says (col c) y) (target_in u (col c))
      ∙ ap (after (numbered_says (of_collection_says (col c) y))) (sym (target_seen (collection_of u (col c))))))

  event_after : Clean u y → (d e : ℕ) → (arm_of (effect u y)).event d e ≡ part_after (part_in (profile_of u.config) (dev d) (ev e) y) ((arm_of u).event d e)
  event_after clean d e =
      entry_seen (translation_of (effect u y) (dev d) (ev e))
      ∙ (ap as_interrupt (pairs_effect u y clean ok (dev d) (ev e))
      ∙ (interrupt_after (part_in (profile_of u.config) (dev d) (ev e) y) (entry_in u (dev d) (ev e))
      ∙ ap (part_after (part_in (profile_of u.config) (dev d) (ev e) y)) (sym (entry_seen (translation_of u (dev d) (ev e))))))

-- the unit after a command, or the same unit for one that it does not know
abbrev pub effect_on : ItsState → ArmCommand → ItsState
effect_on u x = if_found (as_command x) (λ y. effect u y) u

-- what a command is to one event, seen from any
one_event : (p : Part) (d e : ℕ) (f : ℕ → ℕ → Option Interrupt) (d' e' : ℕ) →
    part_after (if eqb d d' && eqb e e' then p else leaves) (f d' e') ≡ put d (put e (part_after p (f d e)) (f d)) f d' e'
one_event p d e f d' e' =
    cases (eqb d d')
    (λ h. rw (h, ← (eqb-true d d' h)) (cases (eqb e e') (λ k. rw (k, ← (eqb-true e e' k))) (λ k. rw k)))
    (λ h. rw h)

-- R09: a collection that no event names ends none
unused : (c : ℕ) (o : Option Interrupt) → ((x : Interrupt) → o ≡ Some x → eqb x.ICID c ≡ false) → when_found o (λ x. if eqb x.ICID c then None else Some x) ≡ o
unused c None h = refl
unused c (Some x) h = rw (h x refl)

module _ (u : ItsState) (t : Tables) where
  -- R01: of a device without events there is nothing to drop
  no_events : (d bits : ℕ) → ((e : ℕ) → (arm_of u).event d e ≡ None) → Clean u (Mapd (dev d) bits true)
  no_events d bits new d' bits' m n e =
      let same : dev d ≡ d' = cc in
      rw (← same) (seen (translation_of u (dev d) e) (new e.0))
    where
      seen : (o : Option Translation) → when_found o (λ r. Some (interrupt r.lpi.0 r.collection.0)) ≡ None → when_found o (λ r. Some (entry_of r)) ≡ None
      seen None q = refl
      seen (Some r) q = never true refl (cc)

  pub effect_as_arm : (x : ArmCommand) → Under u t x → takes u x ≡ true → arm_of (effect_on u x) ≡ does x (arm_of u)
  unfolding of_device_says of_collection_says part_in
  effect_as_arm (MAPD d size itt true) k ok =
      let y = Mapd (dev d) (size + 1) true in
      same _ _
      (λ d'. device_after u y ok d' ∙ cases (eqb d d') (λ h. rw h) (λ h. rw h))
      (λ c'. collection_after_lem u y ok c')
      (λ d' e'. event_after u y ok (no_events d (size + 1) k.R01_device_is_new) d' e'
      ∙ cases (mapd_ends (profile_of u.config) true)
      (λ m. cases (eqb d d') (λ h. rw (m, h)) (λ h. rw (m, h)))
      (λ m. cases (eqb d d') (λ h. rw (m, h, ← (eqb-true d d' h)) (k.R01_device_is_new e')) (λ h. rw (m, h))))
  effect_as_arm (MAPD d size itt false) k ok =
      let y = Mapd (dev d) (size + 1) false in
      same _ _
      (λ d'. device_after u y ok d' ∙ cases (eqb d d') (λ h. rw h) (λ h. rw h))
      (λ c'. collection_after_lem u y ok c')
      (λ d' e'. event_after u y ok (λ d bits m. never true refl (cc)) d' e' ∙ rw (always (profile_of u.config)) (cases (eqb d d') (λ h. rw h) (λ h. rw h)))
  effect_as_arm (MAPC c p true) k ok =
      let y = Mapc (col c) (cpu p) true in
      same _ _
      (λ d'. device_after u y ok d')
      (λ c'. collection_after_lem u y ok c' ∙ cases (eqb c c') (λ h. rw h) (λ h. rw h))
      (λ d' e'. event_after u y ok (λ d bits m. never true refl (cc)) d' e')
  effect_as_arm (MAPC c p false) k ok =
      let y = Mapc (col c) (cpu p) false in
      same _ _
      (λ d'. device_after u y ok d')
      (λ c'. collection_after_lem u y ok c' ∙ cases (eqb c c') (λ h. rw h) (λ h. rw h))
      (λ d' e'. event_after u y ok (λ d bits m. never true refl (cc)) d' e' ∙ unused c ((arm_of u).event d' e') (k.R09_unused d' e'))
  effect_as_arm (MAPTI d e l c) k ok =
      let y = Mapti (dev d) (ev e) (lpi l) (col c) in
      same _ _
      (λ d'. device_after u y ok d')
      (λ c'. collection_after_lem u y ok c')
      (λ d' e'. event_after u y ok (λ d bits m. never true refl (cc)) d' e' ∙ one_event (maps (lpi l) (col c)) d e (arm_of u).event d' e')
  effect_as_arm (MAPI d e c) k ok =
      let y = Mapi (dev d) (ev e) (col c) in
      same _ _
      (λ d'. device_after u y ok d')
      (λ c'. collection_after_lem u y ok c')
      (λ d' e'. event_after u y ok (λ d bits m. never true refl (cc)) d' e' ∙ one_event (maps (lpi e) (col c)) d e (arm_of u).event d' e')
  effect_as_arm (MOVI d e c) k ok =
      let y = Movi (dev d) (ev e) (col c) in
      same _ _
      (λ d'. device_after u y ok d')
      (λ c'. collection_after_lem u y ok c')
      (λ d' e'. event_after u y ok (λ d bits m. never true refl (cc)) d' e' ∙ one_event (moves (col c)) d e (arm_of u).event d' e')
  effect_as_arm (INT d e) k ok = refl
  effect_as_arm (CLEAR d e) k ok = refl
  effect_as_arm (DISCARD d e) k ok =
      let y = Discard (dev d) (ev e) in
      same _ _
      (λ d'. device_after u y ok d')
      (λ c'. collection_after_lem u y ok c')
      (λ d' e'. event_after u y ok (λ d bits m. never true refl (cc)) d' e' ∙ one_event ends d e (arm_of u).event d' e')
  effect_as_arm (INV d e) k ok = refl
  effect_as_arm (INVALL c) k ok = refl
  effect_as_arm (SYNC p) k ok = refl
  effect_as_arm (MOVALL p q) k ok = refl
