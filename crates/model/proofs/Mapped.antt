-- "A device or collection is mapped if its last MAPD or MAPC carried out was valid", and "its processor is that of the last valid MAPC of that
-- collection": the paragraph's words say what History.antt computes.
-- Assumes nothing.
use Rattle.std.specs.Prelude.{Some}
use Prim.Native.Nat.{ℕ}
use mathlib.Core.Path.{◌≡◌, refl, ap}
use mathlib.Core.Bool.{Bool, true, false}
use mathlib.Core.List.{List}
use mathlib.Core.Logic.{◌↔◌}
use borrow.Author.Tests.{eq-eqb}
use Rattle.model.specs.declared.ItsDeviceId.{ItsDeviceId}
use Rattle.model.specs.declared.CollectionId.{CollectionId}
use Rattle.model.specs.declared.GicVcpuId.{GicVcpuId}
use Rattle.model.specs.declared.Command.{Command}
use Rattle.model.specs.declared.Command.TheVariants.{Mapd, Mapc, Mapti, Mapi, Movi, Int, Clear, Discard, Inv, Invall, Sync}
use Rattle.model.specs.Keys.{same_device, same_collection}
use Rattle.model.specs.History.{Says, maps_it, unmaps_it, silent, of_device_says, device_now, of_collection_says, collection_now, only_maps, processor_now}
use Rattle.model.specs.Paragraph.{MapdOf, DeviceMapped, MapcOf, CollectionMapped, ValidMapcOf, ProcessorOf}
use Rattle.model.proofs.Cases.{cases, never}
use Rattle.model.proofs.KeyLaws.{device_eq, collection_eq}
use Rattle.model.proofs.LastLaws.{Speak, last_iff}

-- Of a device.
module _ (d : ItsDeviceId) where
  -- what a command says tells which command it is
  abbrev SaysIt : Says ℕ → Command → Type 0
  SaysIt (maps_it bits) x = x ≡ Mapd d bits true
  SaysIt unmaps_it x = (bits : ℕ) × (x ≡ Mapd d bits false)
  SaysIt silent x = Unit {0}

  says_it : (x : Command) → SaysIt (of_device_says d x) x
  unfolding of_device_says
  says_it (Mapd d' bits true) = cases (same_device d' d) (λ s. rw s (ap (λ z. Mapd z bits true) (device_eq d' d s))) (λ s. rw s tt)
  says_it (Mapd d' bits false) = cases (same_device d' d) (λ s. rw s (bits, ap (λ z. Mapd z bits false) (device_eq d' d s))) (λ s. rw s tt)
  says_it (Mapc c p valid) = tt
  says_it (Mapti d' e l c) = tt
  says_it (Mapi d' e c) = tt
  says_it (Movi d' e c) = tt
  says_it (Int d' e) = tt
  says_it (Clear d' e) = tt
  says_it (Discard d' e) = tt
  says_it (Inv d' e) = tt
  says_it (Invall c) = tt
  says_it Sync = tt

  a_mapd_maps : (bits : ℕ) → of_device_says d (Mapd d bits true) ≡ maps_it bits
  unfolding of_device_says
  a_mapd_maps bits = rw (eq-eqb d.0 d.0 refl)

  a_mapd_speaks : (bits : ℕ) (valid : Bool) → of_device_says d (Mapd d bits valid) ≡ silent → ⊥
  unfolding of_device_says
  a_mapd_speaks bits true s = let m : maps_it bits ≡ silent = rw (eq-eqb d.0 d.0 refl) at s in never true refl (cc)
  a_mapd_speaks bits false s = let m : ◌≡◌ {A = Says ℕ} unmaps_it silent = rw (eq-eqb d.0 d.0 refl) at s in never true refl (cc)

  speak_device : Speak (of_device_says d) (MapdOf d)
  speak_device =
      record {
        said = λ y a e. (a, true, rw e at (says_it y));
        unsaid = λ y e. let (bits, q) : (bits : ℕ) × (y ≡ Mapd d bits false) = rw e at (says_it y) in (bits, false, q);
        spoken = λ y m s. a_mapd_speaks m.0 m.1 (rw m.2 at s);
      }

  pub device_mapped_lem : (h : List Command) (bits : ℕ) → DeviceMapped h d bits ↔ (device_now d h ≡ Some bits)
  device_mapped_lem = last_iff (of_device_says d) (MapdOf d) speak_device (λ bits. Mapd d bits true) a_mapd_maps (λ x bits e. rw e at (says_it x))

-- Of a collection.
module _ (c : CollectionId) where
  abbrev SaysOf : Says GicVcpuId → Command → Type 0
  SaysOf (maps_it p) x = x ≡ Mapc c p true
  SaysOf unmaps_it x = (p : GicVcpuId) × (x ≡ Mapc c p false)
  SaysOf silent x = Unit {0}

  says_of : (x : Command) → SaysOf (of_collection_says c x) x
  unfolding of_collection_says
  says_of (Mapd d bits valid) = tt
  says_of (Mapc c' p true) = cases (same_collection c' c) (λ s. rw s (ap (λ z. Mapc z p true) (collection_eq c' c s))) (λ s. rw s tt)
  says_of (Mapc c' p false) = cases (same_collection c' c) (λ s. rw s (p, ap (λ z. Mapc z p false) (collection_eq c' c s))) (λ s. rw s tt)
  says_of (Mapti d e l c') = tt
  says_of (Mapi d e c') = tt
  says_of (Movi d e c') = tt
  says_of (Int d e) = tt
  says_of (Clear d e) = tt
  says_of (Discard d e) = tt
  says_of (Inv d e) = tt
  says_of (Invall c') = tt
  says_of Sync = tt

  a_mapc_maps : (p : GicVcpuId) → of_collection_says c (Mapc c p true) ≡ maps_it p
  unfolding of_collection_says
  a_mapc_maps p = rw (eq-eqb c.0 c.0 refl)

  a_mapc_speaks : (p : GicVcpuId) (valid : Bool) → of_collection_says c (Mapc c p valid) ≡ silent → ⊥
  unfolding of_collection_says
  a_mapc_speaks p true s = let m : maps_it p ≡ silent = rw (eq-eqb c.0 c.0 refl) at s in never true refl (cc)
  a_mapc_speaks p false s = let m : ◌≡◌ {A = Says GicVcpuId} unmaps_it silent = rw (eq-eqb c.0 c.0 refl) at s in never true refl (cc)

  speak_collection : Speak (of_collection_says c) (MapcOf c)
  speak_collection =
      record {
        said = λ y a e. (a, true, rw e at (says_of y));
        unsaid = λ y e. let (p, q) : (p : GicVcpuId) × (y ≡ Mapc c p false) = rw e at (says_of y) in (p, false, q);
        spoken = λ y m s. a_mapc_speaks m.0 m.1 (rw m.2 at s);
      }

  pub collection_mapped_lem : (h : List Command) (p : GicVcpuId) → CollectionMapped h c p ↔ (collection_now c h ≡ Some p)
  collection_mapped_lem = last_iff (of_collection_says c) (MapcOf c) speak_collection (λ p. Mapc c p true) a_mapc_maps (λ x p e. rw e at (says_of x))

  -- Of its processor.
  abbrev SaysProcessor : Command → Says GicVcpuId
  SaysProcessor x = only_maps (of_collection_says c x)

  -- only what maps it is kept
  only_maps_lem : (s : Says GicVcpuId) (p : GicVcpuId) → only_maps s ≡ maps_it p → s ≡ maps_it p
  only_maps_lem (maps_it q) p e = e
  only_maps_lem unmaps_it p e = let m : silent ≡ maps_it p = e in cc
  only_maps_lem silent p e = e

  never_unmaps : (s : Says GicVcpuId) → only_maps s ≡ unmaps_it → ⊥
  never_unmaps (maps_it q) e = let m : maps_it q ≡ unmaps_it = e in never true refl (cc)
  never_unmaps unmaps_it e = let m : ◌≡◌ {A = Says GicVcpuId} silent unmaps_it = e in never true refl (cc)
  never_unmaps silent e = let m : ◌≡◌ {A = Says GicVcpuId} silent unmaps_it = e in never true refl (cc)

  says_processor : (x : Command) (p : GicVcpuId) → SaysProcessor x ≡ maps_it p → x ≡ Mapc c p true
  says_processor x p e = rw (only_maps_lem (of_collection_says c x) p e) at (says_of x)

  processor_maps : (p : GicVcpuId) → SaysProcessor (Mapc c p true) ≡ maps_it p
  processor_maps p = rw (a_mapc_maps p)

  speak_processor : Speak SaysProcessor (ValidMapcOf c)
  speak_processor =
      record {
        said = λ y a e. (a, says_processor y a e);
        unsaid = λ y e. absurd (never_unmaps (of_collection_says c y) e);
        spoken = λ y m s. let z : maps_it m.0 ≡ silent = rw (processor_maps m.0) at (rw m.1 at s) in never true refl (cc);
      }

  pub processor_of : (h : List Command) (p : GicVcpuId) → ProcessorOf h c p ↔ (processor_now c h ≡ Some p)
  processor_of = last_iff SaysProcessor (ValidMapcOf c) speak_processor (λ p. Mapc c p true) processor_maps says_processor

  -- the processor of a mapped collection: its last MAPC was valid, and so was its last valid one
  pub mapped_processor : (h : List Command) (p : GicVcpuId) → collection_now c h ≡ Some p → processor_now c h ≡ Some p
  mapped_processor h p q =
      let l = (collection_mapped_lem h p).1 q in
      (processor_of h p).0 (record { later = l.later; before = l.before; there = l.there; is_one = (p, refl); none_later = λ y i m. l.none_later y (i.0, true, i.1) m })
