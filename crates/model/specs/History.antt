-- Document 01, "In force", and document 02, A3, command by command, over the commands carried out, without tables. A history lists the commands carried out, the
-- last one first: `x ∷ h` is h, and then x. Paragraph.antt says the same in the paragraph's own words.
-- Assumes nothing.
use Rattle.std.specs.Prelude.{ℕ, true, false, ◌&&◌, List, [], ◌∷◌, if◌then◌else◌, None, Option, Some}
use Rattle.model.specs.declared.ItsDeviceId.{ItsDeviceId}
use Rattle.model.specs.declared.EventId.{EventId}
use Rattle.model.specs.declared.CollectionId.{CollectionId}
use Rattle.model.specs.declared.LpiId.{LpiId}
use Rattle.model.specs.declared.GicVcpuId.{GicVcpuId}
use Rattle.model.specs.declared.Delivery.{Delivery}
use Rattle.model.specs.declared.Command.{Command}
use Rattle.model.specs.declared.Command.TheVariants.{Mapd, Mapc, Mapti, Mapi, Movi, Int, Clear, Discard, Inv, Invall, Sync}
use Rattle.model.specs.Choose.{when_found}
use Rattle.model.specs.Profile.{Profile, mapd_ends}
use Rattle.model.specs.Keys.{delivery, event_as_lpi, same_device, same_collection, same_pair}

-- What a command says of something that can be mapped.
pub data Says (A : Type 0) : Type 0 where
  -- it is mapped, with this
  maps_it : A → Says A
  -- it is not mapped any more
  unmaps_it : Says A
  -- nothing
  silent : Says A

-- what is there after a command, and after a history: the last command that says something decides
abbrev pub after : {A : Type 0} → Says A → Option A → Option A
after (maps_it a) o = Some a
after unmaps_it o = None
after silent o = o

-- what is there after the commands of a history
abbrev pub now : {A : Type 0} → (Command → Says A) → List Command → Option A
now says [] = None
now says (x ∷ h) = after (says x) (now says h)

-- A device is mapped if its last MAPD carried out was valid; with its event bits.
unfoldable pub of_device_says : ItsDeviceId → Command → Says ℕ
of_device_says d (Mapd d' bits true) = if same_device d' d then maps_it bits else silent
of_device_says d (Mapd d' bits false) = if same_device d' d then unmaps_it else silent
of_device_says d (Mapc c p valid) = silent
of_device_says d (Mapti d' e l c) = silent
of_device_says d (Mapi d' e c) = silent
of_device_says d (Movi d' e c) = silent
of_device_says d (Int d' e) = silent
of_device_says d (Clear d' e) = silent
of_device_says d (Discard d' e) = silent
of_device_says d (Inv d' e) = silent
of_device_says d (Invall c) = silent
of_device_says d Sync = silent

-- the event bits of a mapped device
abbrev pub device_now : ItsDeviceId → List Command → Option ℕ
device_now d h = now (of_device_says d) h

-- A collection is mapped if its last MAPC carried out was valid; with its processor.
unfoldable pub of_collection_says : CollectionId → Command → Says GicVcpuId
of_collection_says c (Mapd d bits valid) = silent
of_collection_says c (Mapc c' p true) = if same_collection c' c then maps_it p else silent
of_collection_says c (Mapc c' p false) = if same_collection c' c then unmaps_it else silent
of_collection_says c (Mapti d e l c') = silent
of_collection_says c (Mapi d e c') = silent
of_collection_says c (Movi d e c') = silent
of_collection_says c (Int d e) = silent
of_collection_says c (Clear d e) = silent
of_collection_says c (Discard d e) = silent
of_collection_says c (Inv d e) = silent
of_collection_says c (Invall c') = silent
of_collection_says c Sync = silent

-- the processor of a mapped collection
abbrev pub collection_now : CollectionId → List Command → Option GicVcpuId
collection_now c h = now (of_collection_says c) h

-- A collection's processor is that of its last valid MAPC: one that is not valid says nothing of it.
abbrev pub only_maps : {A : Type 0} → Says A → Says A
only_maps (maps_it a) = maps_it a
only_maps unmaps_it = silent
only_maps silent = silent

-- the processor of the last valid MAPC
abbrev pub processor_now : CollectionId → List Command → Option GicVcpuId
processor_now c h = now (λ x. only_maps (of_collection_says c x)) h

-- What a command is to a pair.
pub data Part : Type 0 where
  -- a MAPTI or MAPI of it
  maps : LpiId → CollectionId → Part
  -- a MOVI of it
  moves : CollectionId → Part
  -- a DISCARD of it, or a MAPD of its device that ends its pairs: an invalid one, in strict any
  ends : Part
  -- an invalid MAPC, which ends it if the pair is in that collection at that moment
  ends_in : CollectionId → Part
  -- nothing
  leaves : Part

-- what each command is to the pair
unfoldable pub part_in : Profile → ItsDeviceId → EventId → Command → Part
part_in f d e (Mapd d' bits valid) = if mapd_ends f valid && same_device d' d then ends else leaves
part_in f d e (Mapc c p true) = leaves
part_in f d e (Mapc c p false) = ends_in c
part_in f d e (Mapti d' e' l c) = if same_pair d' e' d e then maps l c else leaves
part_in f d e (Mapi d' e' c) = if same_pair d' e' d e then maps (event_as_lpi e') c else leaves
part_in f d e (Movi d' e' c) = if same_pair d' e' d e then moves c else leaves
part_in f d e (Int d' e') = leaves
part_in f d e (Clear d' e') = leaves
part_in f d e (Discard d' e') = if same_pair d' e' d e then ends else leaves
part_in f d e (Inv d' e') = leaves
part_in f d e (Invall c) = leaves
part_in f d e Sync = leaves

-- what a pair in force has
pub record PairEntry : Type 0 where
  pub lpi : LpiId
  pub collection : CollectionId

-- an LPI and a collection
abbrev pub an_entry : LpiId → CollectionId → PairEntry
an_entry l c = record { lpi = l; collection = c }

-- what a command leaves of a pair
abbrev pub pair_after : Part → Option PairEntry → Option PairEntry
pair_after (maps l c) o = Some (an_entry l c)
pair_after (moves c) o = when_found o (λ x. Some (an_entry x.lpi c))
pair_after ends o = None
pair_after (ends_in c) o = when_found o (λ x. if same_collection x.collection c then None else Some x)
pair_after leaves o = o

-- what a pair in force has, and nothing of one that is not in force
abbrev pub pair_now : Profile → ItsDeviceId → EventId → List Command → Option PairEntry
pair_now f d e [] = None
pair_now f d e (x ∷ h) = pair_after (part_in f d e x) (pair_now f d e h)

-- where a message of the pair goes: the LPI of its last MAPTI or MAPI, and the processor of its collection
unfoldable pub delivery_of : Profile → List Command → ItsDeviceId → EventId → Option Delivery
delivery_of f h d e =
    when_found (pair_now f d e h) (λ x.
    when_found (processor_now x.collection h) (λ p.
    Some (delivery x.lpi p)))
