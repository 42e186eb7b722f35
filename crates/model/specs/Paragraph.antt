-- Document 01, "In force", with what document 02, A3, adds to it, in the paragraph's own words: which commands stand where in the history. A history lists the commands carried out,
-- the last one first, so in `later ++ x ∷ before` the commands of `later` came after x. proofs/Paragraph.antt shows that these say what
-- History.antt computes.
-- Assumes nothing.
use Rattle.std.specs.Prelude.{ℕ, ◌≡◌, Bool, true, false, List, [], ◌∷◌, ◌++◌, ◌⊎◌}
use Rattle.model.specs.declared.ItsDeviceId.{ItsDeviceId}
use Rattle.model.specs.declared.EventId.{EventId}
use Rattle.model.specs.declared.CollectionId.{CollectionId}
use Rattle.model.specs.declared.LpiId.{LpiId}
use Rattle.model.specs.declared.GicVcpuId.{GicVcpuId}
use Rattle.model.specs.declared.Command.{Command}
use Rattle.model.specs.declared.Command.TheVariants.{Mapd, Mapc, Mapti, Mapi, Movi, Discard}
use Rattle.model.specs.Profile.{Profile, base, strict}
use Rattle.model.specs.Keys.{event_as_lpi}

infix 50 ◌∈◌
-- the command is among them
abbrev pub ◌∈◌ : Command → List Command → Type 0
x ∈ [] = ⊥
x ∈ (y ∷ ys) = (x ≡ y) ⊎ (x ∈ ys)

-- `Last Is h x`: x is the last command of h of which Is holds. It is among them, and none of those after it is such a command.
pub record Last (Is : Command → Type 0) (h : List Command) (x : Command) : Type 0 where
  pub later : List Command
  pub before : List Command
  pub there : h ≡ later ++ x ∷ before
  pub is_one : Is x
  pub none_later : (y : Command) → Is y → y ∈ later → ⊥

-- A device is mapped if its last MAPD carried out was valid. A MAPD of the device:
abbrev pub MapdOf : ItsDeviceId → Command → Type 0
MapdOf d x = (bits : ℕ) × (valid : Bool) × (x ≡ Mapd d bits valid)

-- mapped, with these event bits
abbrev pub DeviceMapped : List Command → ItsDeviceId → ℕ → Type 0
DeviceMapped h d bits = Last (MapdOf d) h (Mapd d bits true)

-- A collection is mapped if its last MAPC carried out was valid. A MAPC of the collection:
abbrev pub MapcOf : CollectionId → Command → Type 0
MapcOf c x = (p : GicVcpuId) × (valid : Bool) × (x ≡ Mapc c p valid)

-- mapped, with this processor
abbrev pub CollectionMapped : List Command → CollectionId → GicVcpuId → Type 0
CollectionMapped h c p = Last (MapcOf c) h (Mapc c p true)

-- A collection's processor is that of the last valid MAPC of that collection. A valid MAPC of it:
abbrev pub ValidMapcOf : CollectionId → Command → Type 0
ValidMapcOf c x = (p : GicVcpuId) × (x ≡ Mapc c p true)

-- the processor is p
abbrev pub ProcessorOf : List Command → CollectionId → GicVcpuId → Type 0
ProcessorOf h c p = Last (ValidMapcOf c) h (Mapc c p true)

-- A MAPTI or MAPI of the pair, with its LPI and its collection; a MAPI's LPI is its event.
abbrev pub Maps : ItsDeviceId → EventId → LpiId → CollectionId → Command → Type 0
Maps d e l c x = (x ≡ Mapti d e l c) ⊎ ((x ≡ Mapi d e c) × (l ≡ event_as_lpi e))

-- a MAPTI or MAPI of the pair, whatever its LPI and collection
abbrev pub MappingOf : ItsDeviceId → EventId → Command → Type 0
MappingOf d e x = (l : LpiId) × (c : CollectionId) × Maps d e l c x

-- The collection that a pair names, mapped into `first` and then the later commands: that of this command or the last later MOVI.
abbrev pub MoviOf : ItsDeviceId → EventId → Command → Type 0
MoviOf d e x = (c : CollectionId) × (x ≡ Movi d e c)

-- the collection named is c
abbrev pub Names : ItsDeviceId → EventId → CollectionId → List Command → CollectionId → Type 0
Names d e first later c = ((c ≡ first) × ((x : Command) → MoviOf d e x → x ∈ later → ⊥)) ⊎ Last (MoviOf d e) later (Movi d e c)

-- A MAPD of its device that ends a pair is an invalid one. In strict, "in force" gains a valid MAPD of the device as an ending: there it is any.
abbrev pub Ending : Profile → Bool → Type 0
Ending base valid = valid ≡ false
Ending strict valid = Unit {0}

-- A pair is in force if it has a carried-out MAPTI or MAPI and, after the last of these, no DISCARD of it, no invalid MAPD of its device (in strict no
-- MAPD of its device), no invalid MAPC of the collection it named at that moment. Its LPI is that of this command, its collection that of this
-- command or the last later MOVI.
pub record InForce (f : Profile) (h : List Command) (d : ItsDeviceId) (e : EventId) (l : LpiId) (c : CollectionId) : Type 0 where
  pub mapping : Command
  pub first : CollectionId
  pub maps : Maps d e l first mapping
  pub last : Last (MappingOf d e) h mapping
  pub no_discard : Discard d e ∈ last.later → ⊥
  pub no_ending_mapd : (bits : ℕ) (valid : Bool) → Ending f valid → Mapd d bits valid ∈ last.later → ⊥
  pub no_invalid_mapc : (c' : CollectionId) (p : GicVcpuId) (after until : List Command) → last.later ≡ after ++ Mapc c' p false ∷ until → Names d e first until c' → ⊥
  pub collection : Names d e first last.later c
