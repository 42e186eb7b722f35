-- The mappings in force as a unit holds them, in the order of its tables. proofs/InForce.antt shows that they are those of the history.
-- Assumes nothing.
use Rattle.std.specs.Prelude.{ℕ, zero, suc, Bool, ◌&&◌, List, [], ◌∷◌, Option, None, Some, eqb, ltb, length, get_or, if◌then◌else◌}
use Rattle.model.specs.declared.ItsDeviceId.{ItsDeviceId}
use Rattle.model.specs.declared.EventId.{EventId}
use Rattle.model.specs.declared.CollectionId.{CollectionId}
use Rattle.model.specs.declared.LpiId.{LpiId}
use Rattle.model.specs.declared.GicVcpuId.{GicVcpuId}
use Rattle.model.specs.declared.ItsDevice.{ItsDevice}
use Rattle.model.specs.declared.Translation.{Translation}
use Rattle.model.specs.declared.ItsState.{ItsState}
use Rattle.model.specs.Choose.{when_found, if_found}
use Rattle.model.specs.Table.{first_at}
use Rattle.model.specs.Keys.{is_device, is_pair, no_device, no_translation}
use Rattle.model.specs.Step.{collection_of}
use Rattle.mappings.specs.declared.Mapping.{Mapping}

-- a pair in force, with its LPI, its collection and its processor
abbrev pub a_mapping : ItsDeviceId → EventId → LpiId → CollectionId → GicVcpuId → Mapping
a_mapping d e l c p = record { device = d; event = e; lpi = l; collection = c; target = p }

-- Record i of a table of so many records counts if the search for its own key ends there: then it is used, and no lower-numbered one has the key.
abbrev pub counts : ℕ → ℕ → ℕ → Bool
counts size first i = ltb first size && eqb first i

-- Does record i of the translations, which is r, count?
abbrev pub pair_counts : ItsState → ℕ → Translation → Bool
pair_counts u i r = counts (length u.translations) (first_at (is_pair r.device r.event) u.translations) i

-- Does record i of the devices, which is r?
abbrev pub device_counts : ItsState → ℕ → ItsDevice → Bool
device_counts u i r = counts (length u.devices) (first_at (is_device r.device) u.devices) i

-- what the record r, which is record i of the translations, stands for: a pair whose collection is mapped
abbrev pub mapping_of : ItsState → ℕ → Translation → Option Mapping
mapping_of u i r =
    if pair_counts u i r
    then when_found (collection_of u r.collection) (λ k. Some (a_mapping r.device r.event r.lpi r.collection k.target))
    else None

unfoldable pub mapping_at : ItsState → ℕ → Option Mapping
mapping_at u i = mapping_of u i (get_or u.translations i no_translation)

-- what the record r, which is record i of the devices, stands for
abbrev pub mapped_device : ItsState → ℕ → ItsDevice → Option ItsDevice
mapped_device u i r = if device_counts u i r then Some r else None

unfoldable pub mapped_at : ItsState → ℕ → Option ItsDevice
mapped_at u i = mapped_device u i (get_or u.devices i no_device)

-- what stands at n places from the place i on, where something does
abbrev pub ones_there : {A : Type 0} → (ℕ → Option A) → ℕ → ℕ → List A
ones_there at zero i = []
ones_there at (suc n) i = if_found (at i) (λ x. x ∷ ones_there at n (suc i)) (ones_there at n (suc i))

-- THE LIST of the mappings in force, and that of the mapped devices
unfoldable pub mappings_of : ItsState → List Mapping
mappings_of u = ones_there (mapping_at u) (length u.translations) 0

unfoldable pub devices_of : ItsState → List ItsDevice
devices_of u = ones_there (mapped_at u) (length u.devices) 0
