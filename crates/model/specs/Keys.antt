-- Document 01, "The part taken": device, event and collection numbers, LPIs and processor numbers stay separate kinds. When two of a kind are
-- the same, and the tests by which a record of each table is found.
-- Assumes nothing.
use Rattle.std.specs.Prelude.{ℕ, Bool, true, false, ◌&&◌, eqb}
use Rattle.model.specs.declared.ItsDeviceId.{ItsDeviceId}
use Rattle.model.specs.declared.EventId.{EventId}
use Rattle.model.specs.declared.CollectionId.{CollectionId}
use Rattle.model.specs.declared.LpiId.{LpiId}
use Rattle.model.specs.declared.GicVcpuId.{GicVcpuId}
use Rattle.model.specs.declared.Delivery.{Delivery}
use Rattle.model.specs.declared.ItsDevice.{ItsDevice}
use Rattle.model.specs.declared.ItsCollection.{ItsCollection}
use Rattle.model.specs.declared.Translation.{Translation}

-- the same device number
abbrev pub same_device : ItsDeviceId → ItsDeviceId → Bool
same_device d d' = eqb d.0 d'.0

-- the same collection number
abbrev pub same_collection : CollectionId → CollectionId → Bool
same_collection c c' = eqb c.0 c'.0

-- the same device number and the same event number
abbrev pub same_pair : ItsDeviceId → EventId → ItsDeviceId → EventId → Bool
same_pair d e d' e' = eqb d.0 d'.0 && eqb e.0 e'.0

-- the same processor number
abbrev pub same_processor : GicVcpuId → GicVcpuId → Bool
same_processor p p' = eqb p.0 p'.0

-- the record of a device, of a collection, of a pair
abbrev pub is_device : ItsDeviceId → ItsDevice → Bool
is_device d r = r.used && same_device r.device d

-- of a collection
abbrev pub is_collection : CollectionId → ItsCollection → Bool
is_collection c r = r.used && same_collection r.collection c

-- of a pair
abbrev pub is_pair : ItsDeviceId → EventId → Translation → Bool
is_pair d e r = r.used && same_pair r.device r.event d e

-- a translation of a device, whatever its event
abbrev pub of_device : ItsDeviceId → Translation → Bool
of_device d r = r.used && same_device r.device d

-- the records that are used
abbrev pub a_device : ItsDeviceId → ℕ → ItsDevice
a_device d bits = record { device = d; event_bits = bits; used = true }

-- of a collection and its processor
abbrev pub a_collection : CollectionId → GicVcpuId → ItsCollection
a_collection c p = record { collection = c; target = p; used = true }

-- of a pair, its LPI and its collection
abbrev pub a_translation : ItsDeviceId → EventId → LpiId → CollectionId → Translation
a_translation d e l c = record { device = d; event = e; lpi = l; collection = c; used = true }

-- the free ones
abbrev pub no_device : ItsDevice
no_device = record { device = record { 0 = 0 }; event_bits = 0; used = false }

-- of the table of collections
abbrev pub no_collection : ItsCollection
no_collection = record { collection = record { 0 = 0 }; target = record { 0 = 0 }; used = false }

-- of the table of translations
abbrev pub no_translation : Translation
no_translation = record { device = record { 0 = 0 }; event = record { 0 = 0 }; lpi = record { 0 = 0 }; collection = record { 0 = 0 }; used = false }

-- where a message goes
abbrev pub delivery : LpiId → GicVcpuId → Delivery
delivery l p = record { lpi = l; target = p }

-- MAPI: the LPI is the event's number
abbrev pub event_as_lpi : EventId → LpiId
event_as_lpi e = record { 0 = e.0 }
