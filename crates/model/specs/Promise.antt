-- The words of demand 3, over the history h of the commands carried out: where these commands send a message of a pair, and what stands behind a pair in
-- force. The demand itself is `guarantees: MappingsInForce`.
-- Assumes nothing.
use Rattle.std.specs.Prelude.{ℕ, ◌^◌, ◌≤◌, ◌<◌, ◌≡◌, true, List}
use Rattle.model.specs.declared.ItsDeviceId.{ItsDeviceId}
use Rattle.model.specs.declared.EventId.{EventId}
use Rattle.model.specs.declared.CollectionId.{CollectionId}
use Rattle.model.specs.declared.LpiId.{LpiId}
use Rattle.model.specs.declared.GicVcpuId.{GicVcpuId}
use Rattle.model.specs.declared.ItsConfig.{ItsConfig}
use Rattle.model.specs.declared.Command.{Command}
use Rattle.model.specs.Arm.{LPI_base}
use Rattle.model.specs.Profile.{Profile}
use Rattle.model.specs.Config.{listed}
use Rattle.model.specs.Paragraph.{DeviceMapped, CollectionMapped, ProcessorOf, InForce}

-- where, in the profile f, the commands of h send a message of the pair: its LPI, and the processor of its collection
pub record SentTo (f : Profile) (h : List Command) (d : ItsDeviceId) (e : EventId) (l : LpiId) (p : GicVcpuId) : Type 0 where
  pub collection : CollectionId
  pub in_force : InForce f h d e l collection
  pub processor : ProcessorOf h collection p

-- what stands behind a pair in force
pub record Backed (k : ItsConfig) (h : List Command) (d : ItsDeviceId) (l : LpiId) (c : CollectionId) : Type 0 where
  pub from : LPI_base ≤ l.0
  pub up_to : l.0 ≤ k.lpi_limit
  pub event_bits : ℕ
  pub device_mapped_lem : DeviceMapped h d event_bits
  pub processor : GicVcpuId
  pub collection_mapped_lem : CollectionMapped h c processor
  pub processor_of : ProcessorOf h c processor
  pub processor_listed : listed k processor ≡ true

-- the event lies below the capacity that its device has now: what strict promises besides of a pair in force (02, A3)
abbrev pub BelowCapacity : List Command → ItsDeviceId → EventId → Type 0
BelowCapacity h d e = (bits : ℕ) → DeviceMapped h d bits → e.0 < 2 ^ bits
