-- Document 01, "Sizes", and what "Refusal numbers" says of 1: which configurations are accepted, which rings are sound, and a fresh unit.
-- Assumes nothing.
use Rattle.std.specs.Prelude.{ℕ, ◌+◌, ◌*◌, ◌%◌, Bool, true, false, ◌&&◌, ◌||◌, not, List, [], ◌∷◌, take, replicate, leb, ltb, eqb, if◌then◌else◌}
use Rattle.model.specs.declared.GicVcpuId.{GicVcpuId}
use Rattle.model.specs.declared.ItsConfig.{ItsConfig}
use Rattle.model.specs.declared.ItsRegisters.{ItsRegisters}
use Rattle.model.specs.declared.ItsState.{ItsState}
use Rattle.model.specs.Choose.{is_found}
use Rattle.model.specs.Arm.{◌of◌, ◌in_place◌, ◌holding◌, CBASER_Physical_Address, CBASER_Size, BASER_Type, BASER_Entry_Size, of_devices, of_collections, page, command_size, LPI_base}
use Rattle.model.specs.With.{a_unit, the_registers, a_config}
use Rattle.model.specs.Profile.{is_profile}
use Rattle.model.specs.Table.{look}
use Rattle.model.specs.Keys.{same_processor, no_device, no_collection, no_translation}

-- The processors of a configuration: the first count of the sixteen.
abbrev pub processors_of : ItsConfig → List GicVcpuId
processors_of k = take k.processor_count k.processors

-- the processor is listed
unfoldable pub listed : ItsConfig → GicVcpuId → Bool
listed k p = is_found (look (same_processor p) (processors_of k))

-- none twice
abbrev pub none_twice : List GicVcpuId → Bool
none_twice [] = true
none_twice (p ∷ ps) = not (is_found (look (same_processor p) ps)) && none_twice ps

-- 01's sizes: LPI limit 8,192 to 16,777,215. Budget 1 to 1,024 commands a write. Frame 65,536 or 131,072 bytes. 1 to 16 processors, none twice
unfoldable pub sizes_in01 : ItsConfig → Bool
sizes_in01 k =
    (leb LPI_base k.lpi_limit && leb k.lpi_limit 16777215)
    && ((leb 1 k.command_budget && leb k.command_budget 1024)
    && ((eqb k.frame_size 65536 || eqb k.frame_size 131072)
    && ((leb 1 k.processor_count && leb k.processor_count 16)
    && none_twice (processors_of k))))

-- and a profile that there is (02, A3)
unfoldable pub sound_config : ItsConfig → Bool
sound_config k = sizes_in01 k && is_profile k.profile

-- The ring. CBASER base is bits 51:12, pages are bits 7:0 plus 1.
abbrev pub queue_base : ℕ → ℕ
queue_base cbaser = CBASER_Physical_Address in_place cbaser

-- the queue size, in bytes
abbrev pub queue_size : ℕ → ℕ
queue_size cbaser = (CBASER_Size of cbaser + 1) * page

-- an offset into the queue: a multiple of 32 below the queue size
abbrev pub is_queue_offset : ℕ → ℕ → Bool
is_queue_offset cbaser offset = eqb (offset % command_size) 0 && ltb offset (queue_size cbaser)

-- a sound ring: CBASER zero with both offsets zero, or a nonzero base with both offsets multiples of 32 below the queue size
unfoldable pub sound_ring : ItsRegisters → Bool
sound_ring r =
    if eqb r.cbaser 0
    then eqb r.creadr 0 && eqb r.cwriter 0
    else not (eqb (queue_base r.cbaser) 0)
    && (is_queue_offset r.cbaser r.creadr && is_queue_offset r.cbaser r.cwriter)

-- configuration and ring are sound
abbrev pub sound : ItsConfig → ItsRegisters → Bool
sound k r = sound_config k && sound_ring r

-- a call on a unit whose configuration or ring is unsound is refused
abbrev pub sound_unit : ItsState → Bool
sound_unit u = sound u.config u.registers

-- A fresh unit.

-- a BASER of a table with entries of 8 bytes (Entry_Size is one less)
abbrev pub baser_of : ℕ → ℕ
baser_of type = BASER_Type holding type + BASER_Entry_Size holding 7

-- BASER 0 is of devices and BASER 1 of collections; the others are of nothing
abbrev pub fresh_basers : List ℕ
fresh_basers = baser_of of_devices ∷ baser_of of_collections ∷ replicate 6 0

-- disabled, not stalled, CBASER and both offsets zero
abbrev pub fresh_registers : ItsRegisters
fresh_registers = the_registers false false 0 0 0 fresh_basers

-- 32 devices, 32 collections, and a table of 256 translation records, all free
abbrev pub fresh_unit : ItsConfig → ItsState
fresh_unit k = a_unit k fresh_registers (replicate 32 no_device) (replicate 32 no_collection) (replicate 256 no_translation)

-- The configuration of a unit that has none: no size of it is allowed, so the unit answers 1 to everything.
abbrev pub no_config : ItsConfig
no_config = a_config 0 0 0 0 0 (replicate 16 (record { 0 = 0 }))

-- a fresh unit with that configuration
abbrev pub answers_no_unit : ItsState
answers_no_unit = fresh_unit no_config
