-- Document 01, "Commands": from four words to one of the kinds, or unknown. Each number is the field of Arm's command of that name.
-- Assumes nothing.
use Rattle.std.specs.Prelude.{ℕ, ◌+◌, Bool, List, eqb, if◌then◌else◌, Err, Ok}
use Rattle.model.specs.declared.ItsDeviceId.{ItsDeviceId}
use Rattle.model.specs.declared.EventId.{EventId}
use Rattle.model.specs.declared.CollectionId.{CollectionId}
use Rattle.model.specs.declared.LpiId.{LpiId}
use Rattle.model.specs.declared.GicVcpuId.{GicVcpuId}
use Rattle.model.specs.declared.Command.TheVariants.{Mapd, Mapc, Mapti, Mapi, Movi, Int, Clear, Discard, Inv, Invall, Sync}
use Rattle.model.specs.Answer.{Decoded}
use Rattle.model.specs.Arm.{bits, CommandField, dw, ◌from◌, Opcode, DeviceID, EventID, Size, pINTID, ICID, «V», op_MOVI, op_INT, op_CLEAR, op_SYNC, op_MAPD, op_MAPC, op_MAPTI, op_MAPI, op_INV, op_INVALL, op_DISCARD}

-- opcode w0 7:0
abbrev pub opcode_of : List ℕ → ℕ
opcode_of ws = Opcode from ws

-- device w0 63:32
abbrev pub device_field : List ℕ → ItsDeviceId
device_field ws = record { 0 = DeviceID from ws }

-- event w1 31:0
abbrev pub event_field : List ℕ → EventId
event_field ws = record { 0 = EventID from ws }

-- collection w2 15:0
abbrev pub collection_field : List ℕ → CollectionId
collection_field ws = record { 0 = ICID from ws }

-- valid w2 bit 63
abbrev pub valid_field : List ℕ → Bool
valid_field ws = eqb («V» from ws) 1

-- MAPD: event bits w1 4:0 plus 1
abbrev pub event_bits_field : List ℕ → ℕ
event_bits_field ws = (Size from ws) + 1

-- MAPC: processor w2 31:16, the low 16 bits of Arm's RDbase
abbrev pub RDbase_low : CommandField
RDbase_low = dw 2 (bits 31 16)

-- the processor of a MAPC
abbrev pub processor_field : List ℕ → GicVcpuId
processor_field ws = record { 0 = RDbase_low from ws }

-- MAPTI: LPI w1 63:32
abbrev pub lpi_field : List ℕ → LpiId
lpi_field ws = record { 0 = pINTID from ws }

-- a decoded command is one of the kinds or unknown
unfoldable pub decode : List ℕ → Decoded
decode ws =
    if eqb (opcode_of ws) op_MAPD then Ok (Mapd (device_field ws) (event_bits_field ws) (valid_field ws)) else
    if eqb (opcode_of ws) op_MAPC then Ok (Mapc (collection_field ws) (processor_field ws) (valid_field ws)) else
    if eqb (opcode_of ws) op_MAPTI then Ok (Mapti (device_field ws) (event_field ws) (lpi_field ws) (collection_field ws)) else
    if eqb (opcode_of ws) op_MAPI then Ok (Mapi (device_field ws) (event_field ws) (collection_field ws)) else
    if eqb (opcode_of ws) op_MOVI then Ok (Movi (device_field ws) (event_field ws) (collection_field ws)) else
    if eqb (opcode_of ws) op_INT then Ok (Int (device_field ws) (event_field ws)) else
    if eqb (opcode_of ws) op_CLEAR then Ok (Clear (device_field ws) (event_field ws)) else
    if eqb (opcode_of ws) op_DISCARD then Ok (Discard (device_field ws) (event_field ws)) else
    if eqb (opcode_of ws) op_INV then Ok (Inv (device_field ws) (event_field ws)) else
    if eqb (opcode_of ws) op_INVALL then Ok (Invall (collection_field ws)) else
    if eqb (opcode_of ws) op_SYNC then Ok Sync else
    Err (record { 0 = opcode_of ws })
