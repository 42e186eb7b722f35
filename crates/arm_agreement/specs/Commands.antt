-- Arm's commands and how four doublewords are read as one: by docs/ARM.md's commands (F38 to F46) and the fields of Arm.antt alone.
-- Assumes nothing.
use Rattle.std.specs.Prelude.{ℕ, Bool, List, eqb, if◌then◌else◌, None, Option, Some}
use Rattle.model.specs.Arm.{bits, CommandField, dw, ◌from◌, Opcode, DeviceID, EventID, Size, pINTID, ICID, ITT_addr, RDbase, «V», op_MOVI, op_INT, op_CLEAR, op_SYNC, op_MAPD, op_MAPC, op_MAPTI, op_MAPI, op_INV, op_INVALL, op_DISCARD}

-- A command with the numbers of its fields. The virtual ones (GICv4) are unknown to a unit whose TYPER.Virtual is 0 (F11, F57).
pub data ArmCommand : Type 0 where
  -- MAPD: DeviceID, Size, ITT_addr, V
  MAPD : ℕ → ℕ → ℕ → Bool → ArmCommand
  -- MAPC: ICID, RDbase, V
  MAPC : ℕ → ℕ → Bool → ArmCommand
  -- MAPTI: DeviceID, EventID, pINTID, ICID
  MAPTI : ℕ → ℕ → ℕ → ℕ → ArmCommand
  -- MAPI: DeviceID, EventID, ICID
  MAPI : ℕ → ℕ → ℕ → ArmCommand
  -- MOVI: DeviceID, EventID, ICID
  MOVI : ℕ → ℕ → ℕ → ArmCommand
  -- INT, CLEAR, DISCARD, INV: DeviceID, EventID
  INT : ℕ → ℕ → ArmCommand
  CLEAR : ℕ → ℕ → ArmCommand
  DISCARD : ℕ → ℕ → ArmCommand
  INV : ℕ → ℕ → ArmCommand
  -- INVALL: ICID
  INVALL : ℕ → ArmCommand
  -- SYNC: RDbase
  SYNC : ℕ → ArmCommand
  -- MOVALL: RDbase1, RDbase2
  MOVALL : ℕ → ℕ → ArmCommand

-- the opcode of MOVALL
abbrev pub op_MOVALL : ℕ
op_MOVALL = 0x0E

-- RDbase2 of MOVALL
abbrev pub RDbase2 : CommandField
RDbase2 = dw 3 (bits 50 16)

-- V of MAPD and MAPC
abbrev pub is_valid : List ℕ → Bool
is_valid ws = eqb («V» from ws) 1

-- the command in four doublewords; none where the opcode is no command's
unfoldable pub command_in : List ℕ → Option ArmCommand
command_in ws =
    if eqb (Opcode from ws) op_MAPD then Some (MAPD (DeviceID from ws) (Size from ws) (ITT_addr from ws) (is_valid ws)) else
    if eqb (Opcode from ws) op_MAPC then Some (MAPC (ICID from ws) (RDbase from ws) (is_valid ws)) else
    if eqb (Opcode from ws) op_MAPTI then Some (MAPTI (DeviceID from ws) (EventID from ws) (pINTID from ws) (ICID from ws)) else
    if eqb (Opcode from ws) op_MAPI then Some (MAPI (DeviceID from ws) (EventID from ws) (ICID from ws)) else
    if eqb (Opcode from ws) op_MOVI then Some (MOVI (DeviceID from ws) (EventID from ws) (ICID from ws)) else
    if eqb (Opcode from ws) op_INT then Some (INT (DeviceID from ws) (EventID from ws)) else
    if eqb (Opcode from ws) op_CLEAR then Some (CLEAR (DeviceID from ws) (EventID from ws)) else
    if eqb (Opcode from ws) op_DISCARD then Some (DISCARD (DeviceID from ws) (EventID from ws)) else
    if eqb (Opcode from ws) op_INV then Some (INV (DeviceID from ws) (EventID from ws)) else
    if eqb (Opcode from ws) op_INVALL then Some (INVALL (ICID from ws)) else
    if eqb (Opcode from ws) op_SYNC then Some (SYNC (RDbase from ws)) else
    if eqb (Opcode from ws) op_MOVALL then Some (MOVALL (RDbase from ws) (RDbase2 from ws)) else
    None
