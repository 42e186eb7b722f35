-- The seam: the unit's commands and mappings, seen as Arm's. What the unit numbers stands here, and nothing of what Arm says.
-- Assumes nothing.
use Rattle.std.specs.Prelude.{ℕ, ◌+◌, Bool, false, ◌&&◌, ◌||◌, not, eqb, Err, None, Ok, Option, Some}
use Rattle.model.specs.declared.ItsDeviceId.{ItsDeviceId}
use Rattle.model.specs.declared.EventId.{EventId}
use Rattle.model.specs.declared.CollectionId.{CollectionId}
use Rattle.model.specs.declared.LpiId.{LpiId}
use Rattle.model.specs.declared.GicVcpuId.{GicVcpuId}
use Rattle.model.specs.declared.Command.{Command}
use Rattle.model.specs.declared.Command.TheVariants.{Mapd, Mapc, Mapti, Mapi, Movi, Int, Clear, Discard, Inv, Invall, Sync}
use Rattle.model.specs.declared.ItsConfig.{ItsConfig}
use Rattle.model.specs.declared.ItsState.{ItsState}
use Rattle.model.specs.declared.Register.{Register}
use Rattle.model.specs.declared.Register.TheVariants.{Ctlr, Iidr, Typer, Cbaser, Cwriter, Creadr, Baser}
use Rattle.model.specs.Answer.{Decoded}
use Rattle.model.specs.Arm.{◌of◌, BASER_Valid}
use Rattle.model.specs.Choose.{when_found, if_found}
use Rattle.model.specs.Config.{listed}
use Rattle.model.specs.Step.{device_of, collection_of, translation_of, accepts, stepped}
use Rattle.model.specs.Register.{typer_value, is_stalled, value_of}
use Rattle.arm_agreement.specs.Registers.{Reg, CTLR, IIDR, TYPER, CBASER, CWRITER, CREADR, BASER}
use Rattle.arm_agreement.specs.Commands.{ArmCommand, MAPD, MAPC, MAPTI, MAPI, MOVI, INT, CLEAR, DISCARD, INV, INVALL, SYNC, MOVALL}
use Rattle.arm_agreement.specs.Mappings.{interrupt, Mappings, Announced}

-- a number as one of the unit's separate kinds: a device
abbrev pub dev : ℕ → ItsDeviceId
dev n = record { 0 = n }

-- an event
abbrev pub ev : ℕ → EventId
ev n = record { 0 = n }

-- a collection
abbrev pub col : ℕ → CollectionId
col n = record { 0 = n }

-- an LPI
abbrev pub lpi : ℕ → LpiId
lpi n = record { 0 = n }

-- a processor
abbrev pub cpu : ℕ → GicVcpuId
cpu n = record { 0 = n }

-- an Arm command as the unit has it: MAPD without ITT_addr (R26), SYNC without its processor (R38), no MOVALL (R36)
abbrev pub as_command : ArmCommand → Option Command
as_command (MAPD d size itt valid) = Some (Mapd (dev d) (size + 1) valid)
as_command (MAPC c p valid) = Some (Mapc (col c) (cpu p) valid)
as_command (MAPTI d e l c) = Some (Mapti (dev d) (ev e) (lpi l) (col c))
as_command (MAPI d e c) = Some (Mapi (dev d) (ev e) (col c))
as_command (MOVI d e c) = Some (Movi (dev d) (ev e) (col c))
as_command (INT d e) = Some (Int (dev d) (ev e))
as_command (CLEAR d e) = Some (Clear (dev d) (ev e))
as_command (DISCARD d e) = Some (Discard (dev d) (ev e))
as_command (INV d e) = Some (Inv (dev d) (ev e))
as_command (INVALL c) = Some (Invall (col c))
as_command (SYNC p) = Some Sync
as_command (MOVALL p q) = None

-- a command, or the opcode of none
abbrev pub as_decoded : ℕ → Option Command → Decoded
as_decoded opcode None = Err (record { 0 = opcode })
as_decoded opcode (Some x) = Ok x

-- the unit accepts it; one that it does not know is refused
abbrev pub takes : ItsState → ArmCommand → Bool
takes u x = if_found (as_command x) (λ y. accepts u y) false

-- the unit after it
abbrev pub unit_after_lem : ItsState → ArmCommand → ItsState
unit_after_lem u x = if_found (as_command x) (λ y. stepped u y) u

-- the unit's mappings, as its records are found
abbrev pub arm_of : ItsState → Mappings
arm_of u =
    record {
      device = λ d. when_found (device_of u (dev d)) (λ r. Some r.event_bits);
      collection = λ c. when_found (collection_of u (col c)) (λ r. Some r.target.0);
      event = λ d e. when_found (translation_of u (dev d) (ev e)) (λ r. Some (interrupt r.lpi.0 r.collection.0));
    }

-- Arm's registers as the unit numbers them
abbrev pub as_register : Reg → Register
as_register CTLR = Ctlr
as_register IIDR = Iidr
as_register TYPER = Typer
as_register CBASER = Cbaser
as_register CWRITER = Cwriter
as_register CREADR = Creadr
as_register (BASER n) = Baser n

-- what the unit holds in one
abbrev pub held : ItsState → Reg → ℕ
held u r = value_of u.config u.registers (as_register r)

-- the driver has given a table of devices and one of collections: BASER 0 and 1 are valid
abbrev pub tables_given : ItsState → Bool
tables_given u = eqb (BASER_Valid of held u (BASER 0)) 1 && eqb (BASER_Valid of held u (BASER 1)) 1

-- the unit has stopped: it is stalled, which is only so in strict, or it is enabled, and commands wait
abbrev pub stopped : ItsState → Bool
stopped u = is_stalled u.config u.registers || (u.registers.enabled && not (eqb u.registers.creadr u.registers.cwriter))

-- The tables that the driver offers in BASER: which numbers have room in them. The unit does not look (R20, R22, R23), so they can be any.
pub record Tables : Type 0 where
  pub devices : ℕ → Bool
  pub collections : ℕ → Bool

-- what the unit announces; the machine's processors are those of the configuration (S07)
abbrev pub announced_by : ItsConfig → Tables → Announced
announced_by k t =
    record {
      TYPER = typer_value k.lpi_limit;
      device_table = t.devices;
      collection_table = t.collections;
      last_LPI = k.lpi_limit;
      processor = λ p. listed k (cpu p);
    }
