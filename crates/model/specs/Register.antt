-- Document 01, "Registers", and document 02, A4: which register an offset belongs to, which widths it takes, what is read, and what a write merges.
-- Assumes nothing.
use Rattle.std.specs.Prelude.{ℕ, zero, suc, ◌+◌, ◌-◌, ◌*◌, ◌/◌, ◌%◌, ◌^◌, Bool, true, false, ◌&&◌, ◌||◌, get_or, leb, ltb, eqb, if◌then◌else◌}
use Rattle.model.specs.declared.ItsRegisters.{ItsRegisters}
use Rattle.model.specs.declared.ItsConfig.{ItsConfig}
use Rattle.model.specs.declared.Register.{Register}
use Rattle.model.specs.declared.Register.TheVariants.{Ctlr, Iidr, Typer, Cbaser, Cwriter, Creadr, Baser, Reserved}
use Rattle.model.specs.Arm.{
  Field,
  ◌of◌,
  ◌in_place◌,
  ◌holding◌,
  without,
  low_half,
  high_half,
  GITS_CTLR,
  GITS_IIDR,
  GITS_TYPER,
  GITS_CBASER,
  GITS_CWRITER,
  GITS_CREADR,
  GITS_BASER,
  GITS_BASER_COUNT,
  CTLR_Enabled,
  CTLR_Quiescent,
  IIDR_Implementer,
  TYPER_Physical,
  TYPER_ITT_entry_size,
  TYPER_ID_bits,
  TYPER_Devbits,
  CREADR_Stalled,
}
use Rattle.model.specs.Profile.{is_strict}

-- the offset is one of the eight bytes of the 64-bit register at base
abbrev pub lies_in : ℕ → ℕ → Bool
lies_in base offset = leb base offset && ltb offset (base + 8)

-- the offset is one of the bytes of the eight BASER
abbrev pub is_baser : ℕ → Bool
is_baser offset = leb GITS_BASER offset && ltb offset (GITS_BASER + GITS_BASER_COUNT * 8)

-- CTLR 0x0, IIDR 0x4, TYPER 0x8, CBASER 0x80, CWRITER 0x88, CREADR 0x90, eight BASER from 0x100. CTLR and IIDR at their own offset; the
-- 64-bit registers at each of their bytes
unfoldable pub register_at : ℕ → Register
register_at offset =
    if eqb offset GITS_CTLR then Ctlr else
    if eqb offset GITS_IIDR then Iidr else
    if lies_in GITS_TYPER offset then Typer else
    if lies_in GITS_CBASER offset then Cbaser else
    if lies_in GITS_CWRITER offset then Cwriter else
    if lies_in GITS_CREADR offset then Creadr else
    if is_baser offset then Baser ((offset - GITS_BASER) / 8) else
    Reserved

-- the 64-bit registers; CTLR and IIDR have 32 bits
abbrev pub is_wide : Register → Bool
is_wide Ctlr = false
is_wide Iidr = false
is_wide Typer = true
is_wide Cbaser = true
is_wide Cwriter = true
is_wide Creadr = true
is_wide (Baser n) = true
is_wide Reserved = false

-- an offset that is no register's
abbrev pub is_reserved : Register → Bool
is_reserved Ctlr = false
is_reserved Iidr = false
is_reserved Typer = false
is_reserved Cbaser = false
is_reserved Cwriter = false
is_reserved Creadr = false
is_reserved (Baser n) = false
is_reserved Reserved = true

-- CTLR and IIDR take 4 only; bytes of the 64-bit registers take an aligned 4 or 8; every other offset takes any width
abbrev pub takes_width : Register → ℕ → Bool
takes_width r width = is_reserved r || (eqb width 4 || (is_wide r && eqb width 8))

-- Reading.

-- CTLR reads the enable bit plus bit 31
abbrev pub one_if : Bool → ℕ
one_if true = 1
one_if false = 0

-- Quiescent is always 1
abbrev pub ctlr_value : Bool → ℕ
ctlr_value enabled = CTLR_Enabled holding one_if enabled + CTLR_Quiescent holding 1

-- IIDR reads 0x43B
abbrev pub iidr_value : ℕ
iidr_value = IIDR_Implementer holding 0x43B

-- bits needed for a number: how many of the powers of two 2^0, .. , 2^(k - 1) are not above it, where it is below 2^k
abbrev pub bits_needed : ℕ → ℕ → ℕ
bits_needed zero n = 0
bits_needed (suc k) n = one_if (leb (2 ^ k) n) + bits_needed k n

-- TYPER: bit 0; 7 at bit 4; (bits needed for the limit) minus 1 at bit 8; 15 at bit 13
unfoldable pub typer_value : ℕ → ℕ
typer_value limit =
    TYPER_Physical holding 1
    + TYPER_ITT_entry_size holding 7
    + TYPER_ID_bits holding (bits_needed 32 limit - 1)
    + TYPER_Devbits holding 15

-- the unit is stalled: in base Stalled is not read, whatever a unit built by hand holds (02, A4)
abbrev pub is_stalled : ItsConfig → ItsRegisters → Bool
is_stalled k r = is_strict k.profile && r.stalled

-- CREADR reads its offset, of a stalled unit with bit 0 set
unfoldable pub creadr_value : ItsConfig → ItsRegisters → ℕ
creadr_value k r = if is_stalled k r then without CREADR_Stalled r.creadr + CREADR_Stalled holding 1 else r.creadr

-- what a register holds, by configuration and registers, CREADR holding `reader`: nothing that is read depends on the tables. Every other offset reads 0
abbrev pub value_with : ℕ → ItsConfig → ItsRegisters → Register → ℕ
value_with reader k r Ctlr = ctlr_value r.enabled
value_with reader k r Iidr = iidr_value
value_with reader k r Typer = typer_value k.lpi_limit
value_with reader k r Cbaser = r.cbaser
value_with reader k r Cwriter = r.cwriter
value_with reader k r Creadr = reader
value_with reader k r (Baser n) = get_or r.basers n 0
value_with reader k r Reserved = 0

abbrev pub value_of : ItsConfig → ItsRegisters → Register → ℕ
value_of k r n = value_with (creadr_value k r) k r n

-- an aligned access of 4 bytes is to a register's low half, or to its high half
abbrev pub half_at : ℕ → Field
half_at offset = if eqb (offset % 8) 0 then low_half else high_half

-- what an access of this width reads of a 64-bit register
unfoldable pub read_part : ℕ → ℕ → ℕ → ℕ
read_part offset width value = if eqb width 8 then value else half_at offset of value

-- what an access reads of the register that it is to, where each holds this value
abbrev pub read_by : (Register → ℕ) → ℕ → ℕ → Register → ℕ
read_by value offset width n = if is_wide n then read_part offset width (value n) else value n

abbrev pub read_of : ItsConfig → ItsRegisters → ℕ → ℕ → Register → ℕ
read_of k r offset width n = read_by (value_of k r) offset width n

-- Writing.

-- a 4-byte write merges into the other half's present value; only the low 32 bits written count
unfoldable pub merged : ℕ → ℕ → ℕ → ℕ → ℕ
merged offset width present value =
    if eqb width 8 then value else
    if eqb (offset % 8) 0
    then high_half in_place present + low_half of value
    else high_half holding (low_half of value) + low_half of present

-- what a write of this width writes to the register that it is to, where each holds this present value
abbrev pub written_by : (Register → ℕ) → ℕ → ℕ → ℕ → Register → ℕ
written_by present offset width value n = if is_wide n then merged offset width (present n) value else value

abbrev pub value_written : ItsConfig → ItsRegisters → ℕ → ℕ → ℕ → Register → ℕ
value_written k r offset width value n = written_by (value_of k r) offset width value n
