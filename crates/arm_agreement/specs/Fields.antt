-- What Arm has each field of a register show, register by register.
-- Assumes nothing.
use Rattle.std.specs.Prelude.{ℕ, ◌+◌, ◌*◌, ◌≡◌, Bool, true, false}
use Rattle.model.specs.Arm.{
  ◌of◌,
  CTLR_Enabled,
  CTLR_ImDe,
  CTLR_ITS_Number,
  CTLR_UMSIirq,
  CTLR_Quiescent,
  IIDR_Implementer,
  IIDR_Revision,
  IIDR_Variant,
  IIDR_ProductID,
  TYPER_Physical,
  TYPER_Virtual,
  TYPER_CCT,
  TYPER_ITT_entry_size,
  TYPER_ID_bits,
  TYPER_Devbits,
  TYPER_SEIS,
  TYPER_PTA,
  TYPER_HCC,
  TYPER_CIDbits,
  TYPER_CIL,
  TYPER_VMOVP,
  TYPER_MPAM,
  TYPER_VSGI,
  TYPER_VMAPP,
  TYPER_SVPET,
  TYPER_nID,
  TYPER_UMSI,
  TYPER_UMSIirq,
  TYPER_INV,
  CWRITER_Retry,
  CWRITER_Offset,
  CREADR_Stalled,
  CREADR_Offset,
  BASER_Type,
  BASER_Entry_Size,
  command_size,
}

-- a field of one bit
abbrev pub one_bit : Bool → ℕ
one_bit true = 1
one_bit false = 0

-- GITS_CTLR of a unit that has no ITS_Number, no ImDe and no UMSIirq (R40)
pub record ShowsCTLR (v : ℕ) (enabled quiescent : Bool) : Type 0 where
  pub Enabled : CTLR_Enabled of v ≡ one_bit enabled
  pub ImDe : CTLR_ImDe of v ≡ 0
  pub ITS_Number : CTLR_ITS_Number of v ≡ 0
  pub UMSIirq : CTLR_UMSIirq of v ≡ 0
  pub Quiescent : CTLR_Quiescent of v ≡ one_bit quiescent

-- GITS_IIDR of Arm's implementation, of no product (R41)
pub record ShowsIIDR (v : ℕ) : Type 0 where
  pub Implementer : IIDR_Implementer of v ≡ 0x43B
  pub Revision : IIDR_Revision of v ≡ 0
  pub Variant : IIDR_Variant of v ≡ 0
  pub ProductID : IIDR_ProductID of v ≡ 0

-- GITS_TYPER of a unit with physical LPIs only, ITT entries of so many bytes, so many bits of EventIDs and DeviceIDs; no system errors, RDbase a
-- processor number, no collections without a table, 16-bit ICIDs, and nothing of what came later (bit 38 and up)
pub record ShowsTYPER (v entry-bytes event_bits device-bits : ℕ) : Type 0 where
  pub Physical : TYPER_Physical of v ≡ 1
  pub Virtual : TYPER_Virtual of v ≡ 0
  pub CCT : TYPER_CCT of v ≡ 0
  pub ITT_entry_size : (TYPER_ITT_entry_size of v) + 1 ≡ entry-bytes
  pub ID_bits : (TYPER_ID_bits of v) + 1 ≡ event_bits
  pub Devbits : (TYPER_Devbits of v) + 1 ≡ device-bits
  pub SEIS : TYPER_SEIS of v ≡ 0
  pub PTA : TYPER_PTA of v ≡ 0
  pub HCC : TYPER_HCC of v ≡ 0
  pub CIDbits : TYPER_CIDbits of v ≡ 0
  pub CIL : TYPER_CIL of v ≡ 0
  pub VMOVP : TYPER_VMOVP of v ≡ 0
  pub MPAM : TYPER_MPAM of v ≡ 0
  pub VSGI : TYPER_VSGI of v ≡ 0
  pub VMAPP : TYPER_VMAPP of v ≡ 0
  pub SVPET : TYPER_SVPET of v ≡ 0
  pub nID : TYPER_nID of v ≡ 0
  pub UMSI : TYPER_UMSI of v ≡ 0
  pub UMSIirq : TYPER_UMSIirq of v ≡ 0
  pub INV : TYPER_INV of v ≡ 0

-- GITS_CWRITER at a place of the ring, in bytes
pub record ShowsCWRITER (v place : ℕ) : Type 0 where
  pub Retry : CWRITER_Retry of v ≡ 0
  pub Offset : (CWRITER_Offset of v) * command_size ≡ place

-- GITS_CREADR at a place of the ring
pub record ShowsCREADR (v place : ℕ) (stalled : Bool) : Type 0 where
  pub Stalled : CREADR_Stalled of v ≡ one_bit stalled
  pub Offset : (CREADR_Offset of v) * command_size ≡ place

-- GITS_BASER n of a table of this type, with entries of so many bytes
pub record ShowsBASER (v type entry-bytes : ℕ) : Type 0 where
  pub Type_is : BASER_Type of v ≡ type
  pub Entry_Size : (BASER_Entry_Size of v) + 1 ≡ entry-bytes
