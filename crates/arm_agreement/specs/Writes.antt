-- What Arm has a write of a register do: `before` and `after` give what each register holds, v is the value with both halves.
-- Assumes nothing.
use Rattle.std.specs.Prelude.{ℕ, ◌≡◌}
use Rattle.model.specs.Arm.{◌of◌, CTLR_Enabled, CWRITER_Offset, BASER_Size, BASER_Page_Size, BASER_Shareability, BASER_Physical_Address, BASER_Entry_Size, BASER_OuterCache, BASER_Type, BASER_InnerCache, BASER_Indirect, BASER_Valid}
use Rattle.arm_agreement.specs.Registers.{Reg, CTLR, CBASER, CWRITER, CREADR, BASER}

-- GITS_CTLR: Enabled is taken. An enabled unit then takes commands, so CREADR may go on
pub record StoresCTLR (before after : Reg → ℕ) (v : ℕ) : Type 0 where
  pub Enabled : CTLR_Enabled of after CTLR ≡ CTLR_Enabled of v
  pub same_CBASER : after CBASER ≡ before CBASER
  pub same_CWRITER : after CWRITER ≡ before CWRITER
  pub same_BASER : (n : ℕ) → after (BASER n) ≡ before (BASER n)

-- GITS_CBASER: stored, and CREADR becomes 0; nothing is said of CWRITER, and it is taken to stay (F15)
pub record StoresCBASER (before after : Reg → ℕ) (v : ℕ) : Type 0 where
  pub stored : after CBASER ≡ v
  pub CREADR_0 : after CREADR ≡ 0
  pub same_CWRITER : after CWRITER ≡ before CWRITER
  pub same_CTLR : after CTLR ≡ before CTLR
  pub same_BASER : (n : ℕ) → after (BASER n) ≡ before (BASER n)

-- GITS_CWRITER: Offset is taken. An enabled unit then takes commands, so CREADR may go on
pub record StoresCWRITER (before after : Reg → ℕ) (v : ℕ) : Type 0 where
  pub Offset : CWRITER_Offset of after CWRITER ≡ CWRITER_Offset of v
  pub same_CTLR : after CTLR ≡ before CTLR
  pub same_CBASER : after CBASER ≡ before CBASER
  pub same_BASER : (n : ℕ) → after (BASER n) ≡ before (BASER n)

-- the fields of GITS_BASER that are read only (F23)
pub record ReadOnlyBASER (before after : ℕ) : Type 0 where
  pub Type_stays : BASER_Type of after ≡ BASER_Type of before
  pub Entry_Size_stays : BASER_Entry_Size of after ≡ BASER_Entry_Size of before

-- the fields of GITS_BASER: Type and Entry_Size are read only, and the others are taken
pub record FieldsOfBASER (before v after : ℕ) : Type 0 where
  pub read_only : ReadOnlyBASER before after
  pub Size : BASER_Size of after ≡ BASER_Size of v
  pub Page_Size : BASER_Page_Size of after ≡ BASER_Page_Size of v
  pub Shareability : BASER_Shareability of after ≡ BASER_Shareability of v
  pub Physical_Address : BASER_Physical_Address of after ≡ BASER_Physical_Address of v
  pub OuterCache : BASER_OuterCache of after ≡ BASER_OuterCache of v
  pub InnerCache : BASER_InnerCache of after ≡ BASER_InnerCache of v
  pub Indirect : BASER_Indirect of after ≡ BASER_Indirect of v
  pub Valid : BASER_Valid of after ≡ BASER_Valid of v

-- GITS_BASER n
pub record StoresBASER (n : ℕ) (before after : Reg → ℕ) (v : ℕ) : Type 0 where
  pub fields : FieldsOfBASER (before (BASER n)) v (after (BASER n))
  pub same_others : (m : ℕ) → (n ≡ m → ⊥) → after (BASER m) ≡ before (BASER m)
  pub same_CTLR : after CTLR ≡ before CTLR
  pub same_CBASER : after CBASER ≡ before CBASER
  pub same_CWRITER : after CWRITER ≡ before CWRITER
  pub same_CREADR : after CREADR ≡ before CREADR
