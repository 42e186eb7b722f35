-- Arm IHI 0069, the ITS part: the registers and command fields that document 01's unit has, each under its name in the standard (with `-` for
-- `_`) and with its bits, high:low; a command's field also says in which of the four doublewords it lies. Nothing here is the Rust's. F01 and on are the
-- facts of docs/ARM.md.
-- Assumes nothing.
use Rattle.std.specs.Prelude.{ℕ, ◌+◌, ◌-◌, ◌*◌, ◌/◌, ◌%◌, ◌^◌, Bool, ◌&&◌, List, [], ◌∷◌, get_or, leb}

-- A field is a run of bits of a word, from its high bit down to its low bit.
pub record Field : Type 0 where
  pub high : ℕ
  pub low : ℕ

abbrev pub bits : ℕ → ℕ → Field
bits h l = record { high = h; low = l }

abbrev pub bit : ℕ → Field
bit n = bits n n

infix 80 ◌of◌ ◌in_place◌ ◌holding◌ ◌from◌
-- what the field holds in the word w
abbrev pub ◌of◌ : Field → ℕ → ℕ
F of w = w / 2 ^ F.low % 2 ^ (F.high + 1 - F.low)

-- the word in which the field holds v and every other bit is 0
abbrev pub ◌holding◌ : Field → ℕ → ℕ
F holding v = v * 2 ^ F.low

-- what the field holds in the word w, left where it stands: the word's other bits are cleared
abbrev pub ◌in_place◌ : Field → ℕ → ℕ
F in_place w = F holding (F of w)

-- the word w with the bits of the field cleared
abbrev pub without : Field → ℕ → ℕ
without F w = w - F in_place w

-- The halves of a 64-bit register, which a 32-bit access reads and writes (F29).
abbrev pub low_half : Field
low_half = bits 31 0

abbrev pub high_half : Field
high_half = bits 63 32

-- The registers of the control frame, by offset.
abbrev pub GITS_CTLR : ℕ
GITS_CTLR = 0x0

abbrev pub GITS_IIDR : ℕ
GITS_IIDR = 0x4

abbrev pub GITS_TYPER : ℕ
GITS_TYPER = 0x8

abbrev pub GITS_CBASER : ℕ
GITS_CBASER = 0x80

abbrev pub GITS_CWRITER : ℕ
GITS_CWRITER = 0x88

abbrev pub GITS_CREADR : ℕ
GITS_CREADR = 0x90

-- GITS_BASER n, n from 0 to 7, stands at 0x100 + 8 n
abbrev pub GITS_BASER : ℕ
GITS_BASER = 0x100

abbrev pub GITS_BASER_COUNT : ℕ
GITS_BASER_COUNT = 8

-- the identification registers, PIDR4 to CIDR3 (F26)
abbrev pub is_identification : ℕ → Bool
is_identification offset = leb 0xFFD0 offset && leb offset 0xFFFF

-- GITS_CTLR (F01)
abbrev pub CTLR_Enabled : Field
CTLR_Enabled = bit 0

abbrev pub CTLR_ImDe : Field
CTLR_ImDe = bit 1

abbrev pub CTLR_ITS_Number : Field
CTLR_ITS_Number = bits 7 4

abbrev pub CTLR_UMSIirq : Field
CTLR_UMSIirq = bit 8

-- read only: all work done after Enabled went to 0 (F02)
abbrev pub CTLR_Quiescent : Field
CTLR_Quiescent = bit 31

abbrev pub CTLR_fields : List Field
CTLR_fields = CTLR_Enabled ∷ CTLR_ImDe ∷ CTLR_ITS_Number ∷ CTLR_UMSIirq ∷ CTLR_Quiescent ∷ []

-- GITS_IIDR (F04)
abbrev pub IIDR_Implementer : Field
IIDR_Implementer = bits 11 0

abbrev pub IIDR_Revision : Field
IIDR_Revision = bits 15 12

abbrev pub IIDR_Variant : Field
IIDR_Variant = bits 19 16

abbrev pub IIDR_ProductID : Field
IIDR_ProductID = bits 31 24

abbrev pub IIDR_fields : List Field
IIDR_fields = IIDR_Implementer ∷ IIDR_Revision ∷ IIDR_Variant ∷ IIDR_ProductID ∷ []

-- GITS_TYPER (F05)
abbrev pub TYPER_Physical : Field
TYPER_Physical = bit 0

abbrev pub TYPER_Virtual : Field
TYPER_Virtual = bit 1

abbrev pub TYPER_CCT : Field
TYPER_CCT = bit 2

-- bytes of an ITT entry, minus 1 (F08)
abbrev pub TYPER_ITT_entry_size : Field
TYPER_ITT_entry_size = bits 7 4

-- EventID bits, minus 1 (F06)
abbrev pub TYPER_ID_bits : Field
TYPER_ID_bits = bits 12 8

-- DeviceID bits, minus 1 (F07)
abbrev pub TYPER_Devbits : Field
TYPER_Devbits = bits 17 13

abbrev pub TYPER_SEIS : Field
TYPER_SEIS = bit 18

abbrev pub TYPER_PTA : Field
TYPER_PTA = bit 19

abbrev pub TYPER_HCC : Field
TYPER_HCC = bits 31 24

abbrev pub TYPER_CIDbits : Field
TYPER_CIDbits = bits 35 32

abbrev pub TYPER_CIL : Field
TYPER_CIL = bit 36

abbrev pub TYPER_VMOVP : Field
TYPER_VMOVP = bit 37

abbrev pub TYPER_MPAM : Field
TYPER_MPAM = bit 38

abbrev pub TYPER_VSGI : Field
TYPER_VSGI = bit 39

abbrev pub TYPER_VMAPP : Field
TYPER_VMAPP = bit 40

abbrev pub TYPER_SVPET : Field
TYPER_SVPET = bits 42 41

abbrev pub TYPER_nID : Field
TYPER_nID = bit 43

abbrev pub TYPER_UMSI : Field
TYPER_UMSI = bit 44

abbrev pub TYPER_UMSIirq : Field
TYPER_UMSIirq = bit 45

abbrev pub TYPER_INV : Field
TYPER_INV = bit 46

abbrev pub TYPER_fields : List Field
TYPER_fields = TYPER_Physical ∷ TYPER_Virtual ∷ TYPER_CCT ∷ TYPER_ITT_entry_size ∷ TYPER_ID_bits ∷ TYPER_Devbits ∷ TYPER_SEIS ∷ TYPER_PTA ∷ TYPER_HCC ∷ TYPER_CIDbits ∷ TYPER_CIL ∷ TYPER_VMOVP
    ∷ TYPER_MPAM ∷ TYPER_VSGI ∷ TYPER_VMAPP ∷ TYPER_SVPET ∷ TYPER_nID ∷ TYPER_UMSI ∷ TYPER_UMSIirq ∷ TYPER_INV ∷ []

-- GITS_CBASER (F12)
-- pages of 4 KB, minus 1
abbrev pub CBASER_Size : Field
CBASER_Size = bits 7 0

abbrev pub CBASER_Shareability : Field
CBASER_Shareability = bits 11 10

abbrev pub CBASER_Physical_Address : Field
CBASER_Physical_Address = bits 51 12

abbrev pub CBASER_OuterCache : Field
CBASER_OuterCache = bits 55 53

abbrev pub CBASER_InnerCache : Field
CBASER_InnerCache = bits 61 59

abbrev pub CBASER_Valid : Field
CBASER_Valid = bit 63

abbrev pub CBASER_fields : List Field
CBASER_fields = CBASER_Size ∷ CBASER_Shareability ∷ CBASER_Physical_Address ∷ CBASER_OuterCache ∷ CBASER_InnerCache ∷ CBASER_Valid ∷ []

-- GITS_CWRITER (F17)
abbrev pub CWRITER_Retry : Field
CWRITER_Retry = bit 0

-- in commands of 32 bytes
abbrev pub CWRITER_Offset : Field
CWRITER_Offset = bits 19 5

abbrev pub CWRITER_fields : List Field
CWRITER_fields = CWRITER_Retry ∷ CWRITER_Offset ∷ []

-- GITS_CREADR (F20)
abbrev pub CREADR_Stalled : Field
CREADR_Stalled = bit 0

abbrev pub CREADR_Offset : Field
CREADR_Offset = bits 19 5

abbrev pub CREADR_fields : List Field
CREADR_fields = CREADR_Stalled ∷ CREADR_Offset ∷ []

-- GITS_BASER n (F22)
abbrev pub BASER_Size : Field
BASER_Size = bits 7 0

abbrev pub BASER_Page_Size : Field
BASER_Page_Size = bits 9 8

abbrev pub BASER_Shareability : Field
BASER_Shareability = bits 11 10

abbrev pub BASER_Physical_Address : Field
BASER_Physical_Address = bits 47 12

-- read only: bytes of an entry, minus 1
abbrev pub BASER_Entry_Size : Field
BASER_Entry_Size = bits 52 48

abbrev pub BASER_OuterCache : Field
BASER_OuterCache = bits 55 53

-- read only
abbrev pub BASER_Type : Field
BASER_Type = bits 58 56

abbrev pub BASER_InnerCache : Field
BASER_InnerCache = bits 61 59

abbrev pub BASER_Indirect : Field
BASER_Indirect = bit 62

abbrev pub BASER_Valid : Field
BASER_Valid = bit 63

abbrev pub BASER_fields : List Field
BASER_fields = BASER_Size ∷ BASER_Page_Size ∷ BASER_Shareability ∷ BASER_Physical_Address ∷ BASER_Entry_Size ∷ BASER_OuterCache ∷ BASER_Type ∷ BASER_InnerCache ∷ BASER_Indirect ∷ BASER_Valid ∷ []

-- BASER.Type of the tables of devices and of collections (F23)
abbrev pub of_devices : ℕ
of_devices = 1

abbrev pub of_collections : ℕ
of_collections = 4

-- the unit of CBASER.Size
abbrev pub page : ℕ
page = 4096

-- Commands: four little-endian doublewords (F38 to F46).
abbrev pub command_size : ℕ
command_size = 32

pub record CommandField : Type 0 where
  pub doubleword : ℕ
  pub field : Field

abbrev pub dw : ℕ → Field → CommandField
dw i F = record { doubleword = i; field = F }

-- what the field holds in a command, given as its four doublewords
abbrev pub ◌from◌ : CommandField → List ℕ → ℕ
F from ws = F.field of get_or ws F.doubleword 0

-- the command number
abbrev pub Opcode : CommandField
Opcode = dw 0 (bits 7 0)

-- MAPD, MAPTI, MAPI, MOVI, INT, CLEAR, DISCARD, INV
abbrev pub DeviceID : CommandField
DeviceID = dw 0 (bits 63 32)

-- MAPTI, MAPI, MOVI, INT, CLEAR, DISCARD, INV
abbrev pub EventID : CommandField
EventID = dw 1 (bits 31 0)

-- MAPD: EventID bits, minus 1
abbrev pub Size : CommandField
Size = dw 1 (bits 4 0)

-- MAPTI
abbrev pub pINTID : CommandField
pINTID = dw 1 (bits 63 32)

-- MAPC, MAPTI, MAPI, MOVI, INVALL
abbrev pub ICID : CommandField
ICID = dw 2 (bits 15 0)

-- MAPD
abbrev pub ITT_addr : CommandField
ITT_addr = dw 2 (bits 51 8)

-- MAPC and SYNC: with TYPER.PTA 0, a processor number (F09)
abbrev pub RDbase : CommandField
RDbase = dw 2 (bits 50 16)

-- MAPD, MAPC: valid
abbrev pub «V» : CommandField
«V» = dw 2 (bit 63)

-- the opcodes
abbrev pub op_MOVI : ℕ
op_MOVI = 0x01

abbrev pub op_INT : ℕ
op_INT = 0x03

abbrev pub op_CLEAR : ℕ
op_CLEAR = 0x04

abbrev pub op_SYNC : ℕ
op_SYNC = 0x05

abbrev pub op_MAPD : ℕ
op_MAPD = 0x08

abbrev pub op_MAPC : ℕ
op_MAPC = 0x09

abbrev pub op_MAPTI : ℕ
op_MAPTI = 0x0A

abbrev pub op_MAPI : ℕ
op_MAPI = 0x0B

abbrev pub op_INV : ℕ
op_INV = 0x0C

abbrev pub op_INVALL : ℕ
op_INVALL = 0x0D

abbrev pub op_DISCARD : ℕ
op_DISCARD = 0x0F

-- LPIs have INTID 8192 and up (F58)
abbrev pub LPI_base : ℕ
LPI_base = 8192
