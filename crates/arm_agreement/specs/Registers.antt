-- Arm's registers of the control frame: where an access to each may go, what it reads of the register and what it writes to it. By the facts of docs/ARM.md
-- and the fields of Arm.antt alone.
-- Assumes nothing.
use Rattle.std.specs.Prelude.{ℕ, ◌+◌, ◌*◌, ◌≡◌, Bool, true, false, ltb}
use Rattle.model.specs.Arm.{◌of◌, low_half, high_half, GITS_CTLR, GITS_IIDR, GITS_TYPER, GITS_CBASER, GITS_CWRITER, GITS_CREADR, GITS_BASER, GITS_BASER_COUNT}

-- the registers, by name
pub data Reg : Type 0 where
  -- of 32 bits
  CTLR : Reg
  IIDR : Reg
  -- of 64 bits
  TYPER : Reg
  CBASER : Reg
  CWRITER : Reg
  CREADR : Reg
  -- GITS_BASER n, n from 0 to 7
  BASER : ℕ → Reg

-- An access is to the whole register or, where it has 64 bits, to one of its halves.
pub data Piece : Type 0 where
  whole : Piece
  low : Piece
  high : Piece

-- where the register stands
abbrev pub stands_at : Reg → ℕ
stands_at CTLR = GITS_CTLR
stands_at IIDR = GITS_IIDR
stands_at TYPER = GITS_TYPER
stands_at CBASER = GITS_CBASER
stands_at CWRITER = GITS_CWRITER
stands_at CREADR = GITS_CREADR
stands_at (BASER n) = GITS_BASER + 8 * n

-- its bytes
abbrev pub bytes : Reg → ℕ
bytes CTLR = 4
bytes IIDR = 4
bytes TYPER = 8
bytes CBASER = 8
bytes CWRITER = 8
bytes CREADR = 8
bytes (BASER n) = 8

-- the accesses that there are: 64-bit registers take 64-bit accesses and 32-bit halves (F29, F30)
abbrev pub has : Reg → Piece → Bool
has CTLR whole = true
has CTLR low = false
has CTLR high = false
has IIDR whole = true
has IIDR low = false
has IIDR high = false
has TYPER p = true
has CBASER p = true
has CWRITER p = true
has CREADR p = true
has (BASER n) p = ltb n GITS_BASER_COUNT

-- the offset of an access to a part
abbrev pub offset_of : Reg → Piece → ℕ
offset_of r whole = stands_at r
offset_of r low = stands_at r
offset_of r high = stands_at r + 4

-- the width of that access
abbrev pub width_of : Reg → Piece → ℕ
width_of r whole = bytes r
width_of r low = 4
width_of r high = 4

-- what an access reads of a register that holds v
abbrev pub part_of : Piece → ℕ → ℕ
part_of whole v = v
part_of low v = low_half of v
part_of high v = high_half of v

-- the halves of what a register holds
pub record Halves (l h after : ℕ) : Type 0 where
  pub low_is : low_half of after ≡ l
  pub high_is : high_half of after ≡ h

-- what a write of v to a part of a register that held w makes of it: a 32-bit write changes its half only, and the other half stays
abbrev pub Merges : Piece → ℕ → ℕ → ℕ → Type 0
Merges whole w v after = after ≡ v
Merges low w v after = Halves (low_half of v) (high_half of w) after
Merges high w v after = Halves (low_half of w) (low_half of v) after
