-- Where an offset lies, as the code asks it: the base of its 64-bit register, and the number of its BASER. No sentence of document 01 stands here:
-- crate `registers` goes by these to the model's `register_at`.
-- Assumes nothing.
use Rattle.std.specs.Prelude.{ℕ, ◌+◌, ◌-◌, ◌*◌, ◌/◌, if◌then◌else◌, None, Option, Some}
use Rattle.model.specs.Arm.{GITS_TYPER, GITS_CBASER, GITS_CWRITER, GITS_CREADR, GITS_BASER}
use Rattle.model.specs.Register.{lies_in, is_baser}

-- the base of the 64-bit register that the offset lies in
unfoldable pub wide_register_base : ℕ → Option ℕ
wide_register_base offset =
    if lies_in GITS_TYPER offset then Some GITS_TYPER else
    if lies_in GITS_CBASER offset then Some GITS_CBASER else
    if lies_in GITS_CWRITER offset then Some GITS_CWRITER else
    if lies_in GITS_CREADR offset then Some GITS_CREADR else
    if is_baser offset then Some (GITS_BASER + (offset - GITS_BASER) / 8 * 8) else
    None

-- the number of the BASER that the offset lies in
unfoldable pub baser_index : ℕ → Option ℕ
baser_index offset = if is_baser offset then Some ((offset - GITS_BASER) / 8) else None
