-- The Arm definitions hold together, and 01's numbers are the Arm fields that stand for them.
-- Assumes nothing.
use Prim.Native.Nat.{ℕ, ◌+◌, ◌*◌, ◌/◌, ◌%◌, ◌^◌}
use native.Mathlib.Omega.{arith}
use native.Mathlib.Nat.{mod-mod_of_dvd, dvd-mul_right}
use mathlib.Core.Path.{◌≡◌, refl, sym}
use mathlib.Core.Bool.{Bool, true, ◌&&◌}
use mathlib.Core.List.{List, [], ◌∷◌}
use lib.ListN.{get_or, replicate}
use lib.Dec.{leb, ltb}
use Rattle.model.specs.Arm.{Field, bits, ◌of◌, ◌from◌, CTLR_fields, IIDR_fields, TYPER_fields, CBASER_fields, CWRITER_fields, CWRITER_Offset, CREADR_fields, BASER_fields, RDbase, command_size}
use Rattle.model.specs.Config.{fresh_basers}
use Rattle.model.specs.Decode.{RDbase_low}
use Rattle.model.specs.Register.{ctlr_value, iidr_value}

-- each field's low bit is not above its high bit, and it starts above the field before it: no two overlap
abbrev apart_from : ℕ → List Field → Bool
apart_from start [] = true
apart_from start (F ∷ Fs) = (leb start F.low && (leb F.low F.high && ltb F.high 64)) && apart_from (F.high + 1) Fs

pub fields_apart :
    (apart_from 0 CTLR_fields && (apart_from 0 IIDR_fields && (apart_from 0 TYPER_fields && (apart_from 0 CBASER_fields && (apart_from 0 CWRITER_fields && (apart_from 0 CREADR_fields && apart_from 0 BASER_fields)))))) ≡ true
fields_apart = refl

-- fresh BASERs: 0x0107000000000000, 0x0407000000000000, then zeros
pub fresh_basers_lem : fresh_basers ≡ 0x0107000000000000 ∷ 0x0407000000000000 ∷ replicate 6 0
fresh_basers_lem = refl

-- CTLR reads the enable bit plus bit 31, IIDR 0x43B
pub ctlr_iidr : (ctlr_value true ≡ 0x80000001) × (iidr_value ≡ 0x43B)
ctlr_iidr = (refl, refl)

-- 01's processor, w2 31:16, is the low 16 bits of Arm's RDbase
pub rdbase_low : (ws : List ℕ) → RDbase_low from ws ≡ (RDbase from ws) % 2 ^ 16
rdbase_low ws = sym (mod-mod_of_dvd (2 ^ 16) (get_or ws 2 0 / 2 ^ 16) (dvd-mul_right (2 ^ 16) (2 ^ 19)))

-- 01's writer, bits 19:0 and a multiple of 32, is Arm's Offset in commands of 32 bytes
pub writer_is_offset : (v : ℕ) → (bits 19 0 of v) % command_size ≡ 0 → bits 19 0 of v ≡ (CWRITER_Offset of v) * command_size
writer_is_offset v h = omega arith
