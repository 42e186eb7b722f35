-- Each access that Arm's registers take is accepted by a sound unit, and is to the register and the half that Arm says.
-- Assumes nothing.
use Rattle.std.specs.Prelude.{Ok}
use Prim.Native.Nat.{ℕ, zero, suc, ◌+◌, ◌%◌, ◌≤◌}
use native.Mathlib.Omega.{arith}
use mathlib.Core.Path.{◌≡◌, refl, sym}
use mathlib.Core.Bool.{Bool, true, ◌&&◌, ◌||◌, not}
use lib.Dec.{leb, ltb, eqb}
use borrow.Author.Tests.{leb-true, ltb-true, le-leb, eqb-true}
use Rattle.model.specs.declared.ItsConfig.{ItsConfig}
use Rattle.model.specs.declared.ItsState.{ItsState}
use Rattle.model.specs.declared.Register.{Register}
use Rattle.model.specs.Arm.{is_identification}
use Rattle.model.specs.Config.{sizes_in01, sound_config, sound_unit}
use Rattle.model.specs.Register.{register_at, takes_width}
use Rattle.model.specs.Access.{in_frame, check_access}
use Rattle.model.proofs.Cases.{cases, never, and_left, and_right, both}
use Rattle.model.proofs.Profiles.{sizes_of}
use Rattle.arm_agreement.specs.Registers.{Reg, CTLR, IIDR, TYPER, CBASER, CWRITER, CREADR, BASER, Piece, whole, low, high, has, offset_of, width_of}
use Rattle.arm_agreement.specs.Seen.{as_register}

-- the frame is no smaller than 65,536 bytes
frame : (k : ItsConfig) → sound_config k ≡ true → 65536 ≤ k.frame_size
unfolding sizes_in01
frame k ok =
    let sizes = and_left (eqb k.frame_size 65536 || eqb k.frame_size 131072) _ (and_right (leb 1 k.command_budget && leb k.command_budget 1024) _ (and_right (leb 8192 k.lpi_limit && leb k.lpi_limit 16777215) _ (sizes_of k ok))) in
    cases (eqb k.frame_size 65536)
    (λ h. omega (arith, eqb-true k.frame_size 65536 h))
    (λ h. omega (arith, eqb-true k.frame_size 131072 (rw h at sizes)))

-- what is to be known of an offset and a width
pub record Where : Type 0 where
  -- the width is one, the access lies in 65,536 bytes and is aligned; no identification register; the register takes the width
  pub fits : Bool
  pub register : Register

abbrev pub where_is : ℕ → ℕ → Where
where_is offset width =
    record {
      fits = ((eqb width 1 || (eqb width 2 || (eqb width 4 || eqb width 8))) && (leb (offset + width) 65536 && eqb (offset % width) 0))
          && (not (is_identification offset) && takes_width (register_at offset) width);
      register = register_at offset;
    }

abbrev pub expected : Reg → Piece → Where
expected r p = record { fits = true; register = as_register r }

-- a fact of each n below 8
below_8 : (P : ℕ → Type 0) → P 0 → P 1 → P 2 → P 3 → P 4 → P 5 → P 6 → P 7 → (n : ℕ) → ltb n 8 ≡ true → P n
below_8 P a b c d e f g h zero k = a
below_8 P a b c d e f g h (suc zero) k = b
below_8 P a b c d e f g h (suc (suc zero)) k = c
below_8 P a b c d e f g h (suc (suc (suc zero))) k = d
below_8 P a b c d e f g h (suc (suc (suc (suc zero)))) k = e
below_8 P a b c d e f g h (suc (suc (suc (suc (suc zero))))) k = f
below_8 P a b c d e f g h (suc (suc (suc (suc (suc (suc zero)))))) k = g
below_8 P a b c d e f g h (suc (suc (suc (suc (suc (suc (suc zero))))))) k = h
below_8 P a b c d e f g h (suc (suc (suc (suc (suc (suc (suc (suc n)))))))) k = absurd (omega (arith, ltb-true (suc (suc (suc (suc (suc (suc (suc (suc n)))))))) 8 k))

pub is_there : (r : Reg) (p : Piece) → has r p ≡ true → where_is (offset_of r p) (width_of r p) ≡ expected r p
unfolding register_at
is_there CTLR whole h = refl
is_there CTLR low h = never true refl (sym h)
is_there CTLR high h = never true refl (sym h)
is_there IIDR whole h = refl
is_there IIDR low h = never true refl (sym h)
is_there IIDR high h = never true refl (sym h)
is_there TYPER whole h = refl
is_there TYPER low h = refl
is_there TYPER high h = refl
is_there CBASER whole h = refl
is_there CBASER low h = refl
is_there CBASER high h = refl
is_there CWRITER whole h = refl
is_there CWRITER low h = refl
is_there CWRITER high h = refl
is_there CREADR whole h = refl
is_there CREADR low h = refl
is_there CREADR high h = refl
is_there (BASER n) whole h = below_8 (λ n. where_is (offset_of (BASER n) whole) 8 ≡ expected (BASER n) whole) refl refl refl refl refl refl refl refl n h
is_there (BASER n) low h = below_8 (λ n. where_is (offset_of (BASER n) low) 4 ≡ expected (BASER n) low) refl refl refl refl refl refl refl refl n h
is_there (BASER n) high h = below_8 (λ n. where_is (offset_of (BASER n) high) 4 ≡ expected (BASER n) high) refl refl refl refl refl refl refl refl n h

-- a sound unit accepts it
module _ (u : ItsState) (sound : sound_unit u ≡ true) (offset width : ℕ) (fits : (where_is offset width).fits ≡ true) where
  abbrev width_is : Bool
  width_is = eqb width 1 || (eqb width 2 || (eqb width 4 || eqb width 8))

  lies_in_frame : in_frame u.config offset width ≡ true
  lies_in_frame =
      let f = and_left (width_is && (leb (offset + width) 65536 && eqb (offset % width) 0)) _ fits in
      let g = and_right width_is _ f in
      both width_is _ (and_left width_is _ f)
      (both (leb (offset + width) u.config.frame_size) _
      (le-leb (offset + width) u.config.frame_size (omega (arith, leb-true (offset + width) 65536 (and_left (leb (offset + width) 65536) _ g), frame u.config (and_left (sound_config u.config) _ sound))))
      (and_right (leb (offset + width) 65536) _ g))

  pub access_accepted : check_access u.config offset width ≡ Ok tt
  unfolding check_access
  access_accepted =
      let f = and_right (width_is && (leb (offset + width) 65536 && eqb (offset % width) 0)) _ fits in
      rw (lies_in_frame, and_left (not (is_identification offset)) _ f, and_right (not (is_identification offset)) _ f)
