-- READS. A sound unit takes every read that Arm's registers take, and answers the part of the register that Arm says; and each field of each
-- register holds what Arm says of it, under the conditions named.
-- Assumes nothing.
use Rattle.std.specs.Prelude.{Ok}
use Prim.Native.Nat.{ℕ, zero, suc, ◌+◌, ◌-◌, ◌*◌, ◌%◌, ◌≤◌, ◌<◌, ◌^◌}
use native.Mathlib.Omega.{arith}
use mathlib.Core.Path.{◌≡◌, refl, sym, ap, ◌∙◌}
use mathlib.Core.Bool.{Bool, true, false, ◌&&◌, ◌||◌, not}
use lib.Dec.{leb, eqb}
use lib.Pow.{pow_mono}
use borrow.Author.Tests.{leb-true, leb-false, ltb-true, le-leb, lt-leb, eqb-true}
use Rattle.model.specs.declared.ItsConfig.{ItsConfig}
use Rattle.model.specs.declared.ItsRegisters.{ItsRegisters}
use Rattle.model.specs.declared.ItsState.{ItsState}
use Rattle.model.specs.Arm.{◌of◌, CTLR_Enabled, command_size, of_devices, of_collections, TYPER_Devbits, TYPER_ID_bits}
use Rattle.model.specs.Config.{queue_base, queue_size, is_queue_offset, sizes_in01, sound_config, sound_ring, sound_unit, fresh_unit}
use Rattle.model.specs.Register.{bits_needed, typer_value, is_stalled, read_part, read_of}
use Rattle.model.specs.Access.{check_read}
use Rattle.model.specs.Entry.{read_from, read}
use Rattle.model.proofs.Cases.{cases, never, and_left, and_right}
use Rattle.model.proofs.Profiles.{sizes_of, creadr_plain}
use Rattle.arm_agreement.specs.Registers.{Reg, CTLR, IIDR, TYPER, CBASER, CWRITER, CREADR, BASER, Piece, whole, low, high, has, offset_of, width_of, part_of}
use Rattle.arm_agreement.specs.Fields.{one_bit, ShowsCTLR, ShowsIIDR, ShowsTYPER, ShowsCWRITER, ShowsCREADR, ShowsBASER}
use Rattle.arm_agreement.specs.Conditions.{ReadsCTLR, ReadsTYPER, ReadsCREADR}
use Rattle.arm_agreement.specs.Seen.{as_register, held, stopped}
use Rattle.arm_agreement.proofs.Accesses.{is_there, access_accepted}

-- what is read of the register: the whole or the half
part_read : (u : ItsState) (r : Reg) (p : Piece) → has r p ≡ true → read_of u.config u.registers (offset_of r p) (width_of r p) (as_register r) ≡ part_of p (held u r)
unfolding read_part
part_read u CTLR whole h = refl
part_read u CTLR low h = never true refl (sym h)
part_read u CTLR high h = never true refl (sym h)
part_read u IIDR whole h = refl
part_read u IIDR low h = never true refl (sym h)
part_read u IIDR high h = never true refl (sym h)
part_read u TYPER whole h = refl
part_read u TYPER low h = refl
part_read u TYPER high h = refl
part_read u CBASER whole h = refl
part_read u CBASER low h = refl
part_read u CBASER high h = refl
part_read u CWRITER whole h = refl
part_read u CWRITER low h = refl
part_read u CWRITER high h = refl
part_read u CREADR whole h = refl
part_read u CREADR low h = refl
part_read u CREADR high h = refl
part_read u (BASER n) whole h = refl
part_read u (BASER n) low h = let z : (256 + 8 * n) % 8 ≡ 0 = omega arith in rw z
part_read u (BASER n) high h = let z : (256 + 8 * n + 4) % 8 ≡ 4 = omega arith in rw z

pub read_as_arm : (u : ItsState) → sound_unit u ≡ true → (r : Reg) (p : Piece) → has r p ≡ true → read u (offset_of r p) (width_of r p) ≡ Ok (part_of p (held u r))
unfolding read_from check_read
read_as_arm u sound r p h =
    let w = is_there r p h in
    rw (sound, access_accepted u sound (offset_of r p) (width_of r p) (ap (λ x. x.fits) w), ap (λ x. x.register) w)
    (ap Ok (part_read u r p h))

-- The fields.

module _ (u : ItsState) where
  pub CTLR_as_arm : ReadsCTLR u → ShowsCTLR (held u CTLR) false true
  CTLR_as_arm c = rw c.R39_disabled (record { Enabled = refl; ImDe = refl; ITS_Number = refl; UMSIirq = refl; Quiescent = refl })

  -- Enabled is as the unit is
  pub CTLR_enabled : CTLR_Enabled of held u CTLR ≡ one_bit u.registers.enabled
  CTLR_enabled = cases u.registers.enabled (λ h. rw h) (λ h. rw h)

  pub IIDR_as_arm : ShowsIIDR (held u IIDR)
  IIDR_as_arm = record { Implementer = refl; Revision = refl; Variant = refl; ProductID = refl }

needed_at_most : (k n : ℕ) → bits_needed k n ≤ k
needed_at_most zero n = omega arith
needed_at_most (suc k) n = cases (leb (2 ^ k) n) (λ h. rw h (omega (arith, needed_at_most k n))) (λ h. rw h (omega (arith, needed_at_most k n)))

typer_fields : (b : ℕ) → b < 32 → ShowsTYPER (1 + 112 + b * 256 + 122880) 8 (b + 1) 16
typer_fields b h =
    record {
      Physical = omega arith;
      Virtual = omega arith;
      CCT = omega arith;
      ITT_entry_size = omega arith;
      ID_bits = omega arith;
      Devbits = omega arith;
      SEIS = omega arith;
      PTA = omega arith;
      HCC = omega arith;
      CIDbits = omega arith;
      CIL = omega arith;
      VMOVP = omega arith;
      MPAM = omega arith;
      VSGI = omega arith;
      VMAPP = omega arith;
      SVPET = omega arith;
      nID = omega arith;
      UMSI = omega arith;
      UMSIirq = omega arith;
      INV = omega arith;
    }

-- the bits needed for a number from 2^b on and below 2^(b + 1)
module _ (b n : ℕ) (from : 2 ^ b ≤ n) (to : n < 2 ^ (b + 1)) where
  low_bits : (k : ℕ) → k ≤ b + 1 → bits_needed k n ≡ k
  low_bits zero h = refl
  low_bits (suc k) h =
      let p : k ≤ b = omega arith in
      let m : 2 ^ k ≤ 2 ^ b = pow_mono p in
      rw (le-leb (2 ^ k) n (omega arith)) (omega (arith, low_bits k (omega arith)))

  all_bits : (k : ℕ) → b + 1 ≤ k → bits_needed k n ≡ b + 1
  all_bits zero h = absurd (omega arith)
  all_bits (suc k) h =
      cases (leb (b + 1) k)
      (λ l. let p = leb-true (b + 1) k l in
      let m : 2 ^ (b + 1) ≤ 2 ^ k = pow_mono p in
      rw (lt-leb (2 ^ k) n (omega arith)) (omega (arith, all_bits k p)))
      (λ l. let q : suc k ≡ b + 1 = omega (arith, leb-false (b + 1) k l) in low_bits (suc k) (omega arith) ∙ q)

module _ (u : ItsState) where
  limit_below : sound_unit u ≡ true → u.config.lpi_limit ≤ 16777215
  unfolding sizes_in01
  limit_below sound =
      leb-true _ 16777215 (and_right (leb 8192 u.config.lpi_limit) _ (and_left (leb 8192 u.config.lpi_limit && leb u.config.lpi_limit 16777215) _ (sizes_of u.config (and_left (sound_config u.config) _ sound))))

  pub TYPER_as_arm : (b : ℕ) → ReadsTYPER u b → ShowsTYPER (held u TYPER) 8 (b + 1) 16
  unfolding typer_value
  TYPER_as_arm b c =
      let (from, to) = c.R19_bits_of_the_LPIs in
      cases (leb 32 b)
      (λ l. let m : 2 ^ 32 ≤ 2 ^ b = pow_mono (leb-true 32 b l) in absurd (omega (arith, limit_below c.S12_sound)))
      (λ l. let s : b < 32 = leb-false 32 b l in
      let p : b + 1 ≤ 32 = omega arith in
      let z : b + 1 - 1 ≡ b = omega arith in
      rw (all_bits b u.config.lpi_limit from to 32 p, z) (typer_fields b s))

  -- so the numbers of a command are announced (R17, R18) below 65,536 and below 2^(b + 1)
  pub numbers_announced : (b : ℕ) → ReadsTYPER u b → (2 ^ (TYPER_Devbits of held u TYPER + 1) ≡ 65536) × (2 ^ (TYPER_ID_bits of held u TYPER + 1) ≡ 2 ^ (b + 1))
  numbers_announced b c = let s = TYPER_as_arm b c in (ap (λ n. 2 ^ n) s.Devbits, ap (λ n. 2 ^ n) s.ID_bits)

-- where neither of two tests holds, the first does not
or_left : (a b : Bool) → (a || b) ≡ false → a ≡ false
or_left true b h = never true refl h
or_left false b h = refl

-- the places of a sound ring: multiples of 32 below 2^20
ring_place : (cbaser place : ℕ) → is_queue_offset cbaser place ≡ true → (place % 32 ≡ 0) × (place < 1048576)
ring_place cbaser place h = (
  eqb-true _ 0 (and_left (eqb (place % command_size) 0) _ h),
  let below : place < queue_size cbaser = ltb-true place (queue_size cbaser) (and_right (eqb (place % command_size) 0) _ h) in
      omega arith,
)

ring_places : (r : ItsRegisters) → sound_ring r ≡ true → ((r.creadr % 32 ≡ 0) × (r.creadr < 1048576)) × ((r.cwriter % 32 ≡ 0) × (r.cwriter < 1048576))
unfolding sound_ring
ring_places r ok =
    cases (eqb r.cbaser 0)
    (λ h. let z = rw h at ok in
    let a : r.creadr ≡ 0 = eqb-true r.creadr 0 (and_left (eqb r.creadr 0) _ z) in
    let b : r.cwriter ≡ 0 = eqb-true r.cwriter 0 (and_right (eqb r.creadr 0) _ z) in
    (((omega arith), (omega arith)), ((omega arith), (omega arith))))
    (λ h. let z = and_right (not (eqb (queue_base r.cbaser) 0)) _ (rw h at ok) in (
      ring_place r.cbaser r.creadr (and_left (is_queue_offset r.cbaser r.creadr) _ z),
      ring_place r.cbaser r.cwriter (and_right (is_queue_offset r.cbaser r.creadr) _ z),
    ))

module _ (u : ItsState) where
  places : sound_unit u ≡ true → ((u.registers.creadr % 32 ≡ 0) × (u.registers.creadr < 1048576)) × ((u.registers.cwriter % 32 ≡ 0) × (u.registers.cwriter < 1048576))
  places sound = ring_places u.registers (and_right (sound_config u.config) _ sound)

  -- R14: Retry is never kept
  pub CWRITER_as_arm : sound_unit u ≡ true → ShowsCWRITER (held u CWRITER) u.registers.cwriter
  CWRITER_as_arm sound = let (p, q) = (places sound).1 in record { Retry = omega arith; Offset = omega arith }

  pub CREADR_as_arm : ReadsCREADR u → ShowsCREADR (held u CREADR) u.registers.creadr (stopped u)
  CREADR_as_arm c =
      let (p, q) = (places c.S12_sound).0 in
      let clear = or_left (is_stalled u.config u.registers) _ c.R13_not_stopped in
      let plain : held u CREADR ≡ u.registers.creadr = creadr_plain u.config u.registers clear in
      record { Stalled = rw (c.R13_not_stopped, plain) (omega arith); Offset = rw plain (omega arith) }

-- BASER 0 is of devices and BASER 1 of collections, with entries of 8 bytes, and the other six are of nothing. Of a fresh unit: no write changes
-- these fields (BaserReadOnly.antt)
pub BASER_as_arm : (k : ItsConfig) →
    ShowsBASER (held (fresh_unit k) (BASER 0)) of_devices 8 × ShowsBASER (held (fresh_unit k) (BASER 1)) of_collections 8
BASER_as_arm k = (record { Type_is = refl; Entry_Size = refl }, record { Type_is = refl; Entry_Size = refl })
