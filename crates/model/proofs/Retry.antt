-- Retry (02, A4): where a write of CWRITER carries it. The register's low half does, by bit 0 of what is written; its high half never does.
-- Assumes nothing.
use Rattle.std.specs.Prelude.{if◌then◌else◌, Ok}
use Prim.Native.Nat.{ℕ, ◌+◌, ◌%◌, ◌≤◌, ◌<◌}
use native.Mathlib.Omega.{arith}
use mathlib.Core.Path.{◌≡◌, refl}
use mathlib.Core.Bool.{Bool, true, false, ◌&&◌, ◌||◌, not}
use mathlib.Core.Logic.{◌⊎◌, inl, inr}
use lib.Dec.{leb, eqb}
use borrow.Author.Tests.{leb-true, ltb-true, eqb-true, eqb-false}
use Rattle.model.specs.declared.ItsConfig.{ItsConfig}
use Rattle.model.specs.declared.ItsRegisters.{ItsRegisters}
use Rattle.model.specs.declared.Register.{Register}
use Rattle.model.specs.declared.Register.TheVariants.{Ctlr, Iidr, Typer, Cbaser, Cwriter, Creadr, Baser, Reserved}
use Rattle.model.specs.declared.Refusal.TheVariants.{Unsound, RowTooShort, InvalidAccess, Identification}
use Rattle.model.specs.Arm.{◌of◌, CWRITER_Retry, GITS_CTLR, GITS_IIDR, GITS_TYPER, GITS_CBASER, GITS_CWRITER, GITS_CREADR, is_identification}
use Rattle.model.specs.Config.{sound_ring, sound}
use Rattle.model.specs.Register.{lies_in, is_baser, register_at, takes_width, merged, value_written}
use Rattle.model.specs.Access.{in_frame, check_access, check_write}
use Rattle.model.proofs.Cases.{cases, never, and_left, and_right, check_held}
use Rattle.model.proofs.Ring.{idle, ring, offset_whole}

-- the offsets of a sound ring are multiples of 32
pub writer_whole : (r : ItsRegisters) → sound_ring r ≡ true → r.cwriter % 32 ≡ 0
writer_whole r s =
    cases (eqb r.cbaser 0) (λ z. rw (idle r s z).writer) (λ n. offset_whole r.cbaser r.cwriter (ring r s n).writer)

pub reader_whole : (r : ItsRegisters) → sound_ring r ≡ true → r.creadr % 32 ≡ 0
reader_whole r s =
    cases (eqb r.cbaser 0) (λ z. rw (idle r s z).reader) (λ n. offset_whole r.cbaser r.creadr (ring r s n).reader)

-- where CWRITER stands
module _ (offset : ℕ) where
  -- a register that is looked for further on
  pub elsewhere : {P : Type 0} (x : Register) (b : Bool) (n m : Register) → (b ≡ true → n ≡ x → ⊥) → (if b then n else m) ≡ x → (b ≡ false → m ≡ x → P) → P
  elsewhere x true n m other h k = absurd (other refl h)
  elsewhere x false n m other h k = k refl h

  pub stands_at : register_at offset ≡ Cwriter → (GITS_CWRITER ≤ offset) × (offset < GITS_CREADR)
  unfolding register_at
  stands_at h =
      elsewhere Cwriter (eqb offset GITS_CTLR) Ctlr _ (λ _ e. never true refl (cc)) h (λ _ h.
      elsewhere Cwriter (eqb offset GITS_IIDR) Iidr _ (λ _ e. never true refl (cc)) h (λ _ h.
      elsewhere Cwriter (lies_in GITS_TYPER offset) Typer _ (λ _ e. never true refl (cc)) h (λ _ h.
      elsewhere Cwriter (lies_in GITS_CBASER offset) Cbaser _ (λ _ e. never true refl (cc)) h (λ _ h.
      cases (lies_in GITS_CWRITER offset)
      (λ y. (leb-true GITS_CWRITER offset (and_left _ _ y), ltb-true offset GITS_CREADR (and_right (leb GITS_CWRITER offset) _ y)))
      (λ n. let h' : (if lies_in GITS_CREADR offset then Creadr else if is_baser offset then _ else Reserved) ≡ Cwriter = rw n at h in
      elsewhere Cwriter (lies_in GITS_CREADR offset) Creadr _ (λ _ e. never true refl (cc)) h' (λ _ h.
      elsewhere Cwriter (is_baser offset) _ Reserved (λ _ e. never true refl (cc)) h (λ _ h. never true refl (cc))))))))

-- an access that is taken is to the whole register, to its low half or to its high half
third : (a b c : Bool) → (a && (b && c)) ≡ true → c ≡ true
third a b c h = and_right b c (and_right a (b && c) h)

pub data Half (offset width : ℕ) : Type 0 where
  whole : width ≡ 8 → offset ≡ GITS_CWRITER → Half offset width
  low : width ≡ 4 → offset ≡ GITS_CWRITER → Half offset width
  high : width ≡ 4 → offset ≡ 0x8C → Half offset width

module _ (k : ItsConfig) (offset width : ℕ) (taken : check_access k offset width ≡ Ok tt) (at : register_at offset ≡ Cwriter) where
  pub half : Half offset width
  unfolding check_access
  half =
      let (frame, rest) = check_held (in_frame k offset width) InvalidAccess _ taken in
      let (_, wide) = check_held (not (is_identification offset)) Identification _ rest in
      let takes : takes_width Cwriter width ≡ true = rw at at (check_held (takes_width (register_at offset) width) InvalidAccess _ wide).0 in
      let aligned : offset % width ≡ 0 = eqb-true (offset % width) 0 (third (eqb width 1 || (eqb width 2 || (eqb width 4 || eqb width 8))) (leb (offset + width) k.frame_size) (eqb (offset % width) 0) frame) in
      let (below, above) = stands_at offset at in
      cases (eqb width 4)
      (λ y. let four : width ≡ 4 = eqb-true width 4 y in
      let whole_of : offset % 4 ≡ 0 = rw four at aligned in
      cases (eqb (offset % 8) 0)
      (λ z. let e : offset % 8 ≡ 0 = eqb-true (offset % 8) 0 z in low four (omega arith))
      (λ z. let e : offset % 8 ≡ 0 → ⊥ = eqb-false (offset % 8) 0 z in high four (omega arith)))
      (λ n. let eight : width ≡ 8 = eqb-true width 8 (rw n at takes) in
      let whole_of : offset % 8 ≡ 0 = rw eight at aligned in
      whole eight (omega arith))

  -- WHERE RETRY IS: bit 0 of what is written to the whole register or to its low half, of a unit whose ring is sound
  pub retry_of : (r : ItsRegisters) → sound_ring r ≡ true → (value : ℕ) →
      CWRITER_Retry of value_written k r offset width value Cwriter ≡ (if eqb offset GITS_CWRITER then CWRITER_Retry of value else 0)
  unfolding merged
  retry_of r s value = by_half half
    where
      by_half : Half offset width → CWRITER_Retry of value_written k r offset width value Cwriter ≡ (if eqb offset GITS_CWRITER then CWRITER_Retry of value else 0)
      by_half (whole w o) = rw (w, o) refl
      by_half (low w o) = rw (w, o) (omega arith)
      by_half (high w o) = rw (w, o) (omega (arith, writer_whole r s))

-- what the checks of a write that is taken say
pub record Taken (k : ItsConfig) (r : ItsRegisters) (room offset width : ℕ) : Type 0 where
  pub is_sound : sound k r ≡ true
  pub has_room : leb k.command_budget room ≡ true
  pub access : check_access k offset width ≡ Ok tt

pub checks_taken : (k : ItsConfig) (r : ItsRegisters) (room offset width : ℕ) → check_write k r room offset width ≡ Ok tt → Taken k r room offset width
unfolding check_write
checks_taken k r room offset width h =
    let (s, rest) = check_held (sound k r) Unsound _ h in
    let (l, a) = check_held (leb k.command_budget room) RowTooShort _ rest in
    record { is_sound = s; has_room = l; access = a }
