-- Accesses that a sound unit takes: the frame has room for them. And what CWRITER stores where it is written as it is, with Retry.
-- Assumes nothing.
use Rattle.std.specs.Prelude.{Err, Ok}
use Prim.Native.Nat.{ℕ, ◌+◌, ◌^◌, ◌≤◌, ◌<◌}
use native.Mathlib.Omega.{arith}
use mathlib.Core.Path.{◌≡◌, refl, sym, ap, ◌∙◌}
use mathlib.Core.Bool.{Bool, true, false, ◌&&◌, ◌||◌}
use mathlib.Core.List.{List}
use mathlib.Core.Logic.{◌⊎◌, inl, inr}
use lib.ListN.{length}
use lib.Dec.{leb, eqb}
use borrow.Author.Tests.{le-leb, eqb-true, eq-eqb}
use Rattle.model.specs.declared.ItsConfig.{ItsConfig}
use Rattle.model.specs.declared.ItsRegisters.{ItsRegisters}
use Rattle.model.specs.declared.ItsState.{ItsState}
use Rattle.model.specs.declared.ItsAction.{ItsAction}
use Rattle.model.specs.declared.Register.TheVariants.{Ctlr, Cwriter, Creadr}
use Rattle.model.specs.declared.RegisterWrite.{RegisterWrite}
use Rattle.model.specs.declared.Refusal.TheVariants.{WriterRefused}
use Rattle.model.specs.Answer.{Verdict}
use Rattle.model.specs.Choose.{◌or◌then◌}
use Rattle.model.specs.Arm.{◌of◌, CWRITER_Retry, GITS_CTLR, GITS_CWRITER, GITS_CREADR, LPI_base}
use Rattle.model.specs.With.{with_enabled, with_stalled, with_writer}
use Rattle.model.specs.Profile.{is_strict}
use Rattle.model.specs.Config.{processors_of, none_twice, sizes_in01, sound_config, sound_ring, sound_unit}
use Rattle.model.specs.Register.{register_at, merged, value_written}
use Rattle.model.specs.Access.{check_access, check_write, if_accepted}
use Rattle.model.specs.Writing.{refusing, going, enables, to_ctlr, clearing, retries, offered, writer_accepted, writer_of, to_cwriter, register_write}
use Rattle.model.specs.Entry.{stores}
use Rattle.model.proofs.Cases.{cases, never, and_left, and_right}
use Rattle.model.proofs.Profiles.{sizes_of}
use Rattle.model.proofs.Ring.{idle, ring, offset_below}
use Rattle.model.proofs.Retry.{writer_whole, retry_of, checks_taken}
use Rattle.model.proofs.Stalled.{is_taken}

-- a frame has room for them
fits : (n size : ℕ) → n ≤ 65536 → (eqb size 65536 || eqb size 131072) ≡ true → leb n size ≡ true
fits n size l h =
    cases (eqb size 65536)
    (λ y. rw (eqb-true size 65536 y) (le-leb n 65536 l))
    (λ m. rw (eqb-true size 131072 (rw m at h)) (le-leb n 131072 (omega (arith, l))))

pub frame_fits : (k : ItsConfig) → sound_config k ≡ true → (n : ℕ) → n ≤ 65536 → leb n k.frame_size ≡ true
unfolding sizes_in01
frame_fits k h n l =
    let limit = leb LPI_base k.lpi_limit && leb k.lpi_limit 16777215 in
    let budget = leb 1 k.command_budget && leb k.command_budget 1024 in
    let frame = eqb k.frame_size 65536 || eqb k.frame_size 131072 in
    let processors = (leb 1 k.processor_count && leb k.processor_count 16) && none_twice (processors_of k) in
    fits n k.frame_size l (and_left frame processors (and_right budget (frame && processors) (and_right limit (budget && (frame && processors)) (sizes_of k h))))

module _ (k : ItsConfig) (h : sound_config k ≡ true) where
  ctlr_taken : check_access k GITS_CTLR 4 ≡ Ok tt
  unfolding check_access register_at
  ctlr_taken = rw (frame_fits k h 4 (omega arith))

  cwriter_taken : check_access k GITS_CWRITER 8 ≡ Ok tt
  unfolding check_access register_at
  cwriter_taken = rw (frame_fits k h 144 (omega arith))

  pub creadr_taken : (width : ℕ) → (width ≡ 8) ⊎ (width ≡ 4) → check_access k GITS_CREADR width ≡ Ok tt
  unfolding check_access register_at
  creadr_taken width (inl e) = rw (e, frame_fits k h 152 (omega arith))
  creadr_taken width (inr e) = rw (e, frame_fits k h 148 (omega arith))

  pub creadr_high_taken : check_access k (GITS_CREADR + 4) 4 ≡ Ok tt
  unfolding check_access register_at
  creadr_high_taken = rw (frame_fits k h 152 (omega arith))

at_ctlr : register_at GITS_CTLR ≡ Ctlr
unfolding register_at
at_ctlr = refl

at_cwriter : register_at GITS_CWRITER ≡ Cwriter
unfolding register_at
at_cwriter = refl

pub at_creadr : register_at GITS_CREADR ≡ Creadr
unfolding register_at
at_creadr = refl

pub at_creadr_high : register_at (GITS_CREADR + 4) ≡ Creadr
unfolding register_at
at_creadr_high = refl

-- CWRITER as it is, with Retry, in a sound ring
module _ (k : ItsConfig) (r : ItsRegisters) (strictly : is_strict k.profile ≡ true) (sound : sound_ring r ≡ true) where
  below_20 : eqb r.cbaser 0 ≡ false → r.cwriter < 2 ^ 20
  below_20 n = omega (arith, offset_below r.cbaser r.cwriter (ring r sound n).writer)

  same_writer : writer_of k r (r.cwriter + 1) ≡ r.cwriter
  unfolding offered
  same_writer =
      let whole = writer_whole r sound in
      cases (eqb r.cbaser 0)
      (λ z. rw (strictly, z) (omega (arith, whole)))
      (λ n. rw (strictly, n) (omega (arith, whole, below_20 n)))

  writer_taken_lem : writer_accepted r r.cwriter ≡ true
  unfolding writer_accepted
  writer_taken_lem = cases (eqb r.cbaser 0) (λ z. rw z (eq-eqb r.cwriter 0 (idle r sound z).writer)) (λ n. rw n (ring r sound n).writer)

  has_retry : retries k (r.cwriter + 1) ≡ true
  unfolding retries
  has_retry =
      let bit : CWRITER_Retry of (r.cwriter + 1) ≡ 1 = omega (arith, writer_whole r sound) in
      rw (strictly, bit)

-- what an accepted CWRITER write with Retry stores, of a strict unit: the writer, and Stalled is clear
module _ (u : ItsState) (row : List ItsAction) (width value : ℕ) (y : is_strict u.config.profile ≡ true) (bit : CWRITER_Retry of value ≡ 1) where
  abbrev written : ℕ
  written = value_written u.config u.registers GITS_CWRITER width value Cwriter

  abbrev writer : ℕ
  writer = writer_of u.config u.registers written

  abbrev Goes : RegisterWrite → Type 0
  Goes s = s ≡ going (with_stalled (with_writer u.registers writer) false)

  at_writer : stores row u GITS_CWRITER width value
      ≡ if_accepted (check_write u.config u.registers (length row) GITS_CWRITER width) (to_cwriter u.config u.registers written) (refusing u.registers 0)
  unfolding register_write
  at_writer = rw at_cwriter

  with_bit : CWRITER_Retry of written ≡ 1 → retries u.config written ≡ true
  unfolding retries
  with_bit e = rw (y, e)

  by_writer : (a retry : Bool) → retry ≡ true → is_taken (a or refusing u.registers writer WriterRefused then going (clearing retry (with_writer u.registers writer))).answer ≡ true →
      Goes (a or refusing u.registers writer WriterRefused then going (clearing retry (with_writer u.registers writer)))
  by_writer true retry e t = rw e
  by_writer false retry e t = never true refl (sym t)

  by_verdict : (d : Verdict) → check_write u.config u.registers (length row) GITS_CWRITER width ≡ d →
      is_taken (if_accepted d (to_cwriter u.config u.registers written) (refusing u.registers 0)).answer ≡ true →
      Goes (if_accepted d (to_cwriter u.config u.registers written) (refusing u.registers 0))
  unfolding to_cwriter
  by_verdict (Err why) c t = never true refl (sym t)
  by_verdict (Ok _) c t =
      let k = checks_taken u.config u.registers (length row) GITS_CWRITER width c in
      let bit-so = retry_of u.config GITS_CWRITER width k.access at_cwriter u.registers (and_right (sound_config u.config) _ k.is_sound) value ∙ bit in
      by_writer (writer_accepted u.registers writer) (retries u.config written) (with_bit bit-so) t

  pub retry_goes : is_taken (stores row u GITS_CWRITER width value).answer ≡ true → Goes (stores row u GITS_CWRITER width value)
  retry_goes t =
      at_writer ∙ by_verdict (check_write u.config u.registers (length row) GITS_CWRITER width) refl (ap (λ s. is_taken s.answer) (sym at_writer) ∙ t)

-- what a write stores, of a sound unit with a row that has room
module _ (u : ItsState) (row : List ItsAction) (sound : sound_unit u ≡ true) (room : u.config.command_budget ≤ length row) where
  taken : (offset width : ℕ) → check_access u.config offset width ≡ Ok tt → check_write u.config u.registers (length row) offset width ≡ Ok tt
  unfolding check_write
  taken offset width a = rw (sound, le-leb u.config.command_budget (length row) room) a

  ctlr_goes : (value : ℕ) → stores row u GITS_CTLR 4 value ≡ going (with_enabled u.registers (enables value))
  unfolding register_write to_ctlr
  ctlr_goes value = rw (taken GITS_CTLR 4 (ctlr_taken u.config (and_left (sound_config u.config) _ sound)), at_ctlr)

  -- in an enabled unit, where CTLR enables, all registers are as they were
  pub ctlr_same : (value : ℕ) → u.registers.enabled ≡ true → enables value ≡ true → stores row u GITS_CTLR 4 value ≡ going u.registers
  ctlr_same value on again = ctlr_goes value ∙ ap (λ b. going (with_enabled u.registers b)) (again ∙ sym on)

  -- and with Retry they are but for Stalled, which is clear
  pub retry_same : is_strict u.config.profile ≡ true → stores row u GITS_CWRITER 8 (u.registers.cwriter + 1) ≡ going (with_stalled u.registers false)
  unfolding register_write to_cwriter merged
  retry_same y =
      let whole = and_right (sound_config u.config) _ sound in
      rw (
        taken GITS_CWRITER 8 (cwriter_taken u.config (and_left (sound_config u.config) _ sound)),
        at_cwriter,
        same_writer u.config u.registers y whole,
        writer_taken_lem u.config u.registers y whole,
        has_retry u.config u.registers y whole,
      )
