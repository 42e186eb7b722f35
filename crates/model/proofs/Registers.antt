-- What a unit of each profile stores, beside what document 01's unit stores (specs/In01.antt). In strict it is that of the value without bit 0 at CWRITER, but
-- for Stalled (02, A4); and in base it makes no difference what stands in Stalled.
-- Assumes nothing.
use Rattle.std.specs.Prelude.{if◌then◌else◌, Err, Ok}
use Prim.Native.Nat.{ℕ, ◌+◌, ◌-◌, ◌*◌, ◌/◌, ◌%◌, ◌^◌, ◌<◌}
use native.Mathlib.Omega.{arith}
use mathlib.Core.Path.{◌≡◌, refl, sym, ap, ◌∙◌}
use mathlib.Core.Bool.{Bool, true, false, ◌&&◌, not}
use mathlib.Core.List.{List}
use lib.ListN.{length}
use lib.Dec.{eqb}
use borrow.Author.Tests.{eqb-true, eqb-false}
use Rattle.model.specs.declared.ItsDeviceId.{ItsDeviceId}
use Rattle.model.specs.declared.EventId.{EventId}
use Rattle.model.specs.declared.ItsConfig.{ItsConfig}
use Rattle.model.specs.declared.ItsRegisters.{ItsRegisters}
use Rattle.model.specs.declared.ItsState.{ItsState}
use Rattle.model.specs.declared.ItsAction.{ItsAction}
use Rattle.model.specs.declared.Register.{Register}
use Rattle.model.specs.declared.Register.TheVariants.{Ctlr, Iidr, Typer, Cbaser, Cwriter, Creadr, Baser, Reserved}
use Rattle.model.specs.declared.RegisterWrite.{RegisterWrite}
use Rattle.model.specs.declared.Refusal.TheVariants.{Unsound, BaseZero, WriterRefused}
use Rattle.model.specs.Answer.{Verdict}
use Rattle.model.specs.Choose.{◌or◌then◌}
use Rattle.model.specs.Arm.{◌of◌, ◌in_place◌, ◌holding◌, without, low_half, high_half, CBASER_Valid, CWRITER_Retry, GITS_CTLR, GITS_IIDR, GITS_TYPER, GITS_CBASER, GITS_CWRITER, GITS_CREADR}
use Rattle.model.specs.With.{with_writer, unit_stalled}
use Rattle.model.specs.Profile.{is_profile, is_strict}
use Rattle.model.specs.Config.{queue_base, sound_config, sound_ring, sound_unit}
use Rattle.model.specs.Step.{delivery_in}
use Rattle.model.specs.Queue.{Window, held, may_run, run_queue}
use Rattle.model.specs.Register.{lies_in, is_baser, register_at, is_wide, read_part, merged, value_of, written_by, value_written}
use Rattle.model.specs.Access.{check_access, check_read, check_write, if_accepted}
use Rattle.model.specs.Writing.{refusing, storing, rebasing, going, clearing, to_ctlr, with_cbaser, to_cbaser, retries, offered, writer_accepted, writer_of, to_cwriter, with_baser, to_baser, write_register, register_write, stored_stalled, without_retry}
use Rattle.model.specs.Entry.{read_from, read, translate, stores, write}
use Rattle.model.specs.In01.{sound_in01, value_in01, read_in01, translate_in01, write_register_in01, stores_in01}
use Rattle.model.proofs.Cases.{cases, never, and_right}
use Rattle.model.proofs.Profiles.{made_by, sizes_only, base_reads, base_writes, base_made}
use Rattle.model.proofs.AnyProfile.{outcome_in, any_reads, any_writes, any_made}
use Rattle.model.proofs.Retry.{Half, whole, low, high, half, writer_whole, elsewhere, checks_taken}
use Rattle.model.proofs.Stalled.{not_writer}

-- bit 0 of a word is that of its low half
halved : (v : ℕ) → v % 2 ^ 32 ≡ 2 * (v / 2 % 2 ^ 31) + v % 2
halved v = omega arith

evened : (v : ℕ) → (v - v % 2) % 2 ^ 32 ≡ 2 * (v / 2 % 2 ^ 31)
evened v = omega arith

off_bit : (h m b : ℕ) → b < 2 → without CWRITER_Retry (high_half holding h + (2 * m + b)) ≡ high_half holding h + 2 * m
off_bit h m b l = omega (arith, l)

low_half_even : (h v : ℕ) → without CWRITER_Retry (high_half holding h + low_half of v) ≡ high_half holding h + low_half of (without CWRITER_Retry v)
low_half_even h v =
    let e : low_half of (without CWRITER_Retry v) ≡ 2 * (v / 2 % 2 ^ 31) = ap (λ n. (v - n) / 1 % 2 ^ 32) bit ∙ (whole_of (v - v % 2) ∙ evened v) in
    let f : low_half of v ≡ 2 * (v / 2 % 2 ^ 31) + v % 2 = whole_of v ∙ halved v in
    rw (e, f) (off_bit h (v / 2 % 2 ^ 31) (v % 2) (omega arith))
  where
    bit : CWRITER_Retry in_place v ≡ v % 2
    bit = omega arith

    whole_of : (n : ℕ) → n / 1 % 2 ^ 32 ≡ n % 2 ^ 32
    whole_of n = omega arith

-- STRICT.
module _ (u : ItsState) (y : is_strict u.config.profile ≡ true) where
  abbrev k : ItsConfig
  k = u.config

  abbrev r : ItsRegisters
  r = u.registers

  known : is_profile k.profile ≡ true
  known = rw (eqb-true k.profile 1 y)

  module _ (offset width value : ℕ) where
    abbrev v : ℕ
    v = without_retry offset value

    -- at another register the value is as it is
    same_value : (n : Register) → register_at offset ≡ n → (n ≡ Cwriter → ⊥) → v ≡ value
    same_value n at other = rw (not_writer u offset width value n at other)

    -- at CWRITER bit 0 of the merged value is that of the value, or none
    merged_so : check_access k offset width ≡ Ok tt → sound_ring r ≡ true → register_at offset ≡ Cwriter →
        offered k (value_written k r offset width value Cwriter) ≡ written_by (value_in01 u) offset width v Cwriter
    unfolding offered merged
    merged_so taken ring at = by_half (half k offset width taken at)
      where
        by_half : Half offset width → offered k (value_written k r offset width value Cwriter) ≡ written_by (value_in01 u) offset width v Cwriter
        by_half (whole w o) = rw (y, w, o) refl
        by_half (low w o) = rw (y, w, o) (low_half_even (high_half of r.cwriter) value)
        by_half (high w o) = rw (y, w, o) (omega (arith, writer_whole r ring))

    abbrev As : RegisterWrite → RegisterWrite → Type 0
    As s t = s ≡ stored_stalled t s.registers.stalled

    at_base : (written : ℕ) (a b : Bool) →
        As (if a then storing r else (b or refusing r 0 BaseZero then rebasing (clearing (is_strict k.profile) (with_cbaser r written))))
        (if a then storing r else (b or refusing r 0 BaseZero then rebasing (with_cbaser r written)))
    at_base written true b = refl
    at_base written false true = refl
    at_base written false false = refl

    at_writer : (writer : ℕ) (a retry : Bool) →
        As (a or refusing r writer WriterRefused then going (clearing retry (with_writer r writer))) (a or refusing r writer WriterRefused then going (with_writer r writer))
    at_writer writer true retry = refl
    at_writer writer false retry = refl

    at_table : (n written : ℕ) (a : Bool) → As (if a then storing r else storing (with_baser r n written)) (if a then storing r else storing (with_baser r n written))
    at_table n written true = refl
    at_table n written false = refl

    at_register : check_access k offset width ≡ Ok tt → sound_ring r ≡ true → (n : Register) → register_at offset ≡ n →
        As (write_register k r (value_written k r offset width value n) n) (write_register_in01 r (written_by (value_in01 u) offset width v n) n)
    unfolding to_ctlr to_cbaser to_cwriter to_baser
    at_register taken ring Ctlr at = rw (same_value Ctlr at (λ e. never true refl (cc))) refl
    at_register taken ring Iidr at = refl
    at_register taken ring Typer at = refl
    at_register taken ring Cbaser at =
        let written = value_written k r offset width value Cbaser in
        rw (same_value Cbaser at (λ e. never true refl (cc))) (at_base written r.enabled (not (eqb (queue_base written) 0)))
    at_register taken ring Cwriter at =
        let written = value_written k r offset width value Cwriter in
        let writer = writer_of k r written in
        rw (← (merged_so taken ring at)) (at_writer writer (writer_accepted r writer) (retries k written))
    at_register taken ring Creadr at = refl
    at_register taken ring (Baser n) at =
        rw (same_value (Baser n) at (λ e. never true refl (cc))) (at_table n (value_written k r offset width value (Baser n)) r.enabled)
    at_register taken ring Reserved at = refl

    module _ (row : List ItsAction) where
      by_verdict : (d : Verdict) → check_write k r (length row) offset width ≡ d → (n : Register) → register_at offset ≡ n →
          As (if_accepted d (write_register k r (value_written k r offset width value n) n) (refusing r 0))
          (if_accepted d (write_register_in01 r (written_by (value_in01 u) offset width v n) n) (refusing r 0))
      by_verdict (Ok _) c n at =
          let taken = checks_taken k r (length row) offset width c in
          at_register taken.access (and_right (sound_config k) _ taken.is_sound) n at
      by_verdict (Err why) c n at = refl

      pub strict_stores : stores row u offset width value ≡ stored_stalled (stores_in01 row u offset width v) (stores row u offset width value).registers.stalled
      unfolding register_write check_write stores_in01
      strict_stores =
          by_verdict (check_write k r (length row) offset width) refl (register_at offset) refl
          ∙ rw (sizes_only k known) refl

  -- the queue may run exactly so
  one_bit : (n : ℕ) → eqb (CBASER_Valid of n) 0 ≡ not (eqb (CBASER_Valid of n) 1)
  one_bit n =
      cases (eqb (CBASER_Valid of n) 0)
      (λ z. rw (eqb-true (CBASER_Valid of n) 0 z))
      (λ z. let one : CBASER_Valid of n ≡ 1 = omega (arith, eqb-false (CBASER_Valid of n) 0 z) in rw one)

  pub strict_runs : (s : ItsRegisters) → may_run k s ≡ (s.enabled && (eqb (CBASER_Valid of s.cbaser) 1 && not s.stalled))
  unfolding may_run held
  strict_runs s = rw (y, one_bit s.cbaser) (cases (eqb (CBASER_Valid of s.cbaser) 1) (λ t. rw t) (λ t. rw t))

  -- every read but those of CREADR
  not_creadr : (offset : ℕ) → lies_in GITS_CREADR offset ≡ false → register_at offset ≡ Creadr → ⊥
  unfolding register_at
  not_creadr offset out h =
      elsewhere offset Creadr (eqb offset GITS_CTLR) Ctlr _ (λ _ e. never true refl (cc)) h (λ _ h.
      elsewhere offset Creadr (eqb offset GITS_IIDR) Iidr _ (λ _ e. never true refl (cc)) h (λ _ h.
      elsewhere offset Creadr (lies_in GITS_TYPER offset) Typer _ (λ _ e. never true refl (cc)) h (λ _ h.
      elsewhere offset Creadr (lies_in GITS_CBASER offset) Cbaser _ (λ _ e. never true refl (cc)) h (λ _ h.
      elsewhere offset Creadr (lies_in GITS_CWRITER offset) Cwriter _ (λ _ e. never true refl (cc)) h (λ _ h.
      let h' : (if is_baser offset then _ else Reserved) ≡ Creadr = rw out at h in
      elsewhere offset Creadr (is_baser offset) _ Reserved (λ _ e. never true refl (cc)) h' (λ _ h. never true refl (cc)))))))

  other_value : (offset : ℕ) → lies_in GITS_CREADR offset ≡ false → (n : Register) → register_at offset ≡ n → value_of k r n ≡ value_in01 u n
  other_value offset out Ctlr at = refl
  other_value offset out Iidr at = refl
  other_value offset out Typer at = refl
  other_value offset out Cbaser at = refl
  other_value offset out Cwriter at = refl
  other_value offset out Creadr at = absurd (not_creadr offset out at)
  other_value offset out (Baser n) at = refl
  other_value offset out Reserved at = refl

  pub strict_reads : (offset width : ℕ) → lies_in GITS_CREADR offset ≡ false → read u offset width ≡ read_in01 u offset width
  unfolding read_from check_read read_in01
  strict_reads offset width out =
      rw (sizes_only k known)
      (ap (λ z. if_accepted (sound_in01 k r or Err Unsound then check_access k offset width) (Ok (if is_wide (register_at offset) then read_part offset width z else z)) Err)
      (other_value offset out (register_at offset) refl))

  pub strict_translates : (d : ItsDeviceId) (e : EventId) → translate u d e ≡ translate_in01 u d e
  unfolding translate translate_in01
  strict_translates d e = rw (sizes_only k known)

-- STALLED MAKES NO DIFFERENCE, in base; and to no unit whether it is sound.
module _ (u : ItsState) (b : Bool) where
  abbrev other : ItsState → ItsState
  other v = unit_stalled v b

  pub same_sound : sound_unit (other u) ≡ sound_unit u
  unfolding sound_ring
  same_sound = refl

  pub unread_translates : (d : ItsDeviceId) (e : EventId) → translate (other u) d e ≡ translate u d e
  unfolding translate sound_ring delivery_in
  unread_translates d e = refl

  module _ (base : u.config.profile ≡ 0) where
    pub unread_reads : (offset width : ℕ) → read (other u) offset width ≡ read u offset width
    unread_reads offset width =
        base_reads (other u) base offset width ∙ (any_reads (λ p. p) (λ _. b) u offset width ∙ sym (base_reads u base offset width))

    module _ (w : Window) (row : List ItsAction) (offset width value : ℕ) where
      pub unread_writes : write w row (other u) offset width value ≡ outcome_in other (write w row u offset width value)
      unread_writes =
          base_writes (other u) base w row offset width value
          ∙ (any_writes (λ p. p) (λ _. b) w row u offset width value
          ∙ ap (outcome_in other) (sym (base_writes u base w row offset width value)))

      -- and the same actions are made
      pub unread_made : made_by (run_queue w) (other u) (stores row (other u) offset width value) ≡ made_by (run_queue w) u (stores row u offset width value)
      unread_made =
          base_made (other u) base w row offset width value
          ∙ (any_made (λ p. p) (λ _. b) w row u offset width value
          ∙ sym (base_made u base w row offset width value))
