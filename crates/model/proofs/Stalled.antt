-- What a write does to Stalled (02, A4). What it stores leaves the bit, but for the two that clear it in strict; a run that a command stopped sets it there;
-- and base never writes it.
-- Assumes nothing.
use Rattle.std.specs.Prelude.{if◌then◌else◌, Err, None, Ok, Option, Some, is_ok}
use Prim.Native.Nat.{ℕ, ◌+◌}
use native.Mathlib.Omega.{arith}
use mathlib.Core.Path.{◌≡◌, refl, sym, ap, ap₂, ◌∙◌}
use mathlib.Core.Bool.{Bool, true, false, ◌&&◌, ◌||◌, not}
use mathlib.Core.List.{List}
use lib.ListN.{length}
use lib.Dec.{leb, eqb}
use borrow.Author.Tests.{eqb-true, ne_eqb, leb-true, le-ltb}
use Rattle.model.specs.declared.ItsConfig.{ItsConfig}
use Rattle.model.specs.declared.ItsRegisters.{ItsRegisters}
use Rattle.model.specs.declared.ItsState.{ItsState}
use Rattle.model.specs.declared.ItsAction.{ItsAction}
use Rattle.model.specs.declared.Register.{Register}
use Rattle.model.specs.declared.Register.TheVariants.{Ctlr, Iidr, Typer, Cbaser, Cwriter, Creadr, Baser, Reserved}
use Rattle.model.specs.declared.RegisterWrite.{RegisterWrite}
use Rattle.model.specs.declared.Refusal.{Refusal}
use Rattle.model.specs.declared.Refusal.TheVariants.{BaseZero, WriterRefused}
use Rattle.model.specs.Answer.{Verdict, WriteAnswer}
use Rattle.model.specs.Choose.{◌or◌then◌, if_found}
use Rattle.model.specs.Arm.{◌of◌, CWRITER_Retry, GITS_CTLR, GITS_IIDR, GITS_TYPER, GITS_CBASER, GITS_CWRITER, GITS_CREADR}
use Rattle.model.specs.With.{with_writer, with_registers}
use Rattle.model.specs.Profile.{is_strict}
use Rattle.model.specs.Config.{queue_base, sound_config, sound_ring}
use Rattle.model.specs.Queue.{Window, Stop, Ran, run, stall, halting}
use Rattle.model.specs.Register.{lies_in, is_baser, register_at, value_written}
use Rattle.model.specs.Access.{check_access, check_write, if_accepted}
use Rattle.model.specs.Writing.{refusing, storing, rebasing, going, clearing, with_cbaser, to_ctlr, to_cbaser, retries, writer_accepted, writer_of, to_cwriter, with_baser, to_baser, write_register, register_write, then_runs}
use Rattle.model.specs.Entry.{stores}
use Rattle.model.proofs.Cases.{cases, never, and_left, and_right}
use Rattle.model.proofs.Retry.{elsewhere, retry_of, checks_taken}
use Rattle.model.proofs.Profiles.{off_and}

-- what is stored clears Stalled, in strict: a new base, or a writer with Retry
abbrev pub clears : RegisterWrite → ℕ → ℕ → Bool
clears s offset value = s.rebased || (then_runs s && (eqb offset GITS_CWRITER && eqb (CWRITER_Retry of value) 1))

-- the bit after such a write
abbrev pub leaves : Bool → Bool → Bool → Bool
leaves strict clear stalled = not (strict && clear) && stalled

-- the write is stored, or ignored: not refused at the entry
abbrev pub is_taken : Option WriteAnswer → Bool
is_taken None = true
is_taken (Some a) = is_ok a

-- where CBASER stands
module _ (offset : ℕ) where
  pub base_there : lies_in GITS_CBASER offset ≡ true → register_at offset ≡ Cbaser
  unfolding register_at
  base_there y =
      let low = leb-true GITS_CBASER offset (and_left _ _ y) in
      let no-ctlr = ne_eqb offset GITS_CTLR (λ e. omega (arith, low, e)) in
      let no-iidr = ne_eqb offset GITS_IIDR (λ e. omega (arith, low, e)) in
      let no_typer : lies_in GITS_TYPER offset ≡ false = rw (le-ltb offset (GITS_TYPER + 8) (omega arith), off_and (leb GITS_TYPER offset)) in
      rw (no-ctlr, no-iidr, no_typer, y)

  pub base_here : register_at offset ≡ Cbaser → lies_in GITS_CBASER offset ≡ true
  unfolding register_at
  base_here h =
      elsewhere offset Cbaser (eqb offset GITS_CTLR) Ctlr _ (λ _ e. never true refl (cc)) h (λ _ h.
      elsewhere offset Cbaser (eqb offset GITS_IIDR) Iidr _ (λ _ e. never true refl (cc)) h (λ _ h.
      elsewhere offset Cbaser (lies_in GITS_TYPER offset) Typer _ (λ _ e. never true refl (cc)) h (λ _ h.
      cases (lies_in GITS_CBASER offset) (λ y. y)
      (λ n. let h' : (if lies_in GITS_CWRITER offset then Cwriter else if lies_in GITS_CREADR offset then Creadr else if is_baser offset then _ else Reserved) ≡ Cbaser = rw n at h in
      elsewhere offset Cbaser (lies_in GITS_CWRITER offset) Cwriter _ (λ _ e. never true refl (cc)) h' (λ _ h.
      elsewhere offset Cbaser (lies_in GITS_CREADR offset) Creadr _ (λ _ e. never true refl (cc)) h (λ _ h.
      elsewhere offset Cbaser (is_baser offset) _ Reserved (λ _ e. never true refl (cc)) h (λ _ h. never true refl (cc))))))))

  not_base : (n : Register) → register_at offset ≡ n → (n ≡ Cbaser → ⊥) → lies_in GITS_CBASER offset ≡ false
  not_base n at other = cases (lies_in GITS_CBASER offset) (λ y. absurd (other (sym at ∙ base_there y))) (λ z. z)

module _ (u : ItsState) (offset width value : ℕ) where
  abbrev k : ItsConfig
  k = u.config

  abbrev r : ItsRegisters
  r = u.registers

  abbrev strict : Bool
  strict = is_strict k.profile

  abbrev Left : RegisterWrite → Type 0
  Left s = s.registers.stalled ≡ leaves strict (clears s offset value) r.stalled

  same : (s : RegisterWrite) → s.registers.stalled ≡ r.stalled → clears s offset value ≡ false → Left s
  same s e n = e ∙ sym (ap (λ c. leaves strict c r.stalled) n ∙ ap (λ c. not c && r.stalled) (off_and strict))

  pub not_writer : (n : Register) → register_at offset ≡ n → (n ≡ Cwriter → ⊥) → eqb offset GITS_CWRITER ≡ false
  unfolding register_at
  not_writer n at other =
      cases (eqb offset GITS_CWRITER) (λ y. absurd (other (sym (rw (eqb-true offset GITS_CWRITER y) at at)))) (λ z. z)

  to_base : (written : ℕ) (a b : Bool) → Left (if a then storing r else (b or refusing r 0 BaseZero then rebasing (clearing strict (with_cbaser r written))))
  to_base written true b = same (storing r) refl refl
  to_base written false true = ap (λ c. not c && r.stalled) (on strict)
    where
      on : (b : Bool) → b ≡ (b && true)
      on true = refl
      on false = refl
  to_base written false false = same (refusing r 0 BaseZero) refl refl

  to_table : (n written : ℕ) (a : Bool) → Left (if a then storing r else storing (with_baser r n written))
  to_table n written true = same (storing r) refl refl
  to_table n written false = same (storing (with_baser r n written)) refl refl

  to_writer : (writer : ℕ) (a retry : Bool) → retry ≡ (strict && (eqb offset GITS_CWRITER && eqb (CWRITER_Retry of value) 1)) →
      Left (a or refusing r writer WriterRefused then going (clearing retry (with_writer r writer)))
  to_writer writer true retry e = ap (λ c. not c && r.stalled) e
  to_writer writer false retry e = same (refusing r writer WriterRefused) refl refl

  with_retry_lem : check_access k offset width ≡ Ok tt → sound_ring r ≡ true → register_at offset ≡ Cwriter →
      retries k (value_written k r offset width value Cwriter) ≡ (strict && (eqb offset GITS_CWRITER && eqb (CWRITER_Retry of value) 1))
  unfolding retries
  with_retry_lem taken ring at =
      ap (λ n. strict && eqb n 1) (retry_of k offset width taken at r ring value)
      ∙ cases (eqb offset GITS_CWRITER) (λ y. rw y) (λ n. rw n)

  to_register : check_access k offset width ≡ Ok tt → sound_ring r ≡ true → (n : Register) → register_at offset ≡ n → Left (write_register k r (value_written k r offset width value n) n)
  unfolding to_ctlr to_cbaser to_cwriter to_baser
  to_register taken ring Ctlr at = same (to_ctlr r value) refl (rw (not_writer Ctlr at (λ e. never true refl (cc))))
  to_register taken ring Iidr at = same (storing r) refl refl
  to_register taken ring Typer at = same (storing r) refl refl
  to_register taken ring Cbaser at = let written = value_written k r offset width value Cbaser in to_base written r.enabled (not (eqb (queue_base written) 0))
  to_register taken ring Cwriter at =
      let written = value_written k r offset width value Cwriter in
      to_writer (writer_of k r written) (writer_accepted r (writer_of k r written)) (retries k written) (with_retry_lem taken ring at)
  to_register taken ring Creadr at = same (storing r) refl refl
  to_register taken ring (Baser n) at = to_table n (value_written k r offset width value (Baser n)) r.enabled
  to_register taken ring Reserved at = same (storing r) refl refl

  module _ (row : List ItsAction) where
    by_verdict : (v : Verdict) → check_write k r (length row) offset width ≡ v → (n : Register) → register_at offset ≡ n →
        Left (if_accepted v (write_register k r (value_written k r offset width value n) n) (refusing r 0))
    by_verdict (Ok _) c n at =
        let taken = checks_taken k r (length row) offset width c in
        to_register taken.access (and_right (sound_config k) _ taken.is_sound) n at
    by_verdict (Err why) c n at = same (refusing r 0 why) refl refl

    -- WHAT A WRITE STORES
    pub stored_stalled_lem : Left (stores row u offset width value)
    unfolding register_write
    stored_stalled_lem = by_verdict (check_write k r (length row) offset width) refl (register_at offset) refl

    -- in base the bit stays
    pub base_stored : strict ≡ false → (stores row u offset width value).registers.stalled ≡ r.stalled
    base_stored b = stored_stalled_lem ∙ ap (λ z. leaves z (clears (stores row u offset width value) offset value) r.stalled) b

-- WHICH WRITES CLEAR IT, by the access: one with Retry at CWRITER, and one at CBASER to a unit that is not enabled, where they are taken.
module _ (u : ItsState) (offset width value : ℕ) where
  abbrev among : Bool
  among = (eqb offset GITS_CWRITER && eqb (CWRITER_Retry of value) 1) || (lies_in GITS_CBASER offset && not u.registers.enabled)

  abbrev Told : RegisterWrite → Type 0
  Told s = clears s offset value ≡ (is_taken s.answer && among)

  -- at another register
  module _ (n : Register) (at : register_at offset ≡ n) (writer : n ≡ Cwriter → ⊥) (base : n ≡ Cbaser → ⊥) where
    other : (s : RegisterWrite) → s.rebased ≡ false → Told s
    other s e = rw (not_writer u offset width value n at writer, not_base offset n at base, e, off_and (then_runs s), off_and (is_taken s.answer))

  told_refused : (at : ℕ) (why : Refusal) → Told (refusing u.registers at why)
  told_refused at why = refl

  module _ (at : register_at offset ≡ Cbaser) where
    told_base : (s : RegisterWrite) → clears s offset value ≡ (is_taken s.answer && not u.registers.enabled) → Told s
    told_base s e = e ∙ rw (not_writer u offset width value Cbaser at (λ e. never true refl (cc)), base_here offset at)

    told_at_base : (a b : Bool) (stored : ItsRegisters) → u.registers.enabled ≡ a →
        Told (if a then storing u.registers else (b or refusing u.registers 0 BaseZero then rebasing stored))
    told_at_base true b stored e = told_base (storing u.registers) (rw e)
    told_at_base false true stored e = told_base (rebasing stored) (rw e)
    told_at_base false false stored e = told_refused 0 BaseZero

  or_off : (b : Bool) → b ≡ (b || false)
  or_off true = refl
  or_off false = refl

  module _ (at : register_at offset ≡ Cwriter) where
    told_at_writer : (a : Bool) (writer : ℕ) (stored : ItsRegisters) → Told (a or refusing u.registers writer WriterRefused then going stored)
    told_at_writer true writer stored = rw (not_base offset Cwriter at (λ e. never true refl (cc))) (or_off _)
    told_at_writer false writer stored = told_refused writer WriterRefused

  told_at_register : (n : Register) → register_at offset ≡ n → Told (write_register u.config u.registers (value_written u.config u.registers offset width value n) n)
  unfolding to_ctlr to_cbaser to_cwriter to_baser
  told_at_register Ctlr at = other Ctlr at (λ e. never true refl (cc)) (λ e. never true refl (cc)) (to_ctlr u.registers value) refl
  told_at_register Iidr at = other Iidr at (λ e. never true refl (cc)) (λ e. never true refl (cc)) (storing u.registers) refl
  told_at_register Typer at = other Typer at (λ e. never true refl (cc)) (λ e. never true refl (cc)) (storing u.registers) refl
  told_at_register Cbaser at =
      let written = value_written u.config u.registers offset width value Cbaser in
      told_at_base at u.registers.enabled (not (eqb (queue_base written) 0)) (clearing (is_strict u.config.profile) (with_cbaser u.registers written)) refl
  told_at_register Cwriter at =
      let written = value_written u.config u.registers offset width value Cwriter in
      let writer = writer_of u.config u.registers written in
      told_at_writer at (writer_accepted u.registers writer) writer (clearing (retries u.config written) (with_writer u.registers writer))
  told_at_register Creadr at = other Creadr at (λ e. never true refl (cc)) (λ e. never true refl (cc)) (storing u.registers) refl
  told_at_register (Baser n) at =
      let table = to_baser u.registers n (value_written u.config u.registers offset width value (Baser n)) in
      other (Baser n) at (λ e. never true refl (cc)) (λ e. never true refl (cc)) table (cases u.registers.enabled (λ y. rw y) (λ z. rw z))
  told_at_register Reserved at = other Reserved at (λ e. never true refl (cc)) (λ e. never true refl (cc)) (storing u.registers) refl

  module _ (row : List ItsAction) where
    told_by_verdict : (v : Verdict) (n : Register) → register_at offset ≡ n →
        Told (if_accepted v (write_register u.config u.registers (value_written u.config u.registers offset width value n) n) (refusing u.registers 0))
    told_by_verdict (Ok _) n at = told_at_register n at
    told_by_verdict (Err why) n at = told_refused 0 why

    pub clears_when : Told (stores row u offset width value)
    unfolding register_write
    clears_when = told_by_verdict (check_write u.config u.registers (length row) offset width) (register_at offset) refl
