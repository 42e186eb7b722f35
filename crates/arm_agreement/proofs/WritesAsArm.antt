-- WRITES. A sound unit takes every write that Arm's registers take. A half is merged as Arm says, read-only registers and fields keep their
-- values, and what is stored is what Arm says, under the conditions named.
-- Assumes nothing.
use Prim.Native.Nat.{ℕ, zero, suc, ◌+◌, ◌*◌, ◌/◌, ◌%◌, ◌<◌}
use native.Mathlib.Omega.{arith}
use mathlib.Core.Path.{◌≡◌, refl, sym, ap, ◌∙◌}
use mathlib.Core.Bool.{Bool, true, false, ◌&&◌, not}
use mathlib.Core.List.{List}
use lib.ListN.{get_or}
use lib.Dec.{eqb, ltb}
use lib.Pow.{mod-pow-add}
use lib.Seq.{get_or-set_same, get_or-set_other}
use borrow.Author.Tests.{eqb-true, eqb-false, eq-eqb, lt-ltb, ltb-true}
use Rattle.model.specs.declared.ItsConfig.{ItsConfig}
use Rattle.model.specs.declared.ItsRegisters.{ItsRegisters}
use Rattle.model.specs.declared.ItsState.{ItsState}
use Rattle.model.specs.declared.ItsAction.{ItsAction}
use Rattle.model.specs.Arm.{◌of◌, ◌in_place◌, ◌holding◌, bits, low_half, high_half, CTLR_Enabled, CWRITER_Retry, CWRITER_Offset, command_size}
use Rattle.model.specs.Config.{queue_size}
use Rattle.model.specs.With.{with_registers, with_stalled, with_reader}
use Rattle.model.specs.Profile.{is_strict}
use Rattle.model.specs.Queue.{Window}
use Rattle.model.specs.Register.{ctlr_value, creadr_value, merged, value_written}
use Rattle.model.specs.Access.{check_write}
use Rattle.model.specs.Writing.{enables, to_ctlr, clearing, with_cbaser, to_cbaser, offered, writer_accepted, writer_of, to_cwriter, with_baser, to_baser, write_register, register_write}
use Rattle.model.specs.Entry.{Outcome, stores, write}
use Rattle.model.proofs.Cases.{cases, never, both}
use Rattle.model.proofs.ArmFacts.{writer_is_offset}
use Rattle.model.proofs.Profiles.{creadr_plain}
use Rattle.arm_agreement.specs.Registers.{Reg, CTLR, IIDR, TYPER, CBASER, CWRITER, CREADR, BASER, Piece, whole, low, high, has, offset_of, width_of, Halves, Merges}
use Rattle.arm_agreement.specs.Fields.{one_bit}
use Rattle.arm_agreement.specs.Writes.{StoresCTLR, StoresCBASER, StoresCWRITER, StoresBASER}
use Rattle.arm_agreement.specs.Conditions.{Writable, StoresBase, StoresTable, StoresWriter}
use Rattle.arm_agreement.specs.Seen.{arm_of, as_register, held}
use Rattle.arm_agreement.proofs.Accesses.{is_there, access_accepted}
use Rattle.arm_agreement.proofs.BaserFields.{baser_fields}
use Rattle.arm_agreement.proofs.EveryWrite.{every_write}
use Rattle.arm_agreement.proofs.ReadsAsArm.{CTLR_enabled}

-- Merging.

low_written : (w v : ℕ) → Halves (low_half of v) (high_half of w) (high_half in_place w + low_half of v)
low_written w v = record { low_is = omega arith; high_is = omega arith }

high_written : (w v : ℕ) → Halves (low_half of w) (low_half of v) (high_half holding (low_half of v) + low_half of w)
high_written w v = record { low_is = omega arith; high_is = omega arith }

-- the value that a write stores, or would store
abbrev pub stored_value : ItsState → Reg → Piece → ℕ → ℕ
stored_value u r p value = value_written u.config u.registers (offset_of r p) (width_of r p) value (as_register r)

pub merge_as_arm : (u : ItsState) (r : Reg) (p : Piece) (value : ℕ) → has r p ≡ true → Merges p (held u r) value (stored_value u r p value)
unfolding merged
merge_as_arm u CTLR whole value h = refl
merge_as_arm u CTLR low value h = never true refl (sym h)
merge_as_arm u CTLR high value h = never true refl (sym h)
merge_as_arm u IIDR whole value h = refl
merge_as_arm u IIDR low value h = never true refl (sym h)
merge_as_arm u IIDR high value h = never true refl (sym h)
merge_as_arm u TYPER whole value h = refl
merge_as_arm u TYPER low value h = low_written (held u TYPER) value
merge_as_arm u TYPER high value h = high_written (held u TYPER) value
merge_as_arm u CBASER whole value h = refl
merge_as_arm u CBASER low value h = low_written (held u CBASER) value
merge_as_arm u CBASER high value h = high_written (held u CBASER) value
merge_as_arm u CWRITER whole value h = refl
merge_as_arm u CWRITER low value h = low_written (held u CWRITER) value
merge_as_arm u CWRITER high value h = high_written (held u CWRITER) value
merge_as_arm u CREADR whole value h = refl
merge_as_arm u CREADR low value h = low_written (held u CREADR) value
merge_as_arm u CREADR high value h = high_written (held u CREADR) value
merge_as_arm u (BASER n) whole value h = refl
merge_as_arm u (BASER n) low value h = let z : (256 + 8 * n) % 8 ≡ 0 = omega arith in rw z (low_written (held u (BASER n)) value)
merge_as_arm u (BASER n) high value h = let z : (256 + 8 * n + 4) % 8 ≡ 4 = omega arith in rw z (high_written (held u (BASER n)) value)

-- a bit that is 1 or not
as_bit : (v : ℕ) → one_bit (enables v) ≡ CTLR_Enabled of v
as_bit v = cases (eqb (CTLR_Enabled of v) 1) (λ h. rw h (omega (arith, eqb-true (CTLR_Enabled of v) 1 h))) (λ h. rw h (bit_0 (CTLR_Enabled of v) (omega arith) h))
  where
    bit_0 : (n : ℕ) → n < 2 → eqb n 1 ≡ false → 0 ≡ n
    bit_0 zero l h = refl
    bit_0 (suc n) l h = absurd (eqb-false (suc n) 1 h (omega arith))

-- without Retry and the reserved bits below the Offset, bits 19:0 are the Offset in bytes
low_5 : (v : ℕ) → CWRITER_Retry of v ≡ 0 → bits 4 1 of v ≡ 0 → v % 32 ≡ 0
low_5 v a b =
    let s : v % 32 ≡ v / 2 % 16 * 2 + v % 2 = mod-pow-add v 4 1 in
    let z : v % 2 ≡ v / 1 % 2 = omega arith in
    s ∙ rw (b, z, a)

low_20 : (v : ℕ) → v % 32 ≡ 0 → (bits 19 0 of v) % command_size ≡ 0
low_20 v a = omega arith

offset_again : (v : ℕ) → CWRITER_Offset of (bits 19 0 of v) ≡ CWRITER_Offset of v
offset_again v = omega arith

-- without Retry the value is offered whole in both profiles
no_Retry : (k : ItsConfig) (v : ℕ) → CWRITER_Retry of v ≡ 0 → offered k v ≡ v
unfolding offered
no_Retry k v n = cases (is_strict k.profile) (λ h. rw h (omega (arith, n))) (λ h. rw h)

-- Stalled, where strict has cleared it: base does not show it, and strict has it no more
cleared : (strict stalled : Bool) → (strict && (not strict && stalled)) ≡ false
cleared true stalled = refl
cleared false stalled = refl

module _ (w : Window) (row : List ItsAction) (u : ItsState) (c : Writable u row) where
  -- a write by Arm's register and part
  abbrev writing : Reg → Piece → ℕ → Outcome
  writing r p value = write w row u (offset_of r p) (width_of r p) value

  -- what it does to the registers
  goes : (r : Reg) (p : Piece) (value : ℕ) → has r p ≡ true →
      stores row u (offset_of r p) (width_of r p) value ≡ write_register u.config u.registers (stored_value u r p value) (as_register r)
  unfolding register_write check_write
  goes r p value h =
      let t = is_there r p h in
      rw (c.S12_sound, c.S03_row, access_accepted u c.S12_sound (offset_of r p) (width_of r p) (ap (λ x. x.fits) t), ap (λ x. x.register) t)

  abbrev unit_of : Outcome → ItsState
  unit_of o = o.written.unit

  -- GITS_TYPER, GITS_IIDR and GITS_CREADR are read only: a write changes nothing
  pub read_only_as_arm : (p : Piece) (value : ℕ) →
      (unit_of (writing TYPER p value) ≡ u) × (unit_of (writing IIDR whole value) ≡ u) × (unit_of (writing CREADR p value) ≡ u)
  unfolding write
  read_only_as_arm p value = (rw (goes TYPER p value refl), rw (goes IIDR whole value refl), rw (goes CREADR p value refl))

  -- what is stored in each register but CREADR, whose Offset goes on and whose Stalled may be set
  kept_by : {A : Type 0} (f : ItsRegisters → A) → ((s : ItsRegisters) (n : ℕ) (b : Bool) → f (with_stalled (with_reader s n) b) ≡ f s) → (r : Reg) (p : Piece) (value : ℕ) → has r p ≡ true →
      f (unit_of (writing r p value)).registers ≡ f (write_register u.config u.registers (stored_value u r p value) (as_register r)).registers
  kept_by f same r p value h =
      let k = every_write w row u (offset_of r p) (width_of r p) value c.S12_sound in
      ap f k.registers ∙ (same _ _ _ ∙ ap (λ s. f s.registers) (goes r p value h))

  -- GITS_CTLR. R40: of the other fields none is kept
  pub CTLR_stored : (value : ℕ) → StoresCTLR (held u) (held (unit_of (writing CTLR whole value))) value
  unfolding to_ctlr
  CTLR_stored value =
      let v = unit_of (writing CTLR whole value) in
      record {
        Enabled = CTLR_enabled v ∙ (ap one_bit (kept_by (λ s. s.enabled) (λ s n b. refl) CTLR whole value refl) ∙ as_bit value);
        same_CBASER = kept_by (λ s. s.cbaser) (λ s n b. refl) CTLR whole value refl;
        same_CWRITER = kept_by (λ s. s.cwriter) (λ s n b. refl) CTLR whole value refl;
        same_BASER = λ n. ap (λ l. get_or l n 0) (kept_by (λ s. s.basers) (λ s n b. refl) CTLR whole value refl);
      }

  -- GITS_CBASER
  module _ (p : Piece) (value : ℕ) (k : StoresBase u (stored_value u CBASER p value)) where
    -- in strict Stalled is cleared
    abbrev new_base : ItsRegisters
    new_base = clearing (is_strict u.config.profile) (with_cbaser u.registers (stored_value u CBASER p value))

    base_stored : unit_of (writing CBASER p value) ≡ with_registers u new_base
    unfolding write to_cbaser
    base_stored = rw (goes CBASER p value refl, k.R32_disabled, k.R30_base)

    pub CBASER_stored : StoresCBASER (held u) (held (unit_of (writing CBASER p value))) (stored_value u CBASER p value)
    CBASER_stored =
        rw base_stored
        (record {
          stored = refl;
          CREADR_0 = creadr_plain u.config new_base (cleared (is_strict u.config.profile) u.registers.stalled);
          same_CWRITER = sym k.R29_writer_at_0;
          same_CTLR = refl;
          same_BASER = λ n. refl;
        })

    -- the mappings stay
    pub CBASER_mappings : arm_of (unit_of (writing CBASER p value)) ≡ arm_of u
    CBASER_mappings = rw base_stored

  -- GITS_BASER n
  module _ (n : ℕ) (p : Piece) (value : ℕ) (k : StoresTable u n (stored_value u (BASER n) p value)) where
    one_of_them : ltb n 8 ≡ true
    one_of_them = let b = ltb-true n 2 k.R25_has_a_type in lt-ltb n 8 (omega arith)

    table_stored : unit_of (writing (BASER n) p value) ≡ with_registers u (with_baser u.registers n (stored_value u (BASER n) p value))
    unfolding write to_baser
    table_stored = rw (goes (BASER n) p value one_of_them, k.R32_disabled)

    pub BASER_stored : StoresBASER n (held u) (held (unit_of (writing (BASER n) p value))) (stored_value u (BASER n) p value)
    unfolding creadr_value
    BASER_stored =
        let b = ltb-true n 8 one_of_them in
        rw (table_stored)
        (record {
          fields = rw (get_or-set_same u.registers.basers n _ 0 (omega (arith, k.S12_eight))) (baser_fields (held u (BASER n)) (stored_value u (BASER n) p value));
          same_others = λ m other. get_or-set_other u.registers.basers n m _ 0 (λ e. other (sym e));
          same_CTLR = refl;
          same_CBASER = refl;
          same_CWRITER = refl;
          same_CREADR = refl;
        })

    -- the mappings stay
    pub BASER_mappings : arm_of (unit_of (writing (BASER n) p value)) ≡ arm_of u
    BASER_mappings = rw table_stored

  -- GITS_CWRITER
  module _ (p : Piece) (value : ℕ) (k : StoresWriter u (stored_value u CWRITER p value)) where
    abbrev new : ℕ
    new = stored_value u CWRITER p value

    taken : writer_of u.config u.registers new ≡ bits 19 0 of new
    taken = rw (no_Retry u.config new k.R14_no_Retry, k.R34_base)

    pub CWRITER_accepted : writer_accepted u.registers (writer_of u.config u.registers new) ≡ true
    unfolding writer_accepted
    CWRITER_accepted =
        let a = low_20 new (low_5 new k.R14_no_Retry k.R33_no_reserved) in
        rw (taken, k.R34_base)
        (both (eqb ((bits 19 0 of new) % command_size) 0) _ (eq-eqb _ 0 a)
        (lt-ltb (bits 19 0 of new) (queue_size u.registers.cbaser) (rw (writer_is_offset new a) k.R33_in_the_ring)))

    pub CWRITER_stored : StoresCWRITER (held u) (held (unit_of (writing CWRITER p value))) new
    unfolding to_cwriter
    CWRITER_stored =
        record {
          Offset = rw (kept_by (λ s. s.cwriter) (λ s n b. refl) CWRITER p value refl, CWRITER_accepted, taken) (offset_again new);
          same_CTLR = ap ctlr_value (kept_by (λ s. s.enabled) (λ s n b. refl) CWRITER p value refl) ∙ rw CWRITER_accepted;
          same_CBASER = kept_by (λ s. s.cbaser) (λ s n b. refl) CWRITER p value refl ∙ rw CWRITER_accepted;
          same_BASER = λ n. ap (λ l. get_or l n 0) (kept_by (λ s. s.basers) (λ s n b. refl) CWRITER p value refl) ∙ rw CWRITER_accepted;
        }
