-- Type and Entry_Size of every GITS_BASER stay under every write: to any offset, of any width, refused or not.
-- Assumes nothing.
use Rattle.std.specs.Prelude.{if◌then◌else◌, Err, Ok}
use Prim.Native.Nat.{ℕ, ◌<◌}
use mathlib.Core.Path.{◌≡◌, refl, sym, ap}
use mathlib.Core.Bool.{Bool, true, false, not}
use mathlib.Core.List.{List}
use lib.ListN.{length, get_or}
use lib.Dec.{eqb}
use lib.Seq.{get_or-set_same, get_or-set_other}
use borrow.Author.Tests.{eqb-true, eqb-false}
use Rattle.model.specs.declared.ItsConfig.{ItsConfig}
use Rattle.model.specs.declared.ItsRegisters.{ItsRegisters}
use Rattle.model.specs.declared.ItsState.{ItsState}
use Rattle.model.specs.declared.ItsAction.{ItsAction}
use Rattle.model.specs.declared.Register.{Register}
use Rattle.model.specs.declared.Register.TheVariants.{Ctlr, Iidr, Typer, Cbaser, Cwriter, Creadr, Baser, Reserved}
use Rattle.model.specs.declared.RegisterWrite.{RegisterWrite}
use Rattle.model.specs.declared.Refusal.TheVariants.{BaseZero}
use Rattle.model.specs.Answer.{Verdict}
use Rattle.model.specs.Choose.{◌or◌then◌}
use Rattle.model.specs.With.{with_writer}
use Rattle.model.specs.Profile.{is_strict}
use Rattle.model.specs.Config.{queue_base, sound_unit}
use Rattle.model.specs.Queue.{Window}
use Rattle.model.specs.Register.{register_at, value_written}
use Rattle.model.specs.Access.{check_write, if_accepted}
use Rattle.model.specs.Writing.{refusing, storing, rebasing, going, to_ctlr, clearing, with_cbaser, to_cbaser, retries, writer_accepted, writer_of, to_cwriter, baser_after, with_baser, to_baser, write_register, register_write}
use Rattle.model.specs.Entry.{write}
use Rattle.model.proofs.Cases.{cases}
use Rattle.arm_agreement.specs.Registers.{BASER}
use Rattle.arm_agreement.specs.Writes.{ReadOnlyBASER}
use Rattle.arm_agreement.specs.Seen.{held}
use Rattle.arm_agreement.proofs.BaserFields.{baser_fields}
use Rattle.arm_agreement.proofs.EveryWrite.{every_write}

unchanged : (v : ℕ) → ReadOnlyBASER v v
unchanged v = record { Type_stays = refl; Entry_Size_stays = refl }

module _ (k : ItsConfig) (s : ItsRegisters) (m : ℕ) (there : m < length s.basers) where
  abbrev of_BASER : ItsRegisters → ℕ
  of_BASER r = get_or r.basers m 0

  table_kept : (n value : ℕ) → ReadOnlyBASER (of_BASER s) (of_BASER (with_baser s n value))
  table_kept n value =
      cases (eqb n m)
      (λ h. let q = eqb-true n m h in
      let f = baser_fields (get_or s.basers n 0) value in
      rw (q, get_or-set_same s.basers m (baser_after (get_or s.basers m 0) value) 0 there) (rw q at f.read_only))
      (λ h. rw (get_or-set_other s.basers n m (baser_after (get_or s.basers n 0) value) 0 (λ q. eqb-false n m h (sym q))) (unchanged (of_BASER s)))

  -- so does a write of the registers
  abbrev Keeps : RegisterWrite → Type 0
  Keeps o = ReadOnlyBASER (of_BASER s) (of_BASER o.registers)

  either : (b : Bool) (x y : RegisterWrite) → Keeps x → Keeps y → Keeps (if b then x else y)
  either true x y f g = f
  either false x y f g = g

  checked : (b : Bool) (x y : RegisterWrite) → Keeps x → Keeps y → Keeps (b or x then y)
  checked true x y f g = g
  checked false x y f g = f

  stored_kept : (value : ℕ) (n : Register) → Keeps (write_register k s value n)
  unfolding to_ctlr to_cbaser to_cwriter to_baser
  stored_kept value Ctlr = unchanged _
  stored_kept value Iidr = unchanged _
  stored_kept value Typer = unchanged _
  stored_kept value Cbaser =
      either s.enabled (storing s) _ (unchanged _)
      (checked (not (eqb (queue_base value) 0)) (refusing s 0 BaseZero) (rebasing (clearing (is_strict k.profile) (with_cbaser s value)))
      (unchanged _) (unchanged _))
  stored_kept value Cwriter =
      checked (writer_accepted s (writer_of k s value)) _ (going (clearing (retries k value) (with_writer s (writer_of k s value)))) (unchanged _) (unchanged _)
  stored_kept value Creadr = unchanged _
  stored_kept value (Baser n) = either s.enabled (storing s) (storing (with_baser s n value)) (unchanged _) (table_kept n value)
  stored_kept value Reserved = unchanged _

  by_verdict : (v : Verdict) (value : ℕ) (n : Register) → Keeps (if_accepted v (write_register k s value n) (refusing s 0))
  by_verdict (Ok _) value n = stored_kept value n
  by_verdict (Err r) value n = unchanged _

pub BASER_read_only : (w : Window) (row : List ItsAction) (u : ItsState) → sound_unit u ≡ true → (offset width value m : ℕ) → m < length u.registers.basers →
    ReadOnlyBASER (held u (BASER m)) (held (write w row u offset width value).written.unit (BASER m))
unfolding register_write
BASER_read_only w row u sound offset width value m there =
    rw (ap (λ r. r.basers) (every_write w row u offset width value sound).registers)
    (by_verdict u.config u.registers m there (check_write u.config u.registers (length row) offset width)
    (value_written u.config u.registers offset width value (register_at offset)) (register_at offset))
