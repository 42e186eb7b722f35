-- Document 01, "Registers" and "Refusal numbers", and document 02, A4: what a write does to the registers before any command runs. It says what the
-- write stores, whether that is a new base, whether the queue then runs, and the answer where it does not. The entry, what is promised of a write, and
-- both texts of the unit go by it.
-- Assumes nothing.
use Rattle.std.specs.Prelude.{ℕ, ◌+◌, Bool, true, false, ◌&&◌, not, Option, Some, None, is_none, get_or, set, eqb, if◌then◌else◌}
use Rattle.model.specs.declared.ItsConfig.{ItsConfig}
use Rattle.model.specs.declared.ItsRegisters.{ItsRegisters}
use Rattle.model.specs.declared.Register.{Register}
use Rattle.model.specs.declared.Register.TheVariants.{Ctlr, Iidr, Typer, Cbaser, Cwriter, Creadr, Baser, Reserved}
use Rattle.model.specs.declared.RegisterWrite.{RegisterWrite}
use Rattle.model.specs.declared.Refusal.{Refusal}
use Rattle.model.specs.declared.Refusal.TheVariants.{BaseZero, WriterRefused}
use Rattle.model.specs.Answer.{write_refused, write_taken}
use Rattle.model.specs.Choose.{◌or◌then◌}
use Rattle.model.specs.Arm.{bits, ◌of◌, ◌in_place◌, without, CTLR_Enabled, CWRITER_Retry, GITS_CWRITER, BASER_Type, BASER_Entry_Size}
use Rattle.model.specs.With.{with_enabled, with_stalled, with_ring, with_writer, with_basers}
use Rattle.model.specs.Profile.{is_strict}
use Rattle.model.specs.Config.{queue_base, is_queue_offset}
use Rattle.model.specs.Register.{register_at, value_written}
use Rattle.model.specs.Access.{check_write, if_accepted}

-- The ways in which a write goes.

-- refused before a run: the registers stay, nothing is done, and there is no action. The offset is 0, but for 7 at CWRITER
abbrev pub refusing : ItsRegisters → ℕ → Refusal → RegisterWrite
refusing r offset why = record { registers = r; rebased = false; answer = Some (write_refused why 0 offset 0 0) }

-- stored, or ignored (answer 0), with nothing to run
abbrev pub storing : ItsRegisters → RegisterWrite
storing r = record { registers = r; rebased = false; answer = Some (write_taken 0 0) }

-- stored with a new base, and nothing to run
abbrev pub rebasing : ItsRegisters → RegisterWrite
rebasing r = record { registers = r; rebased = true; answer = Some (write_taken 0 0) }

-- stored; then the queue runs, where it may (Queue.may_run)
abbrev pub going : ItsRegisters → RegisterWrite
going r = record { registers = r; rebased = false; answer = None }

-- where no answer stands yet, the queue then runs
abbrev pub then_runs : RegisterWrite → Bool
then_runs s = is_none s.answer

-- Each register, with the value that is written: one of 64 bits is merged before.

-- CTLR: bit 0 of a write enables or disables
abbrev pub enables : ℕ → Bool
enables value = eqb (CTLR_Enabled of value) 1

-- then the queue runs, where it may
unfoldable pub to_ctlr : ItsRegisters → ℕ → RegisterWrite
to_ctlr r value = going (with_enabled r (enables value))

-- Stalled is cleared where this is so (02, A4)
abbrev pub clearing : Bool → ItsRegisters → ItsRegisters
clearing b r = with_stalled r (not b && r.stalled)

-- CBASER: the value is stored whole, both offsets become 0; mappings stay
abbrev pub with_cbaser : ItsRegisters → ℕ → ItsRegisters
with_cbaser r value = with_ring r value 0 0

-- ignored (answer 0) while enabled; merged base zero is refused; else this is stored. Bit 63 is not looked at here (Queue.held looks at it, in strict)
abbrev pub storing_base : ItsRegisters → ℕ → ItsRegisters → RegisterWrite
storing_base r value stored =
    if r.enabled
    then storing r
    else (not (eqb (queue_base value) 0) or refusing r 0 BaseZero then rebasing stored)

-- in strict a stored CBASER write clears Stalled
unfoldable pub to_cbaser : ItsConfig → ItsRegisters → ℕ → RegisterWrite
to_cbaser k r value = storing_base r value (clearing (is_strict k.profile) (with_cbaser r value))

-- CWRITER: in strict bit 0 of the merged value is Retry, and is taken off before the offset is tested or reported (02, A4)
unfoldable pub retries : ItsConfig → ℕ → Bool
retries k value = is_strict k.profile && eqb (CWRITER_Retry of value) 1

unfoldable pub offered : ItsConfig → ℕ → ℕ
offered k value = if is_strict k.profile then without CWRITER_Retry value else value

-- with CBASER zero the whole value counts; else bits 19:0 are taken, which are Arm's Offset and the five bits below it
abbrev pub writer_taken : ItsRegisters → ℕ → ℕ
writer_taken r value = if eqb r.cbaser 0 then value else bits 19 0 of value

-- with CBASER zero, only 0 is accepted; else refused unless a multiple of 32 below the queue size
unfoldable pub writer_accepted : ItsRegisters → ℕ → Bool
writer_accepted r writer = if eqb r.cbaser 0 then eqb writer 0 else is_queue_offset r.cbaser writer

-- where the writer is accepted, this is stored; then the queue runs, where it may
abbrev pub storing_writer : ItsRegisters → ℕ → ItsRegisters → RegisterWrite
storing_writer r writer stored = writer_accepted r writer or refusing r writer WriterRefused then going stored

-- the writer that the merged value brings
abbrev pub writer_of : ItsConfig → ItsRegisters → ℕ → ℕ
writer_of k r value = writer_taken r (offered k value)

-- in strict an accepted CWRITER write with Retry clears Stalled, and Retry is not stored
unfoldable pub to_cwriter : ItsConfig → ItsRegisters → ℕ → RegisterWrite
to_cwriter k r value = storing_writer r (writer_of k r value) (clearing (retries k value) (with_writer r (writer_of k r value)))

-- BASER n keeps bits 52:48 and 58:56
unfoldable pub baser_after : ℕ → ℕ → ℕ
baser_after present value =
    without BASER_Type (without BASER_Entry_Size value) + BASER_Type in_place present + BASER_Entry_Size in_place present

-- the registers after a write of BASER n
abbrev pub with_baser : ItsRegisters → ℕ → ℕ → ItsRegisters
with_baser r n value = with_basers r (set r.basers n (baser_after (get_or r.basers n 0) value))

-- ignored (answer 0) while enabled
unfoldable pub to_baser : ItsRegisters → ℕ → ℕ → RegisterWrite
to_baser r n value = if r.enabled then storing r else storing (with_baser r n value)

-- with these writes of CBASER and CWRITER. TYPER, CREADR and IIDR ignore writes, and so does every other offset
abbrev pub write_with : (ℕ → RegisterWrite) → (ℕ → RegisterWrite) → ItsRegisters → ℕ → Register → RegisterWrite
write_with cbaser cwriter r value Ctlr = to_ctlr r value
write_with cbaser cwriter r value Iidr = storing r
write_with cbaser cwriter r value Typer = storing r
write_with cbaser cwriter r value Cbaser = cbaser value
write_with cbaser cwriter r value Cwriter = cwriter value
write_with cbaser cwriter r value Creadr = storing r
write_with cbaser cwriter r value (Baser n) = to_baser r n value
write_with cbaser cwriter r value Reserved = storing r

abbrev pub write_register : ItsConfig → ItsRegisters → ℕ → Register → RegisterWrite
write_register k r value n = write_with (to_cbaser k r) (to_cwriter k r) r value n

-- An access. One that is refused at the entry stores nothing and runs nothing; one that is taken writes the merged value.
unfoldable pub register_write : ItsConfig → ItsRegisters → ℕ → ℕ → ℕ → ℕ → RegisterWrite
register_write k r room offset width value =
    if_accepted (check_write k r room offset width)
    (write_register k r (value_written k r offset width value (register_at offset)) (register_at offset))
    (refusing r 0)

-- For the theorems beside document 01's unit: what is stored, with Stalled so
abbrev pub stored_stalled : RegisterWrite → Bool → RegisterWrite
stored_stalled s b = record { registers = with_stalled s.registers b; rebased = s.rebased; answer = s.answer }

-- and the value that counts: at CWRITER without bit 0, which is Retry. (At the register's high half, GITS_CWRITER + 4, it is the whole value)
abbrev pub without_retry : ℕ → ℕ → ℕ
without_retry offset value = if eqb offset GITS_CWRITER then without CWRITER_Retry value else value
