-- Document 01, "Refusal numbers": which accesses are taken, and the order of their refusals.
-- Assumes nothing.
use Rattle.std.specs.Prelude.{ℕ, ◌+◌, ◌%◌, Bool, ◌&&◌, ◌||◌, not, leb, eqb, Err, Ok}
use Rattle.model.specs.declared.ItsConfig.{ItsConfig}
use Rattle.model.specs.declared.ItsRegisters.{ItsRegisters}
use Rattle.model.specs.declared.Refusal.{Refusal}
use Rattle.model.specs.declared.Refusal.TheVariants.{Unsound, RowTooShort, InvalidAccess, Identification}
use Rattle.model.specs.Answer.{Verdict}
use Rattle.model.specs.Choose.{◌or◌then◌}
use Rattle.model.specs.Arm.{is_identification}
use Rattle.model.specs.Config.{sound}
use Rattle.model.specs.Register.{register_at, takes_width}

-- width 1, 2, 4, 8; not past the frame; aligned to the width
abbrev pub in_frame : ItsConfig → ℕ → ℕ → Bool
in_frame k offset width =
    (eqb width 1 || (eqb width 2 || (eqb width 4 || eqb width 8)))
    && (leb (offset + width) k.frame_size && eqb (offset % width) 0)

-- 3 comes before 2's width-allowed test but after its other tests
unfoldable pub check_access : ItsConfig → ℕ → ℕ → Verdict
check_access k offset width =
    in_frame k offset width or Err InvalidAccess then
    not (is_identification offset) or Err Identification then
    takes_width (register_at offset) width or Err InvalidAccess then
    (Ok tt)

-- of a read: 1, 2, 3, 2
unfoldable pub check_read : ItsConfig → ItsRegisters → ℕ → ℕ → Verdict
check_read k r offset width =
    sound k r or Err Unsound then
    check_access k offset width

-- of a write with a row of this many records: 1, 10, 2, 3, 2
unfoldable pub check_write : ItsConfig → ItsRegisters → ℕ → ℕ → ℕ → Verdict
check_write k r room offset width =
    sound k r or Err Unsound then
    leb k.command_budget room or Err RowTooShort then
    check_access k offset width

-- what an accepted access gives, or what its refusal does
abbrev pub if_accepted : {A : Type 0} → Verdict → A → (Refusal → A) → A
if_accepted (Ok _) a f = a
if_accepted (Err r) a f = f r
