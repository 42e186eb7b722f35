-- How many commands wait once CREADR has passed n of them: n fewer.
-- Assumes nothing.
use Prim.Native.Nat.{ℕ, ◌+◌, ◌-◌, ◌*◌, ◌%◌, ◌≤◌}
use native.Mathlib.Omega.{arith}
use native.Mathlib.Nat.{mod-add-mod}
use mathlib.Core.Path.{◌≡◌, sym, ap, ◌∙◌}
use mathlib.Core.Bool.{true}
use lib.Dec.{leb}
use borrow.Author.Tests.{leb-true, leb-false}
use Rattle.model.specs.declared.ItsRegisters.{ItsRegisters}
use Rattle.model.specs.Arm.{command_size}
use Rattle.model.specs.Config.{queue_size, sound_ring}
use Rattle.model.specs.Queue.{waiting}
use Rattle.model.specs.With.{with_reader}
use Rattle.model.specs.Passed.{ring_offset}
use Rattle.model.proofs.Cases.{cases}
use Rattle.model.proofs.Waiting.{waiting_all, offset_once, reader_sound}

-- k commands on from the n-th is the (n + k)-th
further : (s : ItsRegisters) (n k : ℕ) → ring_offset (with_reader s (ring_offset s n)) k ≡ ring_offset s (n + k)
further s n k =
    let same : s.creadr + command_size * n + command_size * k ≡ s.creadr + command_size * (n + k) = omega arith in
    mod-add-mod (s.creadr + command_size * n) (queue_size s.cbaser) (command_size * k) ∙ ap (λ a. a % queue_size s.cbaser) same

-- Both counts lead to CWRITER, and no number that waits leads to one place twice.
pub waiting_after : (s : ItsRegisters) → sound_ring s ≡ true → (n : ℕ) → n ≤ waiting s → waiting (with_reader s (ring_offset s n)) ≡ waiting s - n
waiting_after s ring n l =
    let t = with_reader s (ring_offset s n) in
    let sound = reader_sound s ring n l in
    let m = waiting t in
    let to_writer : ring_offset t m ≡ s.cwriter = waiting_all t sound in
    let rest : n + (waiting s - n) ≡ waiting s = omega arith in
    cases (leb (n + m) (waiting s))
    (λ few. let all = offset_once s ring (n + m) (waiting s) (leb-true _ _ few) (omega arith) (sym (further s n m) ∙ (to_writer ∙ sym (waiting_all s ring))) in
    omega arith)
    (λ many. let over = leb-false (n + m) (waiting s) many in
    let all = offset_once t sound (waiting s - n) m (omega arith) (omega arith)
    (further s n (waiting s - n) ∙ (ap (ring_offset s) rest ∙ (waiting_all s ring ∙ sym to_writer))) in
    sym all)
