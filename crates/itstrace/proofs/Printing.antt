-- What is printed: the line of too long an input, and what the C call wrote.
-- Assumes nothing.
use Rattle.std.specs.Prelude.{if◌then◌else◌}
use Prim.Native.Nat.{ℕ, ◌+◌, ◌*◌, ◌/◌, ◌≤◌, ◌<◌}
use native.Mathlib.Omega.{arith}
use mathlib.Core.Path.{◌≡◌}
use mathlib.Core.Bool.{Bool, true, false}
use mathlib.Core.List.{List}
use lib.ListN.{length, take, drop}
use lib.Seq.{take-append_seam}
use borrow.Author.Tests.{le-leb, lt-leb}
use Rattle.model.specs.Text.{ascii}
use Rattle.model.specs.Trace.{trace_lines, all_fit, space, written_to, returned, output_after, printed}
use Rattle.trace.specs.Traced.{Traced}
use Rattle.text.proofs.Fits.{fitting_within}

pub long : (input : List ℕ) → 32768 < length input → ascii "LONG\n" ≡ printed input
unfolding printed
long input h = rw (lt-leb (length input) 32768 h)

-- the number that is returned holds how much was written
sixteenth : (n : ℕ) (b : Bool) → (16 * n + (if b then 0 else 11)) / 16 ≡ n
sixteenth n true = omega arith
sixteenth n false = omega arith

module _ (input out : List ℕ) (full : length out ≡ 32768) (r : ℕ) (left : List ℕ) (t : Traced input out r left) where
  room : space out ≡ 32768
  room = rw full

  pub counted : r / 16 ≡ length (written_to input out)
  unfolding returned
  counted = rw t.0 (sixteenth (length (written_to input out)) (all_fit (space out) (trace_lines input)))

  pub within : r / 16 ≤ 32768
  within = rw counted (omega (arith, room, fitting_within (space out) (trace_lines input)))

  pub lines : length input ≤ 32768 → take (r / 16) left ≡ printed input
  unfolding printed output_after
  lines h =
      rw (counted, t.1, le-leb (length input) 32768 h, take-append_seam (written_to input out) (drop (length (written_to input out)) out), room)
