-- A line laid: after one that did not fit, where it does not fit, and where it does.
-- Assumes nothing.
use Prim.Native.Nat.{ℕ, ◌+◌, ◌≤◌, ◌<◌}
use mathlib.Core.Path.{◌≡◌}
use mathlib.Core.Bool.{true, false}
use mathlib.Core.List.{List}
use lib.ListN.{length}
use borrow.Author.Tests.{le-leb, lt-leb}
use Rattle.model.specs.Trace.{space}
use Rattle.text.specs.declared.Laid.{Laid}
use Rattle.text.specs.Laying.{laid_at, full_at, lay_line, Lays}

module _ (out : List ℕ) (laid : Laid) (l : List ℕ) where
  pub nothing : laid.full ≡ true → Lays out laid l out laid
  unfolding lay_line
  nothing e = rw e

  pub over : laid.full ≡ false → space out < laid.at + length l → Lays out laid l out (full_at laid.at)
  unfolding lay_line
  over e h = rw (e, lt-leb (laid.at + length l) (space out) h)

  pub whole : (left : List ℕ) (at : ℕ) → laid.full ≡ false → laid.at + length l ≤ space out → left ≡ laid_at out laid.at l → at ≡ laid.at + length l → Lays out laid l left (record { at = at; full = false })
  unfolding lay_line
  whole left at e h k m = rw (e, le-leb (laid.at + length l) (space out) h, k, m)
