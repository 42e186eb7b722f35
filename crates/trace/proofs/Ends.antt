-- The end of a run: nothing is left to read, or nothing more is written; and then the output and the number are those of the model.
-- Assumes nothing.
use Rattle.std.specs.Prelude.{if◌then◌else◌}
use Prim.Native.Nat.{ℕ, ◌-◌, ◌≤◌}
use native.Mathlib.Nat.{zero-add}
use native.Mathlib.Omega.{arith}
use mathlib.Core.Path.{◌≡◌, refl, ◌∙◌, ap}
use mathlib.Core.Bool.{Bool, true, false, not}
use mathlib.Core.List.{List}
use lib.Dec.{ltb}
use lib.ListN.{length, drop, drop_of_length-le}
use borrow.Author.Tests.{ltb-false}
use Rattle.model.specs.Trace.{trace_lines, all_fit, space, returned, output_after}
use Rattle.model.proofs.Cases.{cases, never}
use Rattle.text.specs.declared.Laid.{Laid}
use Rattle.text.specs.Laying.{output, laid_at}
use Rattle.text.proofs.Fits.{full, fits, ending, fitting_within}
use Rattle.trace.specs.Traced.{Traced}
use Rattle.trace.specs.Records.{Stand, stand, output_of, running_of, run_at_start, goes_on, number_returned}
use Rattle.trace.proofs.Rest.{lines_in, rest}

-- nothing is left to read
read_out : (trace : List ℕ) (s : Stand) → length trace ≤ s.run.at → rest trace s ≡ output_of s
read_out trace s h = rw (drop_of_length-le trace {i = s.run.at} h)

-- a run that does not go on has its end
pub ended : (trace : List ℕ) (s : Stand) → goes_on s.run.at (length trace) s.run.laid ≡ false → rest trace s ≡ output_of s
ended trace s h =
    cases s.run.laid.full (λ t. full (output_of s) (lines_in s.run.at (running_of trace s.run) (drop s.run.at trace)) t)
    (λ f.
    cases (ltb s.run.at (length trace)) (λ t. never true refl (rw (t, f) at h))
    (λ g. read_out trace s (ltb-false s.run.at (length trace) g)))

-- the whole run, from its start
whole : (trace out : List ℕ) → rest trace (stand out run_at_start) ≡ ending out 0 (space out) (trace_lines trace)
unfolding trace_lines
whole trace out =
    let all : space out - 0 ≡ space out = omega arith in
    rw (fits (trace_lines trace) out 0 (omega arith), all)

unless : (b : Bool) (n m : ℕ) → (if not b then n else m) ≡ (if b then m else n)
unless true n m = refl
unless false n m = refl

-- what the run leaves is what the model says
module _ (trace out left : List ℕ) (laid : Laid) (e : output left laid ≡ rest trace (stand out run_at_start)) where
  is : output left laid ≡ ending out 0 (space out) (trace_lines trace)
  is = e ∙ whole trace out

  -- no more is written than the room that is used
  pub within : laid.at ≤ 65536
  within = rw (ap (λ o. o.laid.at) is) (omega (arith, fitting_within (space out) (trace_lines trace)))

  pub answer : Traced trace out (number_returned laid) left
  unfolding returned output_after laid_at
  answer = (
    rw (ap (λ o. o.laid) is, zero-add, unless (all_fit (space out) (trace_lines trace)) 11 0),
    rw (ap (λ o. o.bytes) is, zero-add),
  )
