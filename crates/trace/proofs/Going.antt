-- What holds of a run between two records: what is left to do gives the same end as the whole, and the trace holds what is read of it.
-- Assumes nothing.
use Prim.Native.Nat.{ℕ, ◌+◌, ◌-◌, ◌≤◌, ◌<◌}
use native.Mathlib.Omega.{arith}
use mathlib.Core.Path.{◌≡◌, refl, sym, ◌∙◌, ap}
use mathlib.Core.Bool.{true, false, not}
use mathlib.Core.List.{List}
use lib.Dec.{ltb}
use lib.ListN.{length, drop, length-drop}
use borrow.Author.Tests.{ltb-true}
use Rattle.model.specs.Trace.{parse}
use Rattle.model.proofs.Cases.{and_left}
use Rattle.trace.specs.declared.Run.{Run}
use Rattle.trace.specs.Traced.{Traced}
use Rattle.trace.specs.Records.{stand, Within, stand_after, run_at_start, goes_on, number_returned}
use Rattle.trace.proofs.Rest.{rest, forward, Moves, moves}
use Rattle.trace.proofs.Ends as Ends

pub record Going (trace out₀ out : List ℕ) (run : Run) : Type 0 where
  pub same : rest trace (stand out run) ≡ rest trace (stand out₀ run_at_start)
  pub long : length out ≡ length out₀
  pub reads : run.at ≤ length trace
  pub lent : run.from + run.size ≤ length trace

pub begins : (trace out : List ℕ) (run : Run) → run ≡ run_at_start → Going trace out out run
begins trace out run e = rw e (record { same = refl; long = refl; reads = omega arith; lent = omega arith })

-- there is a record to read
some : (trace : List ℕ) (run : Run) → goes_on run.at (length trace) run.laid ≡ true → run.at < length trace
some trace run h = ltb-true run.at (length trace) (and_left (ltb run.at (length trace)) (not run.laid.full) h)

module _ (trace out₀ out : List ℕ) (run : Run) (g : Going trace out₀ out run) where
  pub ready : Within trace (drop run.at trace) run
  ready = record { reads = rw length-drop (omega (arith, g.reads)); lent = g.lent }

  module _ (h : goes_on run.at (length trace) run.laid ≡ true) (left : List ℕ) (r : Run) (e : stand left r ≡ stand_after trace (stand out run) (parse (drop run.at trace))) where
    on : Moves trace run r
    on = rw (ap (λ s. s.run) e) (moves trace (stand out run) (some trace run h) g.lent)

    pub again : length left ≡ length out → Going trace out₀ left r
    again k =
        record {
          same = ap (λ s. rest trace s) e ∙ (forward trace (stand out run) (some trace run h) ∙ g.same);
          long = k ∙ g.long;
          reads = on.reads;
          lent = on.lent;
        }

    pub less : length trace - r.at < length trace - run.at
    less = omega (arith, on.on, on.reads)

  module _ (h : goes_on run.at (length trace) run.laid ≡ false) where
    pub within : run.laid.at ≤ 65536
    within = Ends.within trace out₀ out run.laid (sym (Ends.ended trace (stand out run) h) ∙ g.same)

    pub answer : Traced trace out₀ (number_returned run.laid) out
    answer = Ends.answer trace out₀ out run.laid (sym (Ends.ended trace (stand out run) h) ∙ g.same)
