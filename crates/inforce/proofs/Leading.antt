-- What holds between two records: what is left gives the same end as the whole, and the trace holds what is read of it.
-- Assumes nothing.
use Prim.Native.Nat.{ℕ, ◌+◌, ◌-◌, ◌≤◌, ◌<◌}
use native.Mathlib.Omega.{arith}
use mathlib.Core.Path.{◌≡◌, refl, sym, ◌∙◌, ap}
use mathlib.Core.Bool.{false}
use mathlib.Core.List.{List}
use lib.ListN.{length, drop, length-drop}
use Rattle.model.specs.declared.ItsState.{ItsState}
use Rattle.model.specs.Trace.{Parsed, whole, broken, parse, lines_of, next}
use Rattle.text.specs.declared.Laid.{Laid}
use Rattle.text.specs.Laying.{output, lay_all}
use Rattle.text.proofs.Fits.{append}
use Rattle.trace.specs.declared.Run.{Run}
use Rattle.trace.specs.Records.{Stand, stand, output_of, running_of, Within, stretch_of, stand_at, stand_after, run_at_start}
use Rattle.trace.proofs.Rest.{Moves, moves}
use Rattle.inforce.specs.Shown.{unit_lines, nothing_more, unit_at_end, record_lines, no_lines, more_lines, each_lines}
use Rattle.inforce.specs.Listing.{with_unit, listed_after}
use Rattle.inforce.proofs.Walking.{rest, forward, ended}

-- the trace holds what is read of it
pub record Inside (trace : List ℕ) (run : Run) : Type 0 where
  pub reads : run.at ≤ length trace
  pub lent : run.from + run.size ≤ length trace

starts_inside : (trace : List ℕ) (run : Run) → run ≡ run_at_start → Inside trace run
starts_inside trace run e = rw e (record { reads = omega arith; lent = omega arith })

pub ready : (trace : List ℕ) (run : Run) → Inside trace run → Within trace (drop run.at trace) run
ready trace run i = record { reads = rw length-drop (omega (arith, i.reads)); lent = i.lent }

-- To the end.
abbrev rest_unit : List ℕ → Run → ItsState
rest_unit trace run = rest (λ s. s.unit) nothing_more trace run

pub record Leading (trace : List ℕ) (run : Run) : Type 0 where
  pub same : rest_unit trace run ≡ unit_at_end trace
  pub inside : Inside trace run

pub begins : (trace : List ℕ) (run : Run) → run ≡ run_at_start → Leading trace run
unfolding unit_at_end
begins trace run e = record { same = ap (rest_unit trace) e; inside = starts_inside trace run e }

module _ (trace : List ℕ) (run : Run) (g : Leading trace run) where
  module _ (h : run.at < length trace) (out left : List ℕ) (r : Run) (e : stand left r ≡ stand_after trace (stand out run) (parse (drop run.at trace))) where
    on : Moves trace run r
    on = rw (ap (λ s. s.run) e) (moves trace (stand out run) h g.inside.lent)

    pub again : Leading trace r
    again =
        record {
          same = ap (λ s. rest_unit trace s.run) e ∙ (forward (λ s. s.unit) nothing_more trace (stand out run) h ∙ g.same);
          inside = record { reads = on.reads; lent = on.lent };
        }

    pub less : length trace - r.at < length trace - run.at
    less = omega (arith, on.on, on.reads)

  pub at_end : length trace ≤ run.at → run.unit ≡ unit_at_end trace
  at_end h = sym (ended (λ s. s.unit) nothing_more trace run h) ∙ g.same

-- After each record.
abbrev rest_lines : List ℕ → Run → List (List ℕ)
rest_lines trace run = rest no_lines more_lines trace run

abbrev pub fresh : Laid
fresh = record { at = 0; full = false }

pub record Listing (trace out₀ out : List ℕ) (run : Run) : Type 0 where
  pub same : lay_all (output out run.laid) (rest_lines trace run) ≡ lay_all (output out₀ fresh) (each_lines trace)
  pub long : length out ≡ length out₀
  pub inside : Inside trace run

pub lists : (trace out : List ℕ) (run : Run) → run ≡ run_at_start → Listing trace out out run
unfolding each_lines
lists trace out run e =
    record { same = ap (λ z. lay_all (output out z.laid) (rest_lines trace z)) e; long = refl; inside = starts_inside trace run e }

-- a record's lines, and then those of the unit
shown_after : (trace : List ℕ) (s : Stand) (p : Parsed) → output_of (with_unit (stand_after trace s p)) ≡ lay_all (output_of s) (record_lines (running_of trace s.run) s.run.at p)
shown_after trace s (whole r n) = sym (append (output_of s) (lines_of (running_of trace s.run) r) (unit_lines (next (running_of trace s.run) r).unit))
shown_after trace s broken = refl

module _ (trace out₀ out : List ℕ) (run : Run) (g : Listing trace out₀ out run) where
  module _ (h : run.at < length trace) (left : List ℕ) (r : Run) (e : stand left r ≡ listed_after trace (stand out run)) where
    p : Parsed
    p = parse (drop run.at trace)

    s' : Stand
    s' = stand_after trace (stand out run) p

    moved : Moves trace run r
    unfolding s' p
    moved = rw (ap (λ s. s.run) e) (moves_of (moves trace (stand out run) h g.inside.lent))
      where
        moves_of : Moves trace run s'.run → Moves trace run (with_unit s').run
        moves_of m = record { on = m.on; reads = m.reads; lent = m.lent }

    lines_on : lay_all (output left r.laid) (rest_lines trace r) ≡ lay_all (output out run.laid) (rest_lines trace run)
    unfolding s' p
    lines_on =
        ap (λ s. lay_all (output_of s) (rest_lines trace s.run)) e
        ∙ (ap (λ o. lay_all o (rest_lines trace s'.run)) (shown_after trace (stand out run) p)
        ∙ (sym (append (output out run.laid) (record_lines (running_of trace run) run.at p) (rest_lines trace s'.run))
        ∙ ap (lay_all (output out run.laid)) (forward no_lines more_lines trace (stand out run) h)))

    pub list_again : length left ≡ length out → Listing trace out₀ left r
    list_again k = record { same = lines_on ∙ g.same; long = k ∙ g.long; inside = record { reads = moved.reads; lent = moved.lent } }

    pub list_less : length trace - r.at < length trace - run.at
    list_less = omega (arith, moved.on, moved.reads)

  pub all_listed : length trace ≤ run.at → output out run.laid ≡ lay_all (output out₀ fresh) (each_lines trace)
  all_listed h = ap (lay_all (output out run.laid)) (sym (ended no_lines more_lines trace run h)) ∙ g.same

-- the record is carried out, and then the lines of the unit are laid
pub then_listed : (trace : List ℕ) (s : Stand) {between : List ℕ} {m : Run} → stand between m ≡ stand_after trace s (parse (drop s.run.at trace)) → {left : List ℕ} {laid : Laid} →
    output left laid ≡ lay_all (output between m.laid) (unit_lines m.unit) → stand_at (output left laid) m.at (stretch_of m) m.unit ≡ listed_after trace s
then_listed trace s {between} {m} e f = ap (λ o. stand_at o m.at (stretch_of m) m.unit) f ∙ ap with_unit e
