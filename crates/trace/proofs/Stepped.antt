-- The record whose mark is next, from what carrying out the record after that mark leaves.
-- Assumes nothing.
use Rattle.std.specs.Prelude.{Option, None, Some}
use Prim.Native.Nat.{ℕ, ◌-◌}
use native.Mathlib.Omega.{arith}
use mathlib.Core.Path.{◌≡◌, sym, ◌∙◌}
use mathlib.Core.List.{List}
use lib.ListN.{length, take, drop, length-drop}
use lib.Seq.{take_all}
use Rattle.model.specs.Trace.{broken, parse}
use Rattle.trace.specs.declared.Mark.{Mark}
use Rattle.trace.specs.declared.Run.{Run}
use Rattle.trace.specs.Marks.{mark_of}
use Rattle.trace.specs.Records.{stand, stand_after, CarriesRecord}
use Rattle.trace.proofs.Parsing.{by_mark}

-- the trace from a place on
abbrev pub on_from : List ℕ → ℕ → List ℕ
on_from trace at = take (length trace - at) (drop at trace)

on_from_lem : (trace : List ℕ) (at : ℕ) → on_from trace at ≡ drop at trace
on_from_lem trace at = take_all (length trace - at) (drop at trace) (rw length-drop (omega arith))

pub stepped : (m : Mark) (trace out : List ℕ) (run : Run) (left : List ℕ) (r : Run)
    (found : Option Mark) → found ≡ mark_of (on_from trace run.at) → found ≡ Some m → CarriesRecord m trace (on_from trace run.at) out run left r →
    stand left r ≡ stand_after trace (stand out run) (parse (drop run.at trace))
stepped m trace out run left r found f e h =
    rw (by_mark (drop run.at trace), sym (rw on_from_lem at f) ∙ e) (rw on_from_lem at h)

-- what is no mark begins a record that is broken
pub unmarked : (trace out : List ℕ) (run : Run) (left : List ℕ) (r : Run) (found : Option Mark) → found ≡ mark_of (on_from trace run.at) → found ≡ None →
    stand left r ≡ stand_after trace (stand out run) broken → stand left r ≡ stand_after trace (stand out run) (parse (drop run.at trace))
unmarked trace out run left r found f e h = rw (by_mark (drop run.at trace), sym (rw on_from_lem at f) ∙ e) h
