-- The keys and the goals, side by side, are the pairs.
use Prim.Native.Nat.{ℕ}
use mathlib.Core.Bool.{Bool}
use mathlib.Core.Path.{◌∙◌}
use Rattle.std.proofs.Common.{rules}
use borrow.Author.Tests.{tests}
use borrow.Rule.Slice.PartMut.{mid_of}
use Rattle.std.proofs.lemmas.Iterator.{YieldsList-from_slice, YieldsList-from_zip}
use Rattle.std.proofs.lemmas.Iterator.Search.{position_from_yields_List}
use Rattle.model.specs.Keys.{is_pair}
use Rattle.lent_tables.specs.Numbers.{KEYS, GOALS, pair_records, translation_in}
use Rattle.lent_tables.proofs.Slices.{translation_found}
use Rattle.lent_tables.proofs.records.find_pair.Goals as goal

pub returns : goal.returns
returns c =
    let s = c.args.state.now in
    let t = is_pair c.args.pair.device c.args.pair.event in
    let test : ℕ × ℕ → Bool = λ e. t (translation_in e.0 e.1) in
    position_from_yields_List test c.position.new.self _ c.position.result c.position.ensures.ran
    (YieldsList-from_zip {s = c.zip.result} (YieldsList-from_slice (mid_of KEYS pair_records s) cc) (YieldsList-from_slice (mid_of GOALS pair_records s) cc))
    (λ x b q k. search (rules, tests))
    ∙ translation_found s c.told-state t
