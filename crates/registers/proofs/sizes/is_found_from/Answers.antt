-- `registers::sizes::is_found_from` meets its contract: some processor that is left is the wanted one exactly if a look finds one.
use Rattle.std.proofs.Common.{rules, arith, ◌≡◌, sym, ◌∙◌, take, drop}
use Rattle.std.proofs.lemmas.Grind.{common_steps}
use Rattle.std.specs.List.{list_any}
use Rattle.model.specs.Keys.{same_processor}
use Rattle.registers.proofs.Searches.{found_any}
use Rattle.registers.proofs.sizes.is_found_from.Goals as goal

pub returns : goal.returns
returns c =
    let a = c.args in
    let left = drop a.from (take a.count a.processors) in
    let rest : c.unwrap_or.result.now ≡ left = grind (arith, common_steps) in
    let some : c.contains.result ≡ list_any (same_processor a.target) c.unwrap_or.result.now = search rules in
    some ∙ (rw rest (sym (found_any (same_processor a.target) left)))
