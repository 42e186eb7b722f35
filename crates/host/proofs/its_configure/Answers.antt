-- `host::its_configure` meets its contract.
use mathlib.Core.Path.{ap, ◌∙◌}
use mathlib.Core.List.{[], ◌∷◌}
use Rattle.model.specs.Refusal.{verdict_number}
use Rattle.host.proofs.Tells.{retold}
use Rattle.host.proofs.Given.{given}
use Rattle.host.proofs.its_configure.Goals as goal

pub returns : goal.returns
returns c =
    let a = c.args in
    let g = given a.settings.now a.processors.now c.limit_given.ensures c.setting_given.ensures c.setting_given-2.ensures c.setting_given-3.ensures
    c.count_given.ensures c.processors_given.ensures in (
      c.configure-verdict.ensures.0 ∙ ap (λ z. z.unit) g,
      retold (ap (λ n. n ∷ 0 ∷ 0 ∷ 0 ∷ 0 ∷ []) (c.verdict_number.ensures ∙ ap verdict_number (c.configure-verdict.ensures.1 ∙ ap (λ z. z.verdict) g))) c.tell.ensures,
    )
