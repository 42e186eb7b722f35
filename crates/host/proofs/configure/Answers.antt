-- `host::configure` meets its contract: a configuration that is refused leaves the cleared unit.
use mathlib.Core.Path.{sym, ap, ◌∙◌}
use borrow.Author.Rules.{rules}
use borrow.Author.Tests.{not-true, not-false}
use Rattle.model.specs.With.{with_config}
use Rattle.host.proofs.Given.{unsound, sound}
use Rattle.host.proofs.configure.Goals as goal

pub returns-then-not-sound_config : goal.returns-then-not-sound_config
returns-then-not-sound_config c =
    let s = c in
    let k = s.args.config in
    let e = unsound k (sym s.sound_config.ensures ∙ c.if-not-sound_config.true) in
    (s.clear.ensures ∙ sym (ap (λ z. z.unit) e), sym (ap (λ z. z.verdict) e))

pub returns : goal.returns
returns c =
    let i = c in
    let s = i in
    let k = s.args.config in
    let e = sound k (sym s.sound_config.ensures ∙ i.if-not-sound_config.false) in
    (c.put_config.ensures ∙ (ap (λ u. with_config u k) s.clear.ensures ∙ sym (ap (λ z. z.unit) e)), sym (ap (λ z. z.verdict) e))
