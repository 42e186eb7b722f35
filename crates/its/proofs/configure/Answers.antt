-- `its::configure` meets its contract: a refused configuration is not kept.
use mathlib.Core.Path.{◌≡◌, sym, ap, ◌∙◌}
use Rattle.model.specs.declared.ItsConfig.{ItsConfig}
use Rattle.model.specs.declared.Configured.{Configured}
use Rattle.model.specs.Refusal.{verdict_number}
use Rattle.model.specs.Entry.{configure}
use Rattle.its.specs.Promises.{Configures}
use Rattle.its.proofs.configure.Goals as goal

told : (k : ItsConfig) {r : Configured} → r ≡ configure k → Configures k r
told k e = record { answer = e; numbers = ap (λ r. verdict_number r.verdict) e }

pub returns-then-sound_config : goal.returns-then-sound_config
unfolding configure
returns-then-sound_config c = told c.args.config (rw (sym c.sound_config.ensures ∙ c.if-sound_config.true, c.fresh.ensures))

pub returns-else-sound_config : goal.returns-else-sound_config
unfolding configure
returns-else-sound_config c = told c.args.config (rw (sym c.sound_config.ensures ∙ c.if-sound_config.false, c.no_unit.ensures))
