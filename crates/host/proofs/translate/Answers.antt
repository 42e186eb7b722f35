-- `host::translate` meets its contract: 1 first, then where the message goes.
use mathlib.Core.Path.{sym, ap, ◌∙◌}
use Rattle.model.specs.Config.{sound}
use Rattle.model.specs.Entry.{translate as translateOf}
use Rattle.host.proofs.translate.Goals as goal

pub returns-then-not-is_sound : goal.returns-then-not-is_sound
unfolding translateOf
returns-then-not-is_sound c = rw (sym (c.is_sound.ensures ∙ ap (λ f. sound f.config f.registers) c.frame_in.ensures) ∙ c.if-not-is_sound.true)

pub returns : goal.returns
unfolding translateOf
returns c = rw (sym (c.is_sound.ensures ∙ ap (λ f. sound f.config f.registers) c.frame_in.ensures) ∙ c.if-not-is_sound.false) c.deliver.ensures
