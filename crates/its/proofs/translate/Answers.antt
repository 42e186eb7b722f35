-- `its::translate` meets its contract: 1 first, then the pair and its collection.
use mathlib.Core.Path.{◌≡◌, sym, ap, ◌∙◌}
use Rattle.model.specs.declared.ItsState.{ItsState}
use Rattle.model.specs.declared.ItsDeviceId.{ItsDeviceId}
use Rattle.model.specs.declared.EventId.{EventId}
use Rattle.model.specs.Answer.{TranslateAnswer}
use Rattle.model.specs.Refusal.{translate_numbers}
use Rattle.model.specs.Config.{sound}
use Rattle.model.specs.Entry.{translate}
use Rattle.its.specs.Promises.{Translates}
use Rattle.its.proofs.translate.Goals as goal

told : (u : ItsState) (d : ItsDeviceId) (e : EventId) {r : TranslateAnswer} → r ≡ translate u d e → Translates u d e r
told u d e h = record { answer = h; numbers = ap translate_numbers h }

pub returns-then-not-is_sound : goal.returns-then-not-is_sound
unfolding translate
returns-then-not-is_sound c =
    let a = c.args in
    told a.unit a.device a.event (rw (sym (c.is_sound.ensures ∙ ap (λ f. sound f.config f.registers) c.frame.ensures) ∙ c.if-not-is_sound.true))

pub returns : goal.returns
unfolding translate
returns c =
    let a = c.args in
    told a.unit a.device a.event (rw (sym (c.is_sound.ensures ∙ ap (λ f. sound f.config f.registers) c.frame.ensures) ∙ c.if-not-is_sound.false) c.deliver.ensures)
