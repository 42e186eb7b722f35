-- WHAT A REFUSED READ AND A REFUSED TRANSLATION LEAVE.
-- Assumes nothing.
use Rattle.std.specs.Prelude.{Err, None, Ok, Option, Some}
use Prim.Native.Nat.{ℕ}
use mathlib.Core.Path.{◌≡◌, refl, sym, ap, ◌∙◌}
use mathlib.Core.Bool.{Bool, true, false}
use mathlib.Core.Logic.{◌⊎◌, inl, inr}
use Rattle.model.specs.declared.ItsDeviceId.{ItsDeviceId}
use Rattle.model.specs.declared.EventId.{EventId}
use Rattle.model.specs.declared.Delivery.{Delivery}
use Rattle.model.specs.declared.ItsState.{ItsState}
use Rattle.model.specs.declared.Refusal.{Refusal}
use Rattle.model.specs.declared.Refusal.TheVariants.{Unsound, ResourceNotFound}
use Rattle.model.specs.Answer.{ReadAnswer, TranslateAnswer, Verdict}
use Rattle.model.specs.Choose.{◌or◌then◌, if_found}
use Rattle.model.specs.Refusal.{read_numbers, translate_numbers}
use Rattle.model.specs.Config.{sound_unit}
use Rattle.model.specs.Step.{delivery_in}
use Rattle.model.specs.Access.{check_read, if_accepted}
use Rattle.model.specs.Entry.{read_from, translate}
use Rattle.model.proofs.Cases.{never}
use Rattle.its.specs.Promises.{Reads, Translates}
use Rattle.guarantees.specs.Refusals.{ReadLeaves, TranslateLeaves}
use Rattle.guarantees.proofs.Reasons.{Only, OfRead, read_only}

-- the reason of a refused read is that of its checks
pub read_reason : (P : Refusal → Type 0) (v : Verdict) (n : ℕ) → Only P v → (why : Refusal) → if_accepted v (Ok n) Err ≡ Err why → P why
read_reason P (Ok _) n o why h = never true refl (cc)
read_reason P (Err why') n o why h = let same : why' ≡ why = cc in rw (← same) o

pub read_leaves : (u : ItsState) (offset width : ℕ) (r : ReadAnswer) → Reads u offset width r → ReadLeaves r
unfolding read_from
read_leaves u offset width r e =
    record {
      value = λ why h. ap read_numbers h;
      numbers = λ why h. read_reason OfRead (check_read u.config u.registers offset width) _ (read_only u offset width) why (sym e.answer ∙ h);
    }

translate_reason : (b : Bool) (o : Option Delivery) (why : Refusal) →
    (b or Err Unsound then if_found o Ok (Err ResourceNotFound)) ≡ Err why → (why ≡ Unsound) ⊎ (why ≡ ResourceNotFound)
translate_reason false o why h = inl (cc)
translate_reason true None why h = inr (cc)
translate_reason true (Some a) why h = never true refl (cc)

pub translate_leaves : (u : ItsState) (d : ItsDeviceId) (e : EventId) (r : TranslateAnswer) → Translates u d e r → TranslateLeaves r
unfolding translate
translate_leaves u d e r q =
    record {
      values = λ why h. ap translate_numbers h;
      numbers = λ why h. translate_reason (sound_unit u) (delivery_in u d e) why (sym q.answer ∙ h);
    }
