-- EACH ACTION HANDED OVER IS WHAT THE HISTORY GIVES: along the commands carried out the unit agrees with the history that they lengthen (model: Carried), so
-- the unit that meets an INT or CLEAR answers it with what the commands before it give.
-- Assumes nothing.
use Rattle.std.specs.Prelude.{Err, None, Ok, Option, Some}
use Prim.Native.Nat.{ℕ}
use mathlib.Core.Path.{◌≡◌, refl, sym, ap, subst, ◌∙◌}
use mathlib.Core.Bool.{true, false}
use mathlib.Core.List.{List, ◌∷◌, ◌++◌, append-nil}
use lib.ListN.{drop, take, length}
use lib.Seq.{take_at}
use Rattle.model.specs.declared.ItsDeviceId.{ItsDeviceId}
use Rattle.model.specs.declared.EventId.{EventId}
use Rattle.model.specs.declared.LpiId.{LpiId}
use Rattle.model.specs.declared.GicVcpuId.{GicVcpuId}
use Rattle.model.specs.declared.Delivery.{Delivery}
use Rattle.model.specs.declared.ItsConfig.{ItsConfig}
use Rattle.model.specs.declared.ItsState.{ItsState}
use Rattle.model.specs.declared.ItsAction.{ItsAction}
use Rattle.model.specs.declared.Command.{Command}
use Rattle.model.specs.declared.Command.TheVariants.{Mapd, Mapc, Mapti, Mapi, Movi, Int, Clear, Discard, Inv, Invall, Sync}
use Rattle.model.specs.declared.Refusal.TheVariants.{ResourceNotFound}
use Rattle.model.specs.declared.Written.{Written}
use Rattle.model.specs.Choose.{◌or◌then◌, when_found, is_found, list_of}
use Rattle.model.specs.Profile.{Profile, profile_of}
use Rattle.model.specs.Step.{delivery_in, is_accepted, accepts, action_to, actions_on, actions_of}
use Rattle.model.specs.History.{PairEntry, an_entry, processor_now}
use Rattle.model.specs.Queue.{Window}
use Rattle.model.specs.Entry.{stores}
use Rattle.model.specs.Passed.{CarriedOut, nothing, one_more}
use Rattle.model.specs.Promise.{SentTo}
use Rattle.model.proofs.Cases.{never}
use Rattle.model.proofs.Effects.{own}
use Rattle.model.proofs.Agreement.{Agrees}
use Rattle.model.proofs.Backing.{Sound}
use Rattle.model.proofs.Mapped.{processor_of}
use Rattle.model.proofs.Paragraph.{in_force}
use Rattle.model.proofs.Promised.{Promise, promise}
use Rattle.model.proofs.Carried.{agrees_registers, lengthened}
use Rattle.model.proofs.Held.{Held}
use Rattle.its.specs.Promises.{Writes}
use Rattle.guarantees.specs.Actions.{actions_in, passed_by, ActionsOf, none_passed, an_int, a_clear, another, ActionsGiven}
use Rattle.guarantees.specs.Firm.{Firm}
use Rattle.guarantees.proofs.Counted.{as_many}
use Rattle.guarantees.proofs.Kept.{commands_kept}

-- One more command, which the unit v accepts; v keeps the promise of the commands g ++ h before it.
module _ (k : ItsConfig) (h g : List Command) (handed : List ItsAction) (before : ActionsOf (profile_of k) h g handed) (v : ItsState) (kept : Promise k v (g ++ h)) where
  -- an INT or CLEAR is accepted where the pair translates, which is where the commands send it
  int_given : (d : ItsDeviceId) (e : EventId) (o : Option Delivery) → delivery_in v d e ≡ o → is_accepted (is_found o or Err ResourceNotFound then Ok tt) ≡ true →
      ActionsOf (profile_of k) h (Int d e ∷ g) (handed ++ list_of (when_found o (λ a. Some (action_to true a))))
  int_given d e None q ok = never true refl (sym ok)
  int_given d e (Some a) q ok = an_int before d e a.lpi a.target ((kept.sent d e a.lpi a.target).1 q)

  clear_given : (d : ItsDeviceId) (e : EventId) (o : Option Delivery) → delivery_in v d e ≡ o → is_accepted (is_found o or Err ResourceNotFound then Ok tt) ≡ true →
      ActionsOf (profile_of k) h (Clear d e ∷ g) (handed ++ list_of (when_found o (λ a. Some (action_to false a))))
  clear_given d e None q ok = never true refl (sym ok)
  clear_given d e (Some a) q ok = a_clear before d e a.lpi a.target ((kept.sent d e a.lpi a.target).1 q)

  -- the others have no action
  one_given : (x : Command) → accepts v x ≡ true → ActionsOf (profile_of k) h (x ∷ g) (handed ++ actions_of v x)
  unfolding actions_on
  one_given (Mapd d bits valid) ok = rw (append-nil handed) (another before (Mapd d bits valid) refl)
  one_given (Mapc c p valid) ok = rw (append-nil handed) (another before (Mapc c p valid) refl)
  one_given (Mapti d e l c) ok = rw (append-nil handed) (another before (Mapti d e l c) refl)
  one_given (Mapi d e c) ok = rw (append-nil handed) (another before (Mapi d e c) refl)
  one_given (Movi d e c) ok = rw (append-nil handed) (another before (Movi d e c) refl)
  one_given (Int d e) ok = int_given d e (delivery_in v d e) refl (own v (Int d e) ok)
  one_given (Clear d e) ok = clear_given d e (delivery_in v d e) refl (own v (Clear d e) ok)
  one_given (Discard d e) ok = rw (append-nil handed) (another before (Discard d e) refl)
  one_given (Inv d e) ok = rw (append-nil handed) (another before (Inv d e) refl)
  one_given (Invall c) ok = rw (append-nil handed) (another before (Invall c) refl)
  one_given Sync ok = rw (append-nil handed) (another before Sync refl)

along : {u v : ItsState} {g : List Command} {handed : List ItsAction} (h : List Command) → CarriedOut u g handed v → Agrees h u → Sound u.config h → ActionsOf (profile_of u.config) h g handed
along h nothing a s = none_passed
along {u = u} h (one_more {v = v} {h = g} {handed = handed} c x ok) a s =
    let m = lengthened h c a s in
    one_given u.config h g handed (along h c a s) v (subst (λ k. Promise k v (g ++ h)) m.config (promise v (g ++ h) m.agrees (rw m.config m.sound))) x ok

-- of a unit that agrees with the history
pub actions_held : {k : ItsConfig} {u : ItsState} {h : List Command} → Held k u h → (w : Window) (row : List ItsAction) (offset width value : ℕ) (r : Written) (left : List ItsAction) →
    Writes w row u offset width value r left → ActionsGiven (profile_of k) h w u r left
actions_held {k = k} {u = u} {h = h} m w row offset width value r left e =
    let c = commands_kept w row u offset width value r left e in
    let s = (stores row u offset width value).registers in
    let given : ActionsOf (profile_of k) h (passed_by w u r) c.handed =
    subst (λ z. ActionsOf (profile_of z) h (passed_by w u r) c.handed) m.config (along h c.carried (agrees_registers u h s m.agrees) (rw m.config m.backing)) in
    let first : take (actions_in r) left ≡ c.handed =
    ap (take (actions_in r)) c.in_row ∙ take_at c.handed (drop (length c.handed) row) (actions_in r) (sym c.handed_over) in
    record { handed_over = rw first given; as_many = c.handed_over ∙ as_many c.carried }

-- THE HISTORY GIVES ONE LIST: the commands send a pair to one LPI and one processor.

sent_once : (f : Profile) (h : List Command) (d : ItsDeviceId) (e : EventId) (l l' : LpiId) (p p' : GicVcpuId) → SentTo f h d e l p → SentTo f h d e l' p' → (l ≡ l') × (p ≡ p')
sent_once f h d e l l' p p' s t =
    let two : ◌≡◌ {A = Option PairEntry} (Some (an_entry l s.collection)) (Some (an_entry l' t.collection)) =
    sym ((in_force f d e h l s.collection).0 s.in_force) ∙ (in_force f d e h l' t.collection).0 t.in_force in
    let entry : an_entry l s.collection ≡ an_entry l' t.collection = cc in
    let processors : ◌≡◌ {A = Option GicVcpuId} (Some p) (Some p') =
    sym ((processor_of s.collection h p).0 s.processor)
    ∙ (ap (λ c. processor_now c.collection h) entry ∙ (processor_of t.collection h p').0 t.processor) in
    (ap (λ x. x.lpi) entry, (cc))

pub actions_firm : (f : Profile) (h g : List Command) → Firm (List ItsAction) (ActionsOf f h g)
actions_firm f h g a b none_passed none_passed = refl
actions_firm f h g a b (an_int {g = g'} x d e l p s) (an_int y _ _ l' p' t) =
    let (lpi, target) = sent_once f (g' ++ h) d e l l' p p' s t in
    rw (actions_firm f h g' _ _ x y, lpi, target)
actions_firm f h g a b (an_int x d e l p s) (another y z idle) = never true refl (cc)
actions_firm f h g a b (a_clear {g = g'} x d e l p s) (a_clear y _ _ l' p' t) =
    let (lpi, target) = sent_once f (g' ++ h) d e l l' p p' s t in
    rw (actions_firm f h g' _ _ x y, lpi, target)
actions_firm f h g a b (a_clear x d e l p s) (another y z idle) = never true refl (cc)
actions_firm f h g a b (another x c idle) (an_int y d e l p s) = never true refl (cc)
actions_firm f h g a b (another x c idle) (a_clear y d e l p s) = never true refl (cc)
actions_firm f h g a b (another {g = g'} x c idle) (another y _ idle') = actions_firm f h g' a b x y
