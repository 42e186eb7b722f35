-- How many actions there are: one for each INT and CLEAR carried out, so no more than commands; and the row that they are laid into stays as long.
-- Assumes nothing.
use Rattle.std.specs.Prelude.{Err, None, Ok, Option, Some}
use Prim.Native.Nat.{◌≤◌}
use native.Mathlib.Omega.{arith}
use mathlib.Core.Path.{◌≡◌, refl, sym, ◌∙◌}
use mathlib.Core.Bool.{Bool, true}
use mathlib.Core.List.{List, [], ◌∷◌, ◌++◌}
use lib.ListN.{length, drop, length-append, length-drop}
use Rattle.model.specs.declared.Delivery.{Delivery}
use Rattle.model.specs.declared.ItsState.{ItsState}
use Rattle.model.specs.declared.ItsAction.{ItsAction}
use Rattle.model.specs.declared.Command.{Command}
use Rattle.model.specs.declared.Command.TheVariants.{Mapd, Mapc, Mapti, Mapi, Movi, Int, Clear, Discard, Inv, Invall, Sync}
use Rattle.model.specs.declared.Refusal.TheVariants.{ResourceNotFound}
use Rattle.model.specs.Choose.{◌or◌then◌, when_found, is_found, list_of}
use Rattle.model.specs.Step.{delivery_in, is_accepted, accepts, action_to, actions_on, actions_of}
use Rattle.model.specs.Passed.{CarriedOut, nothing, one_more}
use Rattle.model.proofs.Cases.{never}
use Rattle.model.proofs.Effects.{own}
use Rattle.guarantees.specs.Actions.{hands_over, ints_and_clears}

-- Each INT and CLEAR has one action.

one_found : (pending : Bool) (o : Option Delivery) → is_accepted (is_found o or Err ResourceNotFound then Ok tt) ≡ true →
    length (list_of (when_found o (λ a. Some (action_to pending a)))) ≡ 1
one_found pending None h = never true refl (sym h)
one_found pending (Some a) h = refl

one_each : (v : ItsState) (x : Command) → accepts v x ≡ true → length (actions_of v x) ≡ hands_over x
unfolding actions_on
one_each v (Mapd d bits valid) ok = refl
one_each v (Mapc c p valid) ok = refl
one_each v (Mapti d e l c) ok = refl
one_each v (Mapi d e c) ok = refl
one_each v (Movi d e c) ok = refl
one_each v (Int d e) ok = one_found true (delivery_in v d e) (own v (Int d e) ok)
one_each v (Clear d e) ok = one_found _ (delivery_in v d e) (own v (Clear d e) ok)
one_each v (Discard d e) ok = refl
one_each v (Inv d e) ok = refl
one_each v (Invall c) ok = refl
one_each v Sync ok = refl

pub as_many : {u v : ItsState} {g : List Command} {handed : List ItsAction} → CarriedOut u g handed v → length handed ≡ ints_and_clears g
as_many nothing = refl
as_many (one_more {v = v} {handed = handed} a x ok) = length-append handed (actions_of v x) ∙ omega (arith, as_many a, one_each v x ok)

-- a command has at most one action
one_at_most : (x : Command) → hands_over x ≤ 1
one_at_most (Mapd d bits valid) = omega arith
one_at_most (Mapc c p valid) = omega arith
one_at_most (Mapti d e l c) = omega arith
one_at_most (Mapi d e c) = omega arith
one_at_most (Movi d e c) = omega arith
one_at_most (Int d e) = omega arith
one_at_most (Clear d e) = omega arith
one_at_most (Discard d e) = omega arith
one_at_most (Inv d e) = omega arith
one_at_most (Invall c) = omega arith
one_at_most Sync = omega arith

pub no_more : (g : List Command) → ints_and_clears g ≤ length g
no_more [] = omega arith
no_more (x ∷ g) = omega (arith, one_at_most x, no_more g)

-- the actions in the row
pub fits : (handed row : List ItsAction) → length handed ≤ length row → length (handed ++ drop (length handed) row) ≡ length row
fits handed row l = length-append handed (drop (length handed) row) ∙ omega (arith, length-drop (length handed) row)
