-- One turn of the queue, from what carrying out its command came to, as the code of both texts accounts for it. The unit is any.
-- Assumes nothing.
use Rattle.std.specs.Prelude.{Err, None, Ok, Some}
use Prim.Native.Nat.{ℕ, ◌≤◌}
use native.Mathlib.Omega.{arith}
use mathlib.Core.Path.{◌≡◌, refl, sym, ap, ◌∙◌}
use mathlib.Core.Bool.{true, false}
use mathlib.Core.List.{List, [], ◌∷◌}
use lib.ListN.{length}
use Rattle.model.specs.declared.ItsState.{ItsState}
use Rattle.model.specs.declared.ItsAction.{ItsAction}
use Rattle.model.specs.declared.Command.{Command}
use Rattle.model.specs.declared.Refusal.{Refusal}
use Rattle.model.specs.With.{with_registers}
use Rattle.model.specs.Step.{check, effect, actions_of, stepped, executed}
use Rattle.model.specs.Queue.{Turn, passes, stays, judged, past_command, carry_out}
use Rattle.model.proofs.RunLaws.{one_handed, told_refused, told_done, told_acted}
use Rattle.answers.specs.Counting.{Turned, unit_past, handed_by, passing, staying, turned_by}

-- The turn y of the unit u leaves the unit v, its account is t, and it hands over these actions.
pub record Turning (u : ItsState) (y : Turn) (v : ItsState) (t : Turned) (handed : List ItsAction) : Type 0 where
  pub unit : v ≡ unit_past u y
  pub told : t ≡ turned_by u y
  pub actions : handed ≡ handed_by u y

-- a turn hands over one action at most
pub one_by : (u : ItsState) (y : Turn) → length (handed_by u y) ≤ 1
one_by u (passes x) = one_handed u x
one_by u (stays r opcode) = omega arith

module _ {u : ItsState} {y : Turn} {t : Turned} where
  pub turn_stays : {why : Refusal} {opcode : ℕ} → y ≡ stays why opcode → t ≡ staying why opcode → Turning u y u t []
  turn_stays e h = rw e (record { unit = refl; told = h; actions = refl })

  turn_passes : {x : Command} {v : ItsState} {handed : List ItsAction} → y ≡ passes x → v ≡ carry_out u x → handed ≡ actions_of u x →
      t ≡ turned_by u (passes x) → Turning u y v t handed
  turn_passes e h a k = rw e (record { unit = h; told = k; actions = a })

-- A command that was read and is known: m is the unit after it was carried out, and v the unit with CREADR past it.
module _ (u : ItsState) (x : Command) (opcode : ℕ) {m : ItsState} (after : m ≡ stepped u x) where
  abbrev y : Turn
  y = judged (check u x) x opcode

  pub is_refused : {t : Turned} {why : Refusal} → Err why ≡ executed u x → t ≡ staying why opcode → Turning u y m t []
  is_refused e h = let k = told_refused u x opcode (sym e) in rw (after ∙ k.1) (turn_stays k.0 h)

  module _ {v : ItsState} (p : v ≡ with_registers m (past_command m.registers)) where
    past : stepped u x ≡ effect u x → v ≡ carry_out u x
    unfolding carry_out
    past e = p ∙ ap (λ w. with_registers w (past_command w.registers)) (after ∙ e)

    pub is_done : {t : Turned} → (Ok None) ≡ executed u x → t ≡ passing false → Turning u y v t []
    is_done e h = let k = told_done u x opcode (sym e) in turn_passes k.0 (past k.1) (sym k.2) (rw k.2 h)

    pub is_acted : {t : Turned} {a : ItsAction} → Ok (Some a) ≡ executed u x → t ≡ passing true → Turning u y v t (a ∷ [])
    is_acted e h = let k = told_acted u x opcode (sym e) in turn_passes k.0 (past k.1) (sym k.2) (rw k.2 h)
