-- The numbers of the row say their actions: an action of a run is the one that its number says.
-- Assumes nothing.
use Prim.Native.Nat.{ℕ, ◌+◌, ◌*◌, ◌/◌, ◌%◌, ◌^◌, ◌<◌}
use native.Mathlib.Omega.{arith}
use mathlib.Core.Path.{◌≡◌, refl, ap₂, ◌∙◌}
use mathlib.Core.Bool.{Bool, true, false}
use mathlib.Core.List.{List, ◌∷◌, ◌++◌, map}
use lib.ListN.{length, drop}
use Rattle.model.specs.declared.ItsState.{ItsState}
use Rattle.model.specs.declared.ItsAction.{ItsAction}
use Rattle.model.specs.Register.{one_if}
use Rattle.model.specs.Queue.{Window, run_queue}
use Rattle.model.specs.Entry.{row_after}
use Rattle.model.proofs.RowLaws.{map_append, map_drop}
use Rattle.lent_queue.specs.Actions.{action_word, action_in, row_with}
use Rattle.lent_queue.proofs.SmallNumbers.{All, no_more, and_all, Small, SmallUnit, queue_small}

-- An action is the one that its number says.
in_place : (p : Bool) (t l : ℕ) → t < 2 ^ 16 → l < 2 ^ 32 →
    action_in (one_if p * 2 ^ 48 + t * 2 ^ 32 + l) ≡ record { target = record { 0 = t }; lpi = record { 0 = l }; pending = p }
in_place true t l ht hl =
    let q : (1 * 2 ^ 48 + t * 2 ^ 32 + l) / 2 ^ 32 ≡ 2 ^ 16 + t = omega arith in
    let a : (2 ^ 16 + t) % 2 ^ 16 ≡ t = omega arith in
    let b : (1 * 2 ^ 48 + t * 2 ^ 32 + l) % 2 ^ 32 ≡ l = omega arith in
    let c : (1 * 2 ^ 48 + t * 2 ^ 32 + l) / 2 ^ 48 ≡ 1 = omega arith in
    rw (q, a, b, c) refl
in_place false t l ht hl =
    let q : (0 * 2 ^ 48 + t * 2 ^ 32 + l) / 2 ^ 32 ≡ t = omega arith in
    let a : t % 2 ^ 16 ≡ t = omega arith in
    let b : (0 * 2 ^ 48 + t * 2 ^ 32 + l) % 2 ^ 32 ≡ l = omega arith in
    let c : (0 * 2 ^ 48 + t * 2 ^ 32 + l) / 2 ^ 48 ≡ 0 = omega arith in
    rw (q, a, b, c) refl

said : {l : List ItsAction} → All Small l → map action_in (map action_word l) ≡ l
said no_more = refl
said (and_all {a} h k) = ap₂ (λ b m. b ∷ m) (in_place a.pending a.target.0 a.lpi.0 h.0 h.1) (said k)

-- THE LAW: the row with the actions of a run, read back, is the row of actions that the model leaves.
pub row_reads : (w : Window) (u : ItsState) → SmallUnit u → (row : List ℕ) →
    map action_in (row_with (run_queue w u).actions row) ≡ row_after (run_queue w u).actions (map action_in row)
row_reads w u s row =
    let l = (run_queue w u).actions in
    map_append action_in (map action_word l) (drop (length l) row) ∙ ap₂ (λ a b. a ++ b) (said (queue_small w u s)) (map_drop action_in (length l) row)
