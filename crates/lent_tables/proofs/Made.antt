-- An array that is made by its index: what `array::from_fn` gives of a closure that gives a number of its index is the rows of that function.
-- Assumes nothing.
use Prim.Native.Nat.{ℕ, zero, suc, ◌+◌, ◌<◌}
use native.Mathlib.Omega.{arith}
use mathlib.Core.Path.{◌≡◌, sym, ◌∙◌}
use mathlib.Core.List.{List}
use lib.ListN.{get_or}
use denote.Param.Members.{Mut, Called}
use Rattle.std.specs.Array.{IsFromFnResult, IsFromFnResultFrom}
use Rattle.lent_tables.specs.Numbers.{rows}
use Rattle.lent_tables.proofs.Rows.{rows_list}

module _ {F B : Type 0} (g : Mut F (ℕ × Unit {0}) B) (f : F) (h : ℕ → B) (gives : (i : ℕ) (y : B) (q : F) → Called g f (i, tt) y q → (q ≡ f) × (y ≡ h i)) (d : B) where
  at : (ys : List B) (n i : ℕ) → IsFromFnResultFrom g f ys i n → (k j : ℕ) → k < n → i + k ≡ j → get_or ys j d ≡ h j
  at ys zero i e k j l m = absurd (omega arith)
  at ys (suc n) i e zero j l m =
      let z : i ≡ j = omega arith in
      rw (← z) (e.2.1 d ∙ (gives i e.1 e.0 e.3).1)
  at ys (suc n) i e (suc k) j l m =
      let rest : IsFromFnResultFrom g f ys (i + 1) n = rw (gives i e.1 e.0 e.3).0 at e.4 in
      at ys n (i + 1) rest k j (omega arith) (omega arith)

  pub made : (ys : List B) (n : ℕ) → IsFromFnResult g f ys n → rows n h ≡ ys
  made ys n e = rows_list n h ys d e.long (λ i l. sym (at ys n 0 e.each i i l (omega arith)))
