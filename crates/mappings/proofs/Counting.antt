-- The record of a table that counts for a key: the one that a look finds, and no other.
-- Assumes nothing.
use Rattle.std.specs.Prelude.{Some}
use Prim.Native.Nat.{ℕ, ◌<◌}
use mathlib.Core.Path.{◌≡◌, refl, sym, ap, ◌∙◌}
use mathlib.Core.Bool.{Bool, true}
use mathlib.Core.List.{List}
use lib.Dec.{eqb, ltb}
use lib.ListN.{length, get_or}
use borrow.Author.Tests.{eqb-true, eq-eqb, ltb-true, lt-ltb}
use Rattle.model.specs.Table.{first_at, look}
use Rattle.model.proofs.Cases.{and_left, and_right, both}
use Rattle.model.proofs.TableLaws.{look_at, look_found}
use Rattle.mappings.specs.Mappings.{counts}

module _ {A : Type 0} (p : A → Bool) (rs : List A) where
  module _ (i : ℕ) (t : counts (length rs) (first_at p rs) i ≡ true) where
    pub counting_below : first_at p rs < length rs
    counting_below = ltb-true _ _ (and_left (ltb (first_at p rs) (length rs)) (eqb (first_at p rs) i) t)

    pub counting_first : first_at p rs ≡ i
    counting_first = eqb-true _ _ (and_right (ltb (first_at p rs) (length rs)) (eqb (first_at p rs) i) t)

    pub counting_look : (d : A) → look p rs ≡ Some (get_or rs i d)
    counting_look d = look_at p rs d counting_below ∙ ap (λ z. Some (get_or rs z d)) counting_first

  module _ {a : A} (l : look p rs ≡ Some a) where
    pub looked_counts : counts (length rs) (first_at p rs) (first_at p rs) ≡ true
    looked_counts = both (ltb (first_at p rs) (length rs)) (eqb (first_at p rs) (first_at p rs)) (lt-ltb _ _ (look_found p rs l)) (eq-eqb (first_at p rs) (first_at p rs) refl)

    pub looked_at : (d : A) → get_or rs (first_at p rs) d ≡ a
    looked_at d = let s = sym (look_at p rs d (look_found p rs l)) ∙ l in cc
