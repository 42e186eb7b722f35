-- What a record stands for, from what the searches find: the first record of its key, and that of its collection.
-- Assumes nothing.
use Rattle.std.specs.Prelude.{ℕ, List, Option}
use mathlib.Core.Path.{◌≡◌, ap, ◌∙◌}
use mathlib.Core.Bool.{Bool, false}
use lib.Dec.{eqb, ltb}
use lib.ListN.{length}
use Rattle.model.specs.Choose.{if_found}
use Rattle.model.specs.Table.{first_at, among}
use Rattle.model.proofs.Cases.{cases}
use Rattle.mappings.specs.Mappings.{counts}

-- a search that ended at the place i of a table: it is the first of its key
pub ends_there : {A : Type 0} (p : A → Bool) (rs : List A) (i : ℕ) → if_found (among rs (first_at p rs)) (λ n. eqb n i) false ≡ counts (length rs) (first_at p rs) i
ends_there p rs i = cases (ltb (first_at p rs) (length rs)) (λ e. rw e) (λ e. rw e)

-- and whether one did, asked of what it found
pub stood : {A : Type 0} (p : A → Bool) (rs : List A) (i : ℕ) {f : Option ℕ} {b : Bool} → f ≡ among rs (first_at p rs) → b ≡ if_found f (λ n. eqb n i) false →
    b ≡ counts (length rs) (first_at p rs) i
stood p rs i f b = b ∙ (ap (λ o. if_found o (λ n. eqb n i) false) f ∙ ends_there p rs i)
