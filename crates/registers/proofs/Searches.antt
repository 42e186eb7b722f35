-- A look of the model finds something exactly if some item passes.
-- Assumes nothing.
use Rattle.std.proofs.Common.{◌≡◌, Bool, List, [], ◌∷◌, refl}
use Rattle.std.specs.List.{list_any}
use Rattle.model.specs.Choose.{is_found}
use Rattle.model.specs.Table.{look}
use Rattle.model.proofs.Cases.{cases}

pub found_any : {A : Type 0} (p : A → Bool) (xs : List A) → is_found (look p xs) ≡ list_any p xs
found_any p [] = refl
found_any p (x ∷ xs) = cases (p x) (λ e. rw e) (λ e. rw e (found_any p xs))
