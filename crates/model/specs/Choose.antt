-- No section of document 01: the words in which the other files choose.
-- Assumes nothing.
use Rattle.std.specs.Prelude.{Bool, true, false, List, [], ◌∷◌, None, Option, Some}

infixr 2 ◌or◌then◌
-- `b or r then k`: where the check b fails the answer is r, and nothing that follows counts; else what follows decides
abbrev pub ◌or◌then◌ : {A : Type 0} → Bool → A → A → A
true or r then k = k
false or r then k = r

-- what f makes of the thing, if there is one
abbrev pub when_found : {A B : Type 0} → Option A → (A → Option B) → Option B
when_found None f = None
when_found (Some a) f = f a

-- what f makes of the thing, or b if there is none
abbrev pub if_found : {A B : Type 0} → Option A → (A → B) → B → B
if_found None f b = b
if_found (Some a) f b = f a

-- there is one
abbrev pub is_found : {A : Type 0} → Option A → Bool
is_found None = false
is_found (Some a) = true

-- the thing as a list: one element, or none
abbrev pub list_of : {A : Type 0} → Option A → List A
list_of None = []
list_of (Some a) = a ∷ []
