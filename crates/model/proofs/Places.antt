-- Names for the places of a function's code, for a lemma that several of its needs use.
-- Assumes nothing.
use mathlib.Core.Path.{◌≡◌}

-- the place at which a need is asked, and a place before it
abbrev pub At : {A : Type 0} {B : A → Type 0} → ((a : A) → B a) → Type 0
At {A} f = A

abbrev pub Before : {A B : Type 0} → (A → B) → Type 0
Before {A} {B} f = B

-- what a callee's `ensures` says that its result is
abbrev pub told : {A : Type 0} {x y : A} → x ≡ y → A
told {A} {x} {y} e = y
