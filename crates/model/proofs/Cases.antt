-- A test holds or fails, a check holds where nothing is refused, and a thing is found or not.
-- Assumes nothing.
use Rattle.std.specs.Prelude.{Err, None, Ok, Option, Some}
use Prim.Native.Nat.{ℕ}
use native.Mathlib.Omega.{arith}
use mathlib.Core.Path.{◌≡◌, refl, sym}
use mathlib.Core.Bool.{Bool, true, false, ◌&&◌}
use Rattle.model.specs.declared.Refusal.{Refusal}
use Rattle.model.specs.Answer.{Verdict}
use Rattle.model.specs.Choose.{◌or◌then◌, when_found, is_found}

-- a test holds or fails
pub cases : {P : Type 0} (b : Bool) → (b ≡ true → P) → (b ≡ false → P) → P
cases true f g = f refl
cases false f g = g refl

-- and not both
pub never : {P : Type 0} (b : Bool) → b ≡ true → b ≡ false → P
never b h k = absurd (let z : ◌≡◌ {A = ℕ} 0 1 = cc in omega arith)

pub and_left : (a b : Bool) → (a && b) ≡ true → a ≡ true
and_left true b h = refl
and_left false b h = h

pub and_right : (a b : Bool) → (a && b) ≡ true → b ≡ true
and_right true b h = h
and_right false b h = never true refl (sym h)

pub both : (a b : Bool) → a ≡ true → b ≡ true → (a && b) ≡ true
both a b h k = rw h k

-- the first check held, and the rest accepted
pub check_held : (b : Bool) (why : Refusal) (k : Verdict) → (b or Err why then k) ≡ Ok tt → (b ≡ true) × (k ≡ Ok tt)
check_held true why k h = (refl, h)
check_held false why k h = never true refl (cc)

-- a thing is there or not
pub there_or : {A P : Type 0} (o : Option A) → ((a : A) → o ≡ Some a → P) → (o ≡ None → P) → P
there_or None f g = g refl
there_or (Some a) f g = f a refl

-- what was found is something
pub found : {A : Type 0} (o : Option A) → is_found o ≡ true → (a : A) × (o ≡ Some a)
found None h = never true refl (sym h)
found (Some a) h = (a, refl)

-- what is made of a thing that was found is there where the thing is
pub found_when : {A B : Type 0} (o : Option A) (f : A → B) → is_found (when_found o (λ a. Some (f a))) ≡ is_found o
found_when None f = refl
found_when (Some a) f = refl
