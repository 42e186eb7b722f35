-- A write of GITS_BASER keeps Type and Entry_Size and takes every other field.
-- Assumes nothing.
use Prim.Native.Nat.{ℕ, ◌+◌, ◌-◌, ◌*◌, ◌/◌, ◌%◌, ◌<◌, ◌^◌}
use native.Mathlib.Omega.{arith}
use mathlib.Core.Path.{◌≡◌, ap}
use Rattle.model.specs.Arm.{◌of◌, without, bits, BASER_Size, BASER_Page_Size, BASER_Shareability, BASER_Physical_Address, BASER_Entry_Size, BASER_OuterCache, BASER_Type, BASER_Indirect, BASER_Valid}
use Rattle.model.specs.Writing.{baser_after}
use Rattle.arm_agreement.specs.Writes.{FieldsOfBASER}

-- the parts of a BASER after a write, from bit 0 up: Size to Physical_Address, Entry_Size, OuterCache, Type, and the rest
abbrev laid : ℕ → ℕ → ℕ → ℕ → ℕ → ℕ
laid a e o t h = a + e * 2 ^ 48 + o * 2 ^ 53 + t * 2 ^ 56 + h * 2 ^ 59

joined : (v a e o t h p q r : ℕ) → v ≡ p * 2 ^ 48 + a → p ≡ q * 2 ^ 5 + e → q ≡ r * 2 ^ 3 + o → r ≡ h * 2 ^ 3 + t → v ≡ laid a e o t h
joined v a e o t h p q r i j k l = omega arith

value_laid : (v : ℕ) → v ≡ laid (bits 47 0 of v) (BASER_Entry_Size of v) (BASER_OuterCache of v) (BASER_Type of v) (v / 2 ^ 59)
value_laid v =
    joined v (bits 47 0 of v) (BASER_Entry_Size of v) (BASER_OuterCache of v) (BASER_Type of v) (v / 2 ^ 59) (v / 2 ^ 48) (v / 2 ^ 53) (v / 2 ^ 56)
    (omega arith) (omega arith) (omega arith) (omega arith)

module _ (a e o t h : ℕ) (p : a < 2 ^ 48) (q : e < 2 ^ 5) (r : o < 2 ^ 3) (s : t < 2 ^ 3) where
  laid_address : bits 47 0 of laid a e o t h ≡ a
  laid_address = omega arith

  laid_size : BASER_Entry_Size of laid a e o t h ≡ e
  laid_size = omega arith

  laid_outer : BASER_OuterCache of laid a e o t h ≡ o
  laid_outer = omega arith

  laid_type : BASER_Type of laid a e o t h ≡ t
  laid_type = omega arith

  laid_high : laid a e o t h / 2 ^ 59 ≡ h
  laid_high = omega arith

-- Type and Entry_Size are put in place of those written
replaced : (v a e o t h t' e' : ℕ) → a < 2 ^ 48 → o < 2 ^ 3 → t < 2 ^ 3 → v ≡ laid a e o t h →
    without BASER_Type (v - e * 2 ^ 48) + t' * 2 ^ 56 + e' * 2 ^ 48 ≡ laid a e' o t' h
replaced v a e o t h t' e' p q r i =
    let z : v - e * 2 ^ 48 ≡ laid a 0 o t h = omega arith in
    let k = laid_type a 0 o t h p (omega arith) q r in
    rw (z, k) (omega arith)

baser_laid : (present value : ℕ) →
    baser_after present value ≡ laid (bits 47 0 of value) (BASER_Entry_Size of present) (BASER_OuterCache of value) (BASER_Type of present) (value / 2 ^ 59)
unfolding baser_after
baser_laid present value =
    replaced value (bits 47 0 of value) (BASER_Entry_Size of value) (BASER_OuterCache of value) (BASER_Type of value) (value / 2 ^ 59) (BASER_Type of present) (BASER_Entry_Size of present)
    (omega arith) (omega arith) (omega arith) (value_laid value)

-- the fields in its low 48 bits, and those above Type
module _ (x v : ℕ) (h : bits 47 0 of x ≡ bits 47 0 of v) where
  same_size : BASER_Size of x ≡ BASER_Size of v
  same_size = omega arith

  same_page : BASER_Page_Size of x ≡ BASER_Page_Size of v
  same_page = omega arith

  same_share : BASER_Shareability of x ≡ BASER_Shareability of v
  same_share = omega arith

  same_address : BASER_Physical_Address of x ≡ BASER_Physical_Address of v
  same_address = omega arith

module _ (x v : ℕ) (h : x / 2 ^ 59 ≡ v / 2 ^ 59) where
  same_indirect : BASER_Indirect of x ≡ BASER_Indirect of v
  same_indirect = omega arith

  same_valid : BASER_Valid of x ≡ BASER_Valid of v
  same_valid = omega arith

-- the fields of a BASER after a write
fields_from : (present v x : ℕ) → bits 47 0 of x ≡ bits 47 0 of v → BASER_Entry_Size of x ≡ BASER_Entry_Size of present → BASER_OuterCache of x ≡ BASER_OuterCache of v →
    BASER_Type of x ≡ BASER_Type of present → x / 2 ^ 59 ≡ v / 2 ^ 59 → FieldsOfBASER present v x
fields_from present v x a e o t h =
    record {
      read_only = record { Type_stays = t; Entry_Size_stays = e };
      Size = same_size x v a;
      Page_Size = same_page x v a;
      Shareability = same_share x v a;
      Physical_Address = same_address x v a;
      OuterCache = o;
      InnerCache = ap (λ n. n % 2 ^ 3) h;
      Indirect = same_indirect x v h;
      Valid = same_valid x v h;
    }

pub baser_fields : (present value : ℕ) → FieldsOfBASER present value (baser_after present value)
baser_fields present value =
    let a = bits 47 0 of value in
    let e = BASER_Entry_Size of present in
    let o = BASER_OuterCache of value in
    let t = BASER_Type of present in
    let h = value / 2 ^ 59 in
    let p : a < 2 ^ 48 = omega arith in
    let q : e < 2 ^ 5 = omega arith in
    let r : o < 2 ^ 3 = omega arith in
    let s : t < 2 ^ 3 = omega arith in
    rw (baser_laid present value)
    (fields_from present value (laid a e o t h) (laid_address a e o t h p q r s) (laid_size a e o t h p q r s) (laid_outer a e o t h p q r s) (laid_type a e o t h p q r s) (laid_high a e o t h p q r s))
