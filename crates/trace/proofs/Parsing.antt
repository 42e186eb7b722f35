-- The model's reading of a record: by its mark, and how much of the bytes a whole record takes.
-- Assumes nothing.
use Rattle.std.specs.Prelude.{Option, None, Some, if◌then◌else◌}
use Prim.Native.Nat.{ℕ, ◌+◌, ◌-◌, ◌*◌, ◌≤◌, ◌<◌}
use Prim.Native.String.{String}
use native.Mathlib.Omega.{arith}
use mathlib.Core.Path.{◌≡◌, refl, sym, ◌∙◌}
use mathlib.Core.Bool.{Bool, true, false, ◌&&◌}
use mathlib.Core.List.{List}
use lib.Dec.{leb, eqb}
use lib.ListN.{length, take, drop, get_or}
use borrow.Author.Tests.{le-leb, lt-leb, leb-true}
use Rattle.model.specs.Text.{ascii}
use Rattle.model.specs.Trace.{Record, CF, GM, RD, WR, TR, Parsed, whole, broken, number, config_read, window_in, sized, marked, parse}
use Rattle.model.proofs.Cases.{cases}
use Rattle.trace.specs.declared.Mark.{Mark}
use Rattle.trace.specs.declared.Mark.TheVariants.{Cf, Gm, Rd, Wr, Tr}
use Rattle.trace.specs.Marks.{mark_of, parsed_as, parsed_at}

-- the model reads a record by its mark
pub by_mark : (l : List ℕ) → parse l ≡ parsed_at (mark_of l) l
unfolding parse mark_of parsed_as
by_mark l =
    cases (marked "CF" l) (λ t. rw t)
    (λ f. cases (marked "GM" l) (λ t. rw (f, t))
    (λ g. cases (marked "RD" l) (λ t. rw (f, g, t))
    (λ h. cases (marked "WR" l) (λ t. rw (f, g, h, t))
    (λ i. cases (marked "TR" l) (λ t. rw (f, g, h, i, t)) (λ j. rw (f, g, h, i, j))))))

-- What a whole record takes of the bytes: its mark at least, and no more than there is; and the window of a GM is the rest of its bytes.
abbrev pub Lends : List ℕ → ℕ → Record → Type 0
Lends l n (CF k) = Unit
Lends l n (GM w) = (14 ≤ n) × (w.bytes ≡ take (n - 14) (drop 14 l))
Lends l n (RD offset width) = Unit
Lends l n (WR offset width value) = Unit
Lends l n (TR d e) = Unit

pub record Takes (l : List ℕ) (n : ℕ) (r : Record) : Type 0 where
  pub some : 0 < n
  pub within : n ≤ length l
  pub lends : Lends l n r

abbrev pub Sound : List ℕ → Parsed → Type 0
Sound l (whole r n) = Takes l n r
Sound l broken = Unit

sound_if : (l : List ℕ) (b : Bool) (p : Parsed) → (b ≡ true → Sound l p) → Sound l (if b then p else broken)
sound_if l true p f = f refl
sound_if l false p f = tt

sound_sized : (l : List ℕ) (n : ℕ) (r : Record) → 0 < n → Lends l n r → Sound l (sized n l r)
sound_sized l n r h k = sound_if l (leb n (length l)) (whole r n) (λ t. record { some = h; within = leb-true n (length l) t; lends = k })

pub size_left : (n : ℕ) → 14 + n - 14 ≡ n
size_left n = omega arith

sound_as : (m : Mark) (l : List ℕ) → Sound l (parsed_as m l)
unfolding parsed_as
sound_as Cf l = sound_if l (leb 16 (length l)) (sized (16 + 2 * number 15 1 l) l (CF (config_read l))) (λ t. sound_sized l (16 + 2 * number 15 1 l) (CF (config_read l)) (omega arith) tt)
sound_as Gm l =
    sound_if l (leb 14 (length l) && leb (number 10 4 l) 4096) (sized (14 + number 10 4 l) l (GM (window_in l)))
    (λ t. sound_sized l (14 + number 10 4 l) (GM (window_in l)) (omega arith) (omega arith, rw size_left))
sound_as Rd l = sound_sized l 11 (RD (number 2 8 l) (number 10 1 l)) (omega arith) tt
sound_as Wr l = sound_sized l 19 (WR (number 2 8 l) (number 10 1 l) (number 11 8 l)) (omega arith) tt
sound_as Tr l = sound_sized l 10 (TR (record { 0 = number 2 4 l }) (record { 0 = number 6 4 l })) (omega arith) tt

sound_at : (m : Option Mark) (l : List ℕ) → Sound l (parsed_at m l)
sound_at None l = tt
sound_at (Some m) l = sound_as m l

pub sound : (l : List ℕ) → Sound l (parse l)
sound l = rw by_mark (sound_at (mark_of l) l)

-- The record after each mark: too short, and whole.
sized_whole : (n : ℕ) (l : List ℕ) (r : Record) → n ≤ length l → sized n l r ≡ whole r n
sized_whole n l r h = rw (le-leb n (length l) h)

sized_short : (n : ℕ) (l : List ℕ) (r : Record) → length l < n → sized n l r ≡ broken
sized_short n l r h = rw (lt-leb n (length l) h)

module _ (l : List ℕ) where
  pub cf_short : length l < 16 → parsed_as Cf l ≡ broken
  unfolding parsed_as
  cf_short h = rw (lt-leb 16 (length l) h)

  pub cf_cut : 16 ≤ length l → length l < 16 + 2 * number 15 1 l → parsed_as Cf l ≡ broken
  unfolding parsed_as
  cf_cut h k = rw (le-leb 16 (length l) h) (sized_short (16 + 2 * number 15 1 l) l (CF (config_read l)) k)

  pub cf_whole : 16 + 2 * number 15 1 l ≤ length l → parsed_as Cf l ≡ whole (CF (config_read l)) (16 + 2 * number 15 1 l)
  unfolding parsed_as
  cf_whole h = rw (le-leb 16 (length l) (omega arith)) (sized_whole (16 + 2 * number 15 1 l) l (CF (config_read l)) h)

  pub gm_short : length l < 14 → parsed_as Gm l ≡ broken
  unfolding parsed_as
  gm_short h = rw (lt-leb 14 (length l) h)

  pub gm_long : 14 ≤ length l → 4096 < number 10 4 l → parsed_as Gm l ≡ broken
  unfolding parsed_as
  gm_long h k = rw (le-leb 14 (length l) h, lt-leb (number 10 4 l) 4096 k)

  pub gm_cut : 14 ≤ length l → number 10 4 l ≤ 4096 → length l < 14 + number 10 4 l → parsed_as Gm l ≡ broken
  unfolding parsed_as
  gm_cut h k m = rw (le-leb 14 (length l) h, le-leb (number 10 4 l) 4096 k) (sized_short (14 + number 10 4 l) l (GM (window_in l)) m)

  pub gm_whole : number 10 4 l ≤ 4096 → 14 + number 10 4 l ≤ length l → parsed_as Gm l ≡ whole (GM (window_in l)) (14 + number 10 4 l)
  unfolding parsed_as
  gm_whole k m = rw (le-leb 14 (length l) (omega arith), le-leb (number 10 4 l) 4096 k) (sized_whole (14 + number 10 4 l) l (GM (window_in l)) m)

  pub rd_short : length l < 11 → parsed_as Rd l ≡ broken
  unfolding parsed_as
  rd_short h = sized_short 11 l (RD (number 2 8 l) (number 10 1 l)) h

  pub rd_whole : 11 ≤ length l → parsed_as Rd l ≡ whole (RD (number 2 8 l) (number 10 1 l)) 11
  unfolding parsed_as
  rd_whole h = sized_whole 11 l (RD (number 2 8 l) (number 10 1 l)) h

  pub wr_short : length l < 19 → parsed_as Wr l ≡ broken
  unfolding parsed_as
  wr_short h = sized_short 19 l (WR (number 2 8 l) (number 10 1 l) (number 11 8 l)) h

  pub wr_whole : 19 ≤ length l → parsed_as Wr l ≡ whole (WR (number 2 8 l) (number 10 1 l) (number 11 8 l)) 19
  unfolding parsed_as
  wr_whole h = sized_whole 19 l (WR (number 2 8 l) (number 10 1 l) (number 11 8 l)) h

  pub tr_short : length l < 10 → parsed_as Tr l ≡ broken
  unfolding parsed_as
  tr_short h = sized_short 10 l (TR (record { 0 = number 2 4 l }) (record { 0 = number 6 4 l })) h

  pub tr_whole : 10 ≤ length l → parsed_as Tr l ≡ whole (TR (record { 0 = number 2 4 l }) (record { 0 = number 6 4 l })) 10
  unfolding parsed_as
  tr_whole h = sized_whole 10 l (TR (record { 0 = number 2 4 l }) (record { 0 = number 6 4 l })) h
