-- Little-endian numbers: the number that eight bytes are, of which those beyond the end are 0, is the library's of the eight; and how large such a
-- number is, over any count of bytes.
-- Assumes nothing.
use Rattle.std.proofs.Common.{ℕ, zero, suc, ◌≡◌, ◌+◌, ◌*◌, ◌^◌, ◌≤◌, ◌<◌, List, [], ◌∷◌, drop, take, get_or, refl, ◌∙◌, arith}
use native.Mathlib.Nat.{pow-suc, pow-le-pow_right}
use lib.Seq.{get_or-drop, get_or-take}
use Rattle.std.proofs.lemmas.List.{drop-drop}
use Rattle.std.specs.Int.{from_le_bytes, w64}
use Rattle.model.specs.Queue.{little_endian, words_at}

-- no bytes make 0
empty : (n : ℕ) → little_endian n [] ≡ 0
empty zero = refl
empty (suc n) = refl

-- the number from the place i on is its lowest byte, and above it the number from the next place on
pub next : (n i : ℕ) (l : List ℕ) → little_endian (suc n) (drop i l) ≡ get_or l i 0 + 256 * little_endian n (drop (suc i) l)
next n zero [] = rw (empty n)
next n (suc i) [] = rw (empty n)
next n zero (b ∷ l) = refl
next n (suc i) (b ∷ l) = next n i l

pub eight_bytes : (bytes l : List ℕ) → ((i : ℕ) → i < 8 → get_or bytes i 0 ≡ get_or l i 0) → from_le_bytes w64 bytes ≡ little_endian 8 l
eight_bytes bytes l same =
    omega (
      arith,
      next 7 0 l,
      next 6 1 l,
      next 5 2 l,
      next 4 3 l,
      next 3 4 l,
      next 2 5 l,
      next 1 6 l,
      next 0 7 l,
      same 0 (omega arith),
      same 1 (omega arith),
      same 2 (omega arith),
      same 3 (omega arith),
      same 4 (omega arith),
      same 5 (omega arith),
      same 6 (omega arith),
      same 7 (omega arith),
    )

-- n bytes make a number below 256 ^ n
below : (n : ℕ) (l : List ℕ) → ((k : ℕ) → get_or l k 0 < 256) → little_endian n l < 256 ^ n
below zero l h = omega arith
below (suc n) [] h = rw pow-suc (omega (arith, below n [] h))
below (suc n) (b ∷ l) h = rw pow-suc (omega (arith, h 0, below n l (λ k. h (suc k))))

-- and so do fewer, wherever they start
pub below_from : (n m i : ℕ) (l : List ℕ) → n ≤ m → ((k : ℕ) → get_or l k 0 < 256) → little_endian n (drop i l) < 256 ^ m
below_from n m i l le h =
    let p : 256 ^ n ≤ 256 ^ m = pow-le-pow_right (omega arith) le in
    omega (arith, below n (drop i l) (λ k. rw get_or-drop (h (i + k))))

-- of a longer list, its first bytes make the same number
begun : (n m i : ℕ) (l : List ℕ) → i + n ≤ m → little_endian n (drop i (take m l)) ≡ little_endian n (drop i l)
begun zero m i l h = refl
begun (suc n) m i l h = rw (next n i (take m l), next n i l, get_or-take m l i 0 (omega arith), begun n m (suc i) l (omega arith))

words_of_first : (l : List ℕ) → words_at (take 32 l) 0 ≡ words_at l 0
words_of_first l =
    let e0 = begun 8 32 0 l (omega arith) in
    let e1 = begun 8 32 8 l (omega arith) in
    let e2 = begun 8 32 16 l (omega arith) in
    let e3 = begun 8 32 24 l (omega arith) in
    cc

-- the words at a place are those of what is left from there on, and those of its first 32 bytes
pub words_from : (l : List ℕ) (i : ℕ) → words_at (drop i l) 0 ≡ words_at l i
words_from l i = rw (drop-drop 8 i l, drop-drop 16 i l, drop-drop 24 i l)

pub words_of_command : (l : List ℕ) (i : ℕ) {left command : List ℕ} → left ≡ drop i l → command ≡ take 32 left → words_at command 0 ≡ words_at l i
words_of_command l i left first = rw (first, left) (words_of_first (drop i l) ∙ words_from l i)
