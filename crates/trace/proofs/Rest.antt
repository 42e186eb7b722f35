-- The records of a trace add up to the model's run: what is left to do after a record gives the same end as before it.
-- Assumes nothing.
use Prim.Native.Nat.{ℕ, zero, suc, ◌+◌, ◌≤◌, ◌<◌}
use native.Mathlib.Omega.{arith}
use mathlib.Core.Path.{◌≡◌, refl, sym, ◌∙◌, ap}
use mathlib.Core.List.{List, [], ◌∷◌, ◌++◌}
use lib.ListN.{length, drop, length-drop}
use lib.Seq.{drop-drop, drop-length}
use Rattle.model.specs.Trace.{Record, CF, GM, RD, WR, TR, Parsed, whole, broken, parse, Running, next, lines_of, go_on_with, lines_from}
use Rattle.text.specs.Laying.{Output, lay_all}
use Rattle.text.proofs.Fits.{append}
use Rattle.trace.specs.declared.Run.{Run}
use Rattle.trace.specs.Records.{Stand, output_of, running_of, stretch_after, stand_after}
use Rattle.trace.proofs.Parsing.{Takes, Sound, sound}

-- two ways to go on that agree on every record that can be read come to the same
agree : (l : List ℕ) (p : Parsed) (at : ℕ) (f g : Record → ℕ → List (List ℕ)) → Sound l p → ((r : Record) (n : ℕ) → Takes l n r → f r n ≡ g r n) → go_on_with p at f ≡ go_on_with p at g
agree l broken at f g h e = refl
agree l (whole r n) at f g h e = e r n h

pub shorter : (l : List ℕ) (n : ℕ) (r : Record) → Takes l n r → length (drop n l) < length l
shorter l n r h = rw length-drop (omega (arith, h.some, h.within))

-- as many records as bytes are enough
enough : (k j at : ℕ) (s : Running) (l : List ℕ) → length l ≤ k → length l ≤ j → lines_from k at s l ≡ lines_from j at s l
enough zero zero at s [] h g = refl
enough zero (suc j) at s [] h g = refl
enough (suc k) zero at s [] h g = refl
enough (suc k) (suc j) at s [] h g = refl
enough zero j at s (b ∷ l) h g = absurd (omega arith)
enough (suc k) zero at s (b ∷ l) h g = absurd (omega arith)
enough (suc k) (suc j) at s (b ∷ l) h g =
    agree (b ∷ l) (parse (b ∷ l)) at (λ r n. lines_of s r ++ lines_from k (at + n) (next s r) (drop n (b ∷ l))) (λ r n. lines_of s r ++ lines_from j (at + n) (next s r) (drop n (b ∷ l))) (sound (b ∷ l))
    (λ r n t. ap (λ ls. lines_of s r ++ ls) (enough k j (at + n) (next s r) (drop n (b ∷ l)) (omega (arith, shorter (b ∷ l) n r t)) (omega (arith, shorter (b ∷ l) n r t))))

-- the lines of some bytes
abbrev pub lines_in : ℕ → Running → List ℕ → List (List ℕ)
lines_in at s l = lines_from (length l) at s l

one_record : (at : ℕ) (s : Running) (l : List ℕ) → 0 < length l → lines_in at s l ≡ go_on_with (parse l) at (λ r n. lines_of s r ++ lines_in (at + n) (next s r) (drop n l))
one_record at s [] h = absurd (omega arith)
one_record at s (b ∷ l) h =
    agree (b ∷ l) (parse (b ∷ l)) at (λ r n. lines_of s r ++ lines_from (length l) (at + n) (next s r) (drop n (b ∷ l))) (λ r n. lines_of s r ++ lines_in (at + n) (next s r) (drop n (b ∷ l))) (sound (b ∷ l))
    (λ r n t. ap (λ ls. lines_of s r ++ ls) (enough (length l) (length (drop n (b ∷ l))) (at + n) (next s r) (drop n (b ∷ l)) (omega (arith, shorter (b ∷ l) n r t)) (omega arith)))

-- what the lines that are left from here on make of an output
abbrev pub rest : List ℕ → Stand → Output
rest trace s = lay_all (output_of s) (lines_in s.run.at (running_of trace s.run) (drop s.run.at trace))

-- the bytes that are left to read
abbrev pub left_of : List ℕ → Stand → List ℕ
left_of trace s = drop s.run.at trace

-- the model's unit and window after a record
pub running_after : (trace : List ℕ) (s : Stand) (r : Record) (n : ℕ) → Takes (left_of trace s) n r → running_of trace (stand_after trace s (whole r n)).run ≡ next (running_of trace s.run) r
running_after trace s (CF k) n h = refl
running_after trace s (GM w) n h = rw (h.lends.1, drop-drop 14 s.run.at trace)
running_after trace s (RD offset width) n h = refl
running_after trace s (WR offset width value) n h = refl
running_after trace s (TR d e) n h = refl

carried : (trace : List ℕ) (s : Stand) (p : Parsed) → Sound (left_of trace s) p → rest trace (stand_after trace s p) ≡ lay_all (output_of s)
    (go_on_with p s.run.at (λ r n. lines_of (running_of trace s.run) r ++ lines_in (s.run.at + n) (next (running_of trace s.run) r) (drop n (left_of trace s))))
carried trace s broken h = rw drop-length
carried trace s (whole r n) h =
    rw (
      running_after trace s r n h,
      drop-drop n s.run.at trace,
      append (output_of s) (lines_of (running_of trace s.run) r),
    )

-- what is left to do after a record gives the same end as before it
pub forward : (trace : List ℕ) (s : Stand) → s.run.at < length trace → rest trace (stand_after trace s (parse (left_of trace s))) ≡ rest trace s
forward trace s h =
    let some : 0 < length (left_of trace s) = rw length-drop (omega arith) in
    carried trace s (parse (left_of trace s)) (sound (left_of trace s))
    ∙ sym (ap (λ ls. lay_all (output_of s) ls) (one_record s.run.at (running_of trace s.run) (left_of trace s) some))

-- a record moves on in the trace, and the window stays in it
pub record Moves (trace : List ℕ) (from to : Run) : Type 0 where
  pub on : from.at < to.at
  pub reads : to.at ≤ length trace
  pub lent : to.from + to.size ≤ length trace

lends_within : (trace : List ℕ) (s : Stand) (r : Record) (n : ℕ) → s.run.at + n ≤ length trace → Takes (left_of trace s) n r →
    s.run.from + s.run.size ≤ length trace → (stretch_after s.run n r).from + (stretch_after s.run n r).size ≤ length trace
lends_within trace s (CF k) n h t l = l
lends_within trace s (GM w) n h t l = omega (arith, t.lends.0)
lends_within trace s (RD offset width) n h t l = l
lends_within trace s (WR offset width value) n h t l = l
lends_within trace s (TR d e) n h t l = l

moves_on : (trace : List ℕ) (s : Stand) (p : Parsed) → Sound (left_of trace s) p → s.run.at < length trace → s.run.from + s.run.size ≤ length trace → Moves trace s.run (stand_after trace s p).run
moves_on trace s broken h k l = record { on = k; reads = omega arith; lent = l }
moves_on trace s (whole r n) h k l =
    let room : s.run.at + n ≤ length trace = omega (arith, h.within, length-drop s.run.at trace) in
    record { on = omega (arith, h.some); reads = room; lent = lends_within trace s r n room h l }

pub moves : (trace : List ℕ) (s : Stand) → s.run.at < length trace → s.run.from + s.run.size ≤ length trace → Moves trace s.run (stand_after trace s (parse (left_of trace s))).run
moves trace s h k = moves_on trace s (parse (left_of trace s)) (sound (left_of trace s)) h k
