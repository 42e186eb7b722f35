-- The records of a trace add up: what is left to do after a record, with what the record adds, is what was left before it.
-- Assumes nothing.
use Prim.Native.Nat.{ℕ, zero, suc, ◌+◌, ◌≤◌, ◌<◌}
use native.Mathlib.Omega.{arith}
use mathlib.Core.Path.{◌≡◌, refl, sym, ◌∙◌, ap}
use mathlib.Core.List.{List, [], ◌∷◌}
use lib.ListN.{length, drop, length-drop, drop_of_length-le}
use lib.Seq.{drop-drop, drop-length}
use Rattle.model.specs.Trace.{Record, Parsed, whole, broken, parse, Running, next}
use Rattle.trace.specs.declared.Run.{Run}
use Rattle.trace.specs.Records.{Stand, running_of, stand_after}
use Rattle.trace.proofs.Parsing.{Takes, Sound, sound}
use Rattle.trace.proofs.Rest.{shorter, left_of, running_after}
use Rattle.inforce.specs.Shown.{on_with, walk}

module _ {A : Type 0} (end : Running → A) (add : Running → ℕ → Parsed → A → A) where
  agree : (l : List ℕ) (p : Parsed) (s : Running) (f g : Record → ℕ → A) → Sound l p → ((r : Record) (n : ℕ) → Takes l n r → f r n ≡ g r n) →
      on_with end add p s f ≡ on_with end add p s g
  agree l broken s f g h e = refl
  agree l (whole r n) s f g h e = e r n h

  -- as many records as bytes are enough
  enough : (k j at : ℕ) (s : Running) (l : List ℕ) → length l ≤ k → length l ≤ j → walk end add k at s l ≡ walk end add j at s l
  enough zero zero at s [] h g = refl
  enough zero (suc j) at s [] h g = refl
  enough (suc k) zero at s [] h g = refl
  enough (suc k) (suc j) at s [] h g = refl
  enough zero j at s (b ∷ l) h g = absurd (omega arith)
  enough (suc k) zero at s (b ∷ l) h g = absurd (omega arith)
  enough (suc k) (suc j) at s (b ∷ l) h g =
      ap (add s at (parse (b ∷ l)))
      (agree (b ∷ l) (parse (b ∷ l)) s (λ r n. walk end add k (at + n) (next s r) (drop n (b ∷ l))) (λ r n. walk end add j (at + n) (next s r) (drop n (b ∷ l))) (sound (b ∷ l))
      (λ r n t. enough k j (at + n) (next s r) (drop n (b ∷ l)) (omega (arith, shorter (b ∷ l) n r t)) (omega (arith, shorter (b ∷ l) n r t))))

  -- what some bytes come to
  abbrev pub walk_in : ℕ → Running → List ℕ → A
  walk_in at s l = walk end add (length l) at s l

  one_record : (at : ℕ) (s : Running) (l : List ℕ) → 0 < length l →
      walk_in at s l ≡ add s at (parse l) (on_with end add (parse l) s (λ r n. walk_in (at + n) (next s r) (drop n l)))
  one_record at s [] h = absurd (omega arith)
  one_record at s (b ∷ l) h =
      ap (add s at (parse (b ∷ l)))
      (agree (b ∷ l) (parse (b ∷ l)) s (λ r n. walk end add (length l) (at + n) (next s r) (drop n (b ∷ l))) (λ r n. walk_in (at + n) (next s r) (drop n (b ∷ l))) (sound (b ∷ l))
      (λ r n t. enough (length l) (length (drop n (b ∷ l))) (at + n) (next s r) (drop n (b ∷ l)) (omega (arith, shorter (b ∷ l) n r t)) (omega arith)))

  -- what is left to do of a trace
  abbrev pub rest : List ℕ → Run → A
  rest trace r = walk_in r.at (running_of trace r) (drop r.at trace)

  carried : (trace : List ℕ) (s : Stand) (p : Parsed) → Sound (left_of trace s) p →
      rest trace (stand_after trace s p).run
      ≡ on_with end add p (running_of trace s.run) (λ r n. walk_in (s.run.at + n) (next (running_of trace s.run) r) (drop n (left_of trace s)))
  carried trace s broken h = rw drop-length
  carried trace s (whole r n) h = rw (running_after trace s r n h, drop-drop n s.run.at trace)

  pub forward : (trace : List ℕ) (s : Stand) → s.run.at < length trace →
      add (running_of trace s.run) s.run.at (parse (left_of trace s)) (rest trace (stand_after trace s (parse (left_of trace s))).run) ≡ rest trace s.run
  forward trace s h =
      let some : 0 < length (left_of trace s) = rw length-drop (omega arith) in
      ap (add (running_of trace s.run) s.run.at (parse (left_of trace s))) (carried trace s (parse (left_of trace s)) (sound (left_of trace s)))
      ∙ sym (one_record s.run.at (running_of trace s.run) (left_of trace s) some)

  -- nothing is left to read
  pub ended : (trace : List ℕ) (r : Run) → length trace ≤ r.at → rest trace r ≡ end (running_of trace r)
  ended trace r h = rw (drop_of_length-le trace {i = r.at} h)
