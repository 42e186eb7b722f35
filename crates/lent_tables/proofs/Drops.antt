-- A drop in a table of a unit that is lent as numbers: what is known before each turn, from the first record up and from the last one down.
-- Assumes nothing.
use Rattle.std.specs.Prelude.{if◌then◌else◌, Some}
use Prim.Native.Nat.{ℕ, zero, suc, ◌+◌, ◌≤◌, ◌<◌}
use native.Mathlib.Omega.{arith}
use mathlib.Core.Path.{◌≡◌, refl, sym, ap, ◌∙◌}
use mathlib.Core.Bool.{Bool, true, false, ◌&&◌}
use mathlib.Core.List.{List, [], ◌∷◌}
use lib.ListN.{length, get_or, set}
use borrow.Author.Tests.{eq-eqb}
use Rattle.model.specs.declared.CollectionId.{CollectionId}
use Rattle.model.specs.declared.Translation.{Translation}
use Rattle.model.specs.Choose.{if_found}
use Rattle.model.specs.Table.{look, drop_all}
use Rattle.model.specs.Keys.{same_collection, is_pair, no_translation}
use Rattle.model.specs.With.{with_translations}
use Rattle.model.specs.Step.{pair_in}
use Rattle.model.proofs.Cases.{cases}
use Rattle.model.proofs.TableLoops.{Dropped, drop_starts, drop_hit, drop_miss, drop_ends}
use Rattle.lent_tables.specs.Numbers.{pair_records, unit_in, translations_in}
use Rattle.lent_tables.proofs.Slices.{stands}
use Rattle.lent_tables.proofs.RecordsAt.{translation_row, translations_at, translations_length}

module _ {A : Type 0} where
  -- the records from number i on are done
  abbrev pub drop_from : ℕ → (A → Bool) → A → List A → List A
  drop_from zero p empty rs = drop_all p empty rs
  drop_from (suc i) p empty [] = []
  drop_from (suc i) p empty (r ∷ rs) = r ∷ drop_from i p empty rs

  module _ (p : A → Bool) (empty : A) where
    from_all : (i : ℕ) (rs : List A) → length rs ≡ i → drop_from i p empty rs ≡ rs
    from_all zero [] h = refl
    from_all zero (r ∷ rs) h = absurd (omega arith)
    from_all (suc i) [] h = refl
    from_all (suc i) (r ∷ rs) h = ap (λ l. r ∷ l) (from_all i rs (omega arith))

    from_at : (d : A) (i : ℕ) (rs : List A) → get_or (drop_from (suc i) p empty rs) i d ≡ get_or rs i d
    from_at d i [] = refl
    from_at d zero (r ∷ rs) = refl
    from_at d (suc i) (r ∷ rs) = from_at d i rs

    from_hit : (d : A) (i : ℕ) (rs : List A) → p (get_or rs i d) ≡ true → set (drop_from (suc i) p empty rs) i empty ≡ drop_from i p empty rs
    from_hit d zero [] h = refl
    from_hit d (suc i) [] h = refl
    from_hit d zero (r ∷ rs) h = rw h
    from_hit d (suc i) (r ∷ rs) h = ap (λ l. r ∷ l) (from_hit d i rs h)

    from_miss : (d : A) (i : ℕ) (rs : List A) → p (get_or rs i d) ≡ false → drop_from (suc i) p empty rs ≡ drop_from i p empty rs
    from_miss d zero [] h = refl
    from_miss d (suc i) [] h = refl
    from_miss d zero (r ∷ rs) h = rw h
    from_miss d (suc i) (r ∷ rs) h = ap (λ l. r ∷ l) (from_miss d i rs h)

    -- a search that ends at or before record i does not see what was dropped after it
    from_look : (q : A → Bool) (d : A) (i : ℕ) (rs : List A) → i < length rs → q (get_or rs i d) ≡ true → look q (drop_from (suc i) p empty rs) ≡ look q rs
    from_look q d i [] h t = absurd (omega arith)
    from_look q d zero (r ∷ rs) h t = rw t
    from_look q d (suc i) (r ∷ rs) h t = ap (λ o. if q r then Some r else o) (from_look q d i rs (omega arith) t)

-- what is known before record i: s are the numbers that were lent, t those of now; nothing but the translations has changed
pub record Drops (p : Translation → Bool) (s : List ℕ) (i : ℕ) (t : List ℕ) : Type 0 where
  pub others : unit_in t ≡ with_translations (unit_in s) (translations_in t)
  pub done : Dropped pair_records p no_translation (translations_in s) i (translations_in t)

pub drops_start : (p : Translation → Bool) (s : List ℕ) → Drops p s 0 s
drops_start p s = record { others = refl; done = drop_starts (translations_length s) }

module _ {p : Translation → Bool} {s t : List ℕ} {i : ℕ} (so_far : Drops p s i t) (h : i < pair_records) {v : Bool} (test : v ≡ p (translation_row t i)) where
  told : v ≡ p (get_or (translations_in s) i no_translation)
  told =
      test ∙ ap p (sym (translations_at t i no_translation h) ∙ ap (λ l. get_or l i no_translation) so_far.done.done
      ∙ stands p no_translation no_translation i (translations_in s))

  pub drops_hit : v ≡ true → {t' : List ℕ} → unit_in t' ≡ with_translations (unit_in t) (set (translations_in t) i no_translation) → {t'' : List ℕ} → t'' ≡ t' →
      Drops p s (i + 1) t''
  drops_hit b e f =
      rw f (record {
        others =
            e ∙ ap (λ u. with_translations u (set (translations_in t) i no_translation)) so_far.others ∙
            ap (with_translations (unit_in s)) (sym (ap (λ u. u.translations) e));
        done = drop_hit so_far.done no_translation h told b refl (ap (λ u. u.translations) e);
      })

  pub drops_miss : v ≡ false → {t' : List ℕ} → t' ≡ t → Drops p s (i + 1) t'
  drops_miss b e = rw e (record { others = so_far.others; done = drop_miss so_far.done no_translation h told b refl })

pub drops_end : {p : Translation → Bool} {s t : List ℕ} {i : ℕ} → Drops p s i t → pair_records ≤ i →
    unit_in t ≡ with_translations (unit_in s) (drop_all p no_translation (translations_in s))
drops_end {s = s} so_far h = so_far.others ∙ ap (with_translations (unit_in s)) (drop_ends so_far.done h)

-- what a drop is proved from
pub ruleset dropping = (drops_start, drops_hit, drops_miss, drops_end)

-- The translations from the last record down: whether a record goes is asked of the records up to it, which stand as they did.
kept : (c : CollectionId) (p : Translation → Bool) (rs : List Translation) (i : ℕ) → i < length rs →
    pair_in c (drop_from (suc i) p no_translation rs) (get_or rs i no_translation) ≡ pair_in c rs (get_or rs i no_translation)
kept c p rs i h = of (get_or rs i no_translation) refl
  where
    of : (a : Translation) → get_or rs i no_translation ≡ a → pair_in c (drop_from (suc i) p no_translation rs) a ≡ pair_in c rs a
    of a e =
        cases a.used
        (λ u. let q : is_pair a.device a.event a ≡ true = rw (u, eq-eqb a.device.0 a.device.0 refl, eq-eqb a.event.0 a.event.0 refl) in
        ap (λ o. a.used && if_found o (λ b. same_collection b.collection c) false)
        (from_look p no_translation (is_pair a.device a.event) no_translation i rs h (ap (is_pair a.device a.event) e ∙ q)))
        (λ u. rw u)

pub record DropsDown (c : CollectionId) (s : List ℕ) (left : ℕ) (t : List ℕ) : Type 0 where
  pub inside : left ≤ pair_records
  pub others : unit_in t ≡ with_translations (unit_in s) (translations_in t)
  pub done : translations_in t ≡ drop_from left (pair_in c (translations_in s)) no_translation (translations_in s)

pub down_starts : (c : CollectionId) (s : List ℕ) → DropsDown c s pair_records s
down_starts c s =
    record {
      inside = omega arith;
      others = refl;
      done = sym (from_all (pair_in c (translations_in s)) no_translation pair_records (translations_in s) (translations_length s));
    }

module _ {c : CollectionId} {s t : List ℕ} {left i : ℕ} (so_far : DropsDown c s left t) (e : left ≡ suc i) {v : Bool}
    (test : v ≡ pair_in c (translations_in t) (get_or (translations_in t) i no_translation)) where
  abbrev p : Translation → Bool
  p = pair_in c (translations_in s)

  same : translations_in t ≡ drop_from (suc i) p no_translation (translations_in s)
  same = so_far.done ∙ ap (λ n. drop_from n p no_translation (translations_in s)) e

  told_down : v ≡ p (get_or (translations_in s) i no_translation)
  told_down =
      test ∙ ap (λ l. pair_in c l (get_or l i no_translation)) same ∙
      ap (pair_in c (drop_from (suc i) p no_translation (translations_in s))) (from_at p no_translation no_translation i (translations_in s)) ∙
      kept c p (translations_in s) i (omega (arith, so_far.inside, translations_length s))

  pub down_hit : v ≡ true → {t' t'' : List ℕ} → t'' ≡ t' → unit_in t' ≡ with_translations (unit_in t) (set (translations_in t) i no_translation) → DropsDown c s i t''
  down_hit b g f =
      rw g (record {
        inside = omega (arith, so_far.inside);
        others =
            f ∙ ap (λ u. with_translations u (set (translations_in t) i no_translation)) so_far.others ∙
            ap (with_translations (unit_in s)) (sym (ap (λ u. u.translations) f));
        done =
            ap (λ u. u.translations) f ∙ ap (λ l. set l i no_translation) same ∙
            from_hit p no_translation no_translation i (translations_in s) (sym told_down ∙ b);
      })

  pub down_miss : v ≡ false → {t' : List ℕ} → t' ≡ t → DropsDown c s i t'
  down_miss b f =
      rw f (record {
        inside = omega (arith, so_far.inside);
        others = so_far.others;
        done = same ∙ from_miss p no_translation no_translation i (translations_in s) (sym told_down ∙ b);
      })

pub down_ends : {c : CollectionId} {s t : List ℕ} {left : ℕ} → DropsDown c s left t → left ≤ 0 →
    unit_in t ≡ with_translations (unit_in s) (drop_all (pair_in c (translations_in s)) no_translation (translations_in s))
down_ends {c} {s} {t} {left} so_far h =
    let z : left ≡ 0 = omega arith in
    so_far.others ∙ ap (with_translations (unit_in s)) (so_far.done ∙ ap (λ n. drop_from n (pair_in c (translations_in s)) no_translation (translations_in s)) z)
