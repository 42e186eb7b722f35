-- What a host gives. The processors: one more, all, and the first sixteen of more. A count above sixteen is refused like any other, and so is a setting
-- that is not known: the configuration made is accepted exactly if the one given is.
-- Assumes nothing.
use Rattle.std.specs.Prelude.{if◌then◌else◌, Err, Ok}
use Prim.Native.Nat.{ℕ, zero, suc, ◌+◌, ◌-◌, ◌≤◌, ◌<◌}
use native.Mathlib.Numerals.{add-one}
use native.Mathlib.Omega.{arith}
use mathlib.Core.Path.{◌≡◌, refl, sym, ◌∙◌, ap}
use mathlib.Core.Bool.{Bool, true, false, ◌&&◌, ◌||◌}
use mathlib.Core.Logic.{◌⊎◌, inl, inr}
use mathlib.Core.List.{List, [], ◌∷◌, ◌++◌, map, append-nil}
use lib.ListN.{length, take, drop, set, get_or, replicate}
use lib.Seq.{take-append-le, take-append-add, take-suc, append_snoc, set_at, length-take-le, take_all}
use lib.Dec.{leb, ltb, eqb}
use borrow.Author.Tests.{ltb-false, lt-leb, ne_eqb}
use Rattle.model.specs.declared.GicVcpuId.{GicVcpuId}
use Rattle.model.specs.declared.ItsConfig.{ItsConfig}
use Rattle.model.specs.Arm.{LPI_base}
use Rattle.model.specs.declared.Refusal.TheVariants.{Unsound}
use Rattle.model.specs.With.{a_config}
use Rattle.model.specs.Profile.{is_profile}
use Rattle.model.specs.Config.{processors_of, none_twice, sizes_in01, sound_config, fresh_unit, no_config, answers_no_unit}
use Rattle.model.specs.Entry.{configure}
use Rattle.model.proofs.Cases.{cases}
use Rattle.model.proofs.RowLaws.{map_append, map_length}
use Rattle.host.specs.Calls.{processors_given, setting, none_further, config_given}
use Rattle.host.specs.Parts.{count_given, limit_given}

abbrev pub processor : ℕ → GicVcpuId
processor n = record { 0 = n }

abbrev pub none : GicVcpuId
none = record { 0 = 0 }

-- sixteen places, of which the first k hold a processor
abbrev pub filled : ℕ → List ℕ → List GicVcpuId
filled k l = map processor (take k l) ++ replicate (16 - k) none

map_take : (k : ℕ) (l : List ℕ) → map processor (take k l) ≡ take k (map processor l)
map_take zero l = refl
map_take (suc k) [] = refl
map_take (suc k) (a ∷ l) = ap (λ ps. processor a ∷ ps) (map_take k l)

take_replicate : (k n : ℕ) (a : GicVcpuId) → k ≤ n → take k (replicate n a) ≡ replicate k a
take_replicate zero n a h = refl
take_replicate (suc k) zero a h = absurd (omega arith)
take_replicate (suc k) (suc n) a h = ap (λ ps. a ∷ ps) (take_replicate k n a (omega arith))

pub filled_more : (k : ℕ) (l : List ℕ) → k < 16 → k < length l → set (filled k l) k (processor (get_or l k 0)) ≡ filled (k + 1) l
filled_more k l h b =
    let places : 16 - k ≡ suc (15 - k) = omega arith in
    let left : 16 - (k + 1) ≡ 15 - k = omega arith in
    let long : length (map processor (take k l)) ≡ k = map_length processor (take k l) ∙ length-take-le k l (omega arith) in
    rw (
      places,
      left,
      set_at (map processor (take k l)) none (replicate (15 - k) none) (processor (get_or l k 0)) k long,
      add-one k,
      take-suc l k 0 b,
      map_append processor,
      append_snoc,
    )

-- all of them, if they are no more than sixteen
pub filled_all : (k : ℕ) (l : List ℕ) → k ≤ 16 → length l ≡ k → filled k l ≡ processors_given l
unfolding processors_given
filled_all k l h e =
    let whole : take k l ≡ l = take_all k l (omega arith) in
    let places : 16 ≡ length (map processor l) + (16 - k) = rw (map_length processor l) (omega arith) in
    ap (λ ps. map processor ps ++ replicate (16 - k) none) whole
    ∙ sym
    (ap (λ n. take n (map processor l ++ replicate 16 none)) places
    ∙ rw (take-append-add (map processor l) (replicate 16 none) (16 - k), take_replicate (16 - k) 16 none (omega arith)))

-- the first sixteen
pub filled_first : (l : List ℕ) → 16 ≤ length l → filled 16 l ≡ processors_given l
unfolding processors_given
filled_first l h =
    append-nil (map processor (take 16 l))
    ∙ (map_take 16 l ∙ sym (take-append-le 16 (map processor l) (replicate 16 none) (rw (map_length processor l) h)))

-- The configuration.
pub unsound : (k : ItsConfig) → sound_config k ≡ false → configure k ≡ record { unit = answers_no_unit; verdict = Err Unsound }
unfolding configure
unsound k h = rw h

pub sound : (k : ItsConfig) → sound_config k ≡ true → configure k ≡ record { unit = fresh_unit k; verdict = Ok tt }
unfolding configure
sound k h = rw h

none_after : (a b c d f p : Bool) → ((a && (b && (c && ((d && false) && f)))) && p) ≡ false
none_after true true true true f p = refl
none_after true true true false f p = refl
none_after true true false d f p = refl
none_after true false c d f p = refl
none_after false b c d f p = refl

module _ (limit budget frame profile : ℕ) (ps : List ℕ) where
  abbrev made : ℕ → ItsConfig
  made n = a_config limit budget frame profile n (processors_given ps)

  many : (n : ℕ) → 16 < n → sound_config (made n) ≡ false
  unfolding sizes_in01 sound_config
  many n h =
      rw (lt-leb n 16 h)
      (none_after (leb LPI_base limit && leb limit 16777215) (leb 1 budget && leb budget 1024) (eqb frame 65536 || eqb frame 131072) (leb 1 n)
      (none_twice (processors_of (made n))) (is_profile profile))

  by_count : (b : Bool) → ltb (length ps) 17 ≡ b → configure (made (if b then length ps else 17)) ≡ configure (made (length ps))
  by_count true e = refl
  by_count false e = unsound (made 17) (many 17 (omega arith)) ∙ sym (unsound (made (length ps)) (many (length ps) (let h = ltb-false (length ps) 17 e in omega arith)))

-- no configuration has the limit 0
no_limit : (budget frame profile count : ℕ) (ls : List GicVcpuId) → sound_config (a_config 0 budget frame profile count ls) ≡ false
unfolding sizes_in01 sound_config
no_limit budget frame profile count ls = refl

pub given : (ss ps : List ℕ) {limit budget frame profile count : ℕ} {listed : List GicVcpuId} → limit ≡ limit_given ss → budget ≡ setting ss 1 → frame ≡ setting ss 2 →
    profile ≡ setting ss 3 → count ≡ count_given ps → listed ≡ processors_given ps → configure (a_config limit budget frame profile count listed) ≡ configure (config_given ss ps)
given ss ps m b f p c l =
    rw (m, b, f, p, c, l)
    (cases (none_further ss)
    (λ y. rw y (by_count (setting ss 0) (setting ss 1) (setting ss 2) (setting ss 3) ps (ltb (length ps) 17) refl))
    (λ n. rw n
    (unsound (a_config 0 (setting ss 1) (setting ss 2) (setting ss 3) (count_given ps) (processors_given ps)) (no_limit (setting ss 1) (setting ss 2) (setting ss 3) (count_given ps) (processors_given ps))
    ∙ sym (unsound no_config (no_limit 0 0 0 0 (replicate 16 none))))))

-- as many as are taken
pub filled_taken : (k : ℕ) (l : List ℕ) → k ≤ 16 → k ≤ length l → (k ≡ length l) ⊎ (k ≡ 16) → filled k l ≡ processors_given l
filled_taken k l h b (inl e) = filled_all k l h (sym e)
filled_taken k l h b (inr e) = ap (λ m. filled m l) e ∙ filled_first l (rw e at b)
