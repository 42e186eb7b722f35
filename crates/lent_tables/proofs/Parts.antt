-- The configuration and the registers, stored number by number.
-- Assumes nothing.
use Prim.Native.Nat.{ℕ, zero, suc, ◌+◌, ◌%◌, ◌^◌, ◌<◌}
use native.Mathlib.Omega.{arith}
use mathlib.Core.Path.{◌≡◌, refl, ap, ◌∙◌}
use mathlib.Core.Bool.{Bool, true, false}
use mathlib.Core.List.{List, [], ◌∷◌, ◌++◌}
use lib.Dec.{eqb}
use lib.ListN.{length, get_or, set}
use lib.Seq.{get_or-set_same, get_or-set_other, sets}
use Rattle.model.specs.declared.GicVcpuId.{GicVcpuId}
use Rattle.model.specs.declared.ItsConfig.{ItsConfig}
use Rattle.model.specs.declared.ItsRegisters.{ItsRegisters}
use Rattle.model.specs.With.{a_config, with_config, with_registers, with_stalled, with_processors}
use Rattle.model.specs.Profile.{is_strict}
use Rattle.model.specs.Register.{one_if}
use Rattle.model.specs.Config.{no_config}
use Rattle.model.specs.Queue.{past_command, stall}
use Rattle.lent_tables.specs.Numbers.{NUMBERS, LAYOUT, LAYOUT_NUMBER, LPI_LIMIT, COMMAND_BUDGET, FRAME_SIZE, PROFILE, PROCESSOR_COUNT, PROCESSORS, REGISTERS, STALLED, ENABLED, CBASER, CREADR, CWRITER, BASERS, processor_at, word, rows, laid_out, setting_at, config_at, config_in, registers_in, unit_in}
use Rattle.model.proofs.Cases.{cases}
use Rattle.lent_tables.proofs.Rows.{rows_same, rows_list, sets_at}
use Rattle.lent_tables.proofs.Outside.{Outside, outside_set, outside_sets, config_changed, registers_changed}

-- The registers' thirteen numbers.
abbrev pub numbers_of : ItsRegisters → List ℕ
numbers_of r =
    one_if r.stalled ∷ one_if r.enabled ∷ r.cbaser ∷ r.creadr ∷ r.cwriter ∷
    get_or r.basers 0 0 ∷ get_or r.basers 1 0 ∷ get_or r.basers 2 0 ∷ get_or r.basers 3 0 ∷
    get_or r.basers 4 0 ∷ get_or r.basers 5 0 ∷ get_or r.basers 6 0 ∷ get_or r.basers 7 0 ∷ []

one_or_none : (b : Bool) → eqb (one_if b % 2) 1 ≡ b
one_or_none true = refl
one_or_none false = refl

-- the eight BASER stand behind the first five
eight : (r : ItsRegisters) (i : ℕ) → i < 8 → get_or (numbers_of r) (5 + i) 0 ≡ get_or r.basers i 0
eight r zero h = refl
eight r (suc zero) h = refl
eight r (suc (suc zero)) h = refl
eight r (suc (suc (suc zero))) h = refl
eight r (suc (suc (suc (suc zero)))) h = refl
eight r (suc (suc (suc (suc (suc zero))))) h = refl
eight r (suc (suc (suc (suc (suc (suc zero)))))) h = refl
eight r (suc (suc (suc (suc (suc (suc (suc zero))))))) h = refl
eight r (suc (suc (suc (suc (suc (suc (suc (suc i)))))))) h = absurd (omega arith)

module _ (s : List ℕ) (long : length s ≡ NUMBERS) (r : ItsRegisters) (all : length r.basers ≡ 8) where
  t : List ℕ
  t = sets s REGISTERS (numbers_of r)

  at : (j : ℕ) → j < 13 → word t (REGISTERS + j) ≡ get_or (numbers_of r) j 0
  unfolding t
  at j h = sets_at s REGISTERS (numbers_of r) j (omega arith) (omega arith)

  baser : (i : ℕ) → i < 8 → word t (BASERS + i) ≡ get_or r.basers i 0
  baser i h =
      let e : BASERS + i ≡ REGISTERS + (5 + i) = omega arith in
      ap (word t) e ∙ at (5 + i) (omega arith) ∙ eight r i h

  stored : registers_in t ≡ r
  unfolding registers_in
  stored =
      rw (
        at 0 (omega arith),
        at 1 (omega arith),
        at 2 (omega arith),
        at 3 (omega arith),
        at 4 (omega arith),
        one_or_none r.stalled,
        one_or_none r.enabled,
        rows_list 8 (λ i. word t (BASERS + i)) r.basers 0 all baser,
      )

  pub registers_put : unit_in (sets s REGISTERS (numbers_of r)) ≡ with_registers (unit_in s) r
  unfolding t
  registers_put = registers_changed (outside_sets s REGISTERS (numbers_of r) (omega arith) (omega arith)) stored

-- CREADR alone.
module _ (s : List ℕ) (long : length s ≡ NUMBERS) (w : ℕ) (e : w ≡ (past_command (registers_in s)).creadr) where
  kept : (j : ℕ) → (j ≡ CREADR → ⊥) → word (set s CREADR w) j ≡ word s j
  kept j n = get_or-set_other s CREADR j w 0 n

  passed : registers_in (set s CREADR w) ≡ past_command (registers_in s)
  unfolding registers_in
  passed =
      rw (
        kept STALLED (λ q. absurd (omega arith)),
        kept ENABLED (λ q. absurd (omega arith)),
        kept CBASER (λ q. absurd (omega arith)),
        get_or-set_same s CREADR w 0 (omega arith),
        kept CWRITER (λ q. absurd (omega arith)),
        rows_same 8 (λ i. word (set s CREADR w) (BASERS + i)) (λ i. word s (BASERS + i)) (λ i l. kept (BASERS + i) (λ q. absurd (omega arith))),
        e,
      )

  pub creadr_put : unit_in (set s CREADR w) ≡ with_registers (unit_in s) (past_command (registers_in s))
  creadr_put = registers_changed (outside_set s CREADR w (omega arith) (omega arith)) passed

-- Stalled alone.
module _ (s : List ℕ) (long : length s ≡ NUMBERS) where
  beside : (j : ℕ) → (j ≡ STALLED → ⊥) → word (set s STALLED 1) j ≡ word s j
  beside j n = get_or-set_other s STALLED j 1 0 n

  marked : registers_in (set s STALLED 1) ≡ with_stalled (registers_in s) true
  unfolding registers_in
  marked =
      rw (
        get_or-set_same s STALLED 1 0 (omega arith),
        beside ENABLED (λ q. absurd (omega arith)),
        beside CBASER (λ q. absurd (omega arith)),
        beside CREADR (λ q. absurd (omega arith)),
        beside CWRITER (λ q. absurd (omega arith)),
        rows_same 8 (λ i. word (set s STALLED 1) (BASERS + i)) (λ i. word s (BASERS + i)) (λ i l. beside (BASERS + i) (λ q. absurd (omega arith))),
      )

  pub stalled_put : is_strict (config_in s).profile ≡ true → unit_in (set s STALLED 1) ≡ stall (unit_in s)
  unfolding stall
  stalled_put y = rw y (registers_changed (outside_set s STALLED 1 (omega arith) (omega arith)) marked)

  pub stalled_not : is_strict (config_in s).profile ≡ false → unit_in s ≡ stall (unit_in s)
  unfolding stall
  stalled_not n = rw n

-- A configuration is its six parts.
pub config_is : {a a' b b' c c' d d' e e' : ℕ} {ps ps' : List GicVcpuId} → a ≡ a' → b ≡ b' → c ≡ c' → d ≡ d' → e ≡ e' → ps ≡ ps' →
    a_config a b c d e ps ≡ a_config a' b' c' d' e' ps'
config_is a b c d e f = rw (a, b, c, d, e, f)

-- Which configuration the numbers have, by their layout.
pub config_there : (s : List ℕ) → laid_out s ≡ true → config_in s ≡ config_at s
unfolding config_in
config_there s y = rw y

pub config_none : (s : List ℕ) → laid_out s ≡ false → config_in s ≡ no_config
unfolding config_in
config_none s n = rw n

module _ (s : List ℕ) where
  pub setting_small : (at : ℕ) → setting_at s at < 2 ^ 32
  setting_small at = cases (laid_out s) (λ y. rw y (omega arith)) (λ n. rw n (omega arith))

  pub limit_is : setting_at s LPI_LIMIT ≡ (config_in s).lpi_limit
  unfolding config_in
  limit_is = cases (laid_out s) (λ y. rw y) (λ n. rw n)

  pub budget_is : setting_at s COMMAND_BUDGET ≡ (config_in s).command_budget
  unfolding config_in
  budget_is = cases (laid_out s) (λ y. rw y) (λ n. rw n)

  pub profile_is : setting_at s PROFILE ≡ (config_in s).profile
  unfolding config_in
  profile_is = cases (laid_out s) (λ y. rw y) (λ n. rw n)

-- The processors, in four numbers.

-- the four in a number
abbrev four_in : ℕ → List GicVcpuId
four_in w = rows 4 (processor_at w)

joined : {a a' b b' c c' d d' : List GicVcpuId} → a ≡ a' → b ≡ b' → c ≡ c' → d ≡ d' → (a ++ (b ++ (c ++ d))) ≡ (a' ++ (b' ++ (c' ++ d')))
joined ha hb hc hd = rw (ha, hb, hc, hd)

abbrev none : GicVcpuId
none = record { 0 = 0 }

-- processor j and the three after it
abbrev four_from : List GicVcpuId → ℕ → List GicVcpuId
four_from ps j = get_or ps j none ∷ get_or ps (j + 1) none ∷ get_or ps (j + 2) none ∷ get_or ps (j + 3) none ∷ []

module _ (s : List ℕ) (long : length s ≡ NUMBERS) (ps : List GicVcpuId) (sixteen : length ps ≡ 16) (a b c d : ℕ)
    (ha : four_in a ≡ four_from ps 0) (hb : four_in b ≡ four_from ps 4) (hc : four_in c ≡ four_from ps 8) (hd : four_in d ≡ four_from ps 12) where
  abbrev listed : List ℕ
  listed = sets s PROCESSORS (a ∷ b ∷ c ∷ d ∷ [])

  there : (j : ℕ) → j < 4 → word listed (PROCESSORS + j) ≡ get_or (a ∷ b ∷ c ∷ d ∷ []) j 0
  there j h = sets_at s PROCESSORS (a ∷ b ∷ c ∷ d ∷ []) j (omega arith) (omega arith)

  firsts : Outside PROCESSORS (PROCESSORS + 4) s listed
  firsts = outside_sets s PROCESSORS (a ∷ b ∷ c ∷ d ∷ []) (omega arith) (omega arith)

  placed : config_at listed ≡ with_processors (config_at s) ps
  placed =
      config_is (ap (λ v. v % 2 ^ 32) (firsts.before LPI_LIMIT (omega arith))) (ap (λ v. v % 2 ^ 32) (firsts.before COMMAND_BUDGET (omega arith)))
      (ap (λ v. v % 2 ^ 32) (firsts.before FRAME_SIZE (omega arith))) (ap (λ v. v % 2 ^ 32) (firsts.before PROFILE (omega arith)))
      (ap (λ v. v % 2 ^ 8) (firsts.before PROCESSOR_COUNT (omega arith)))
      (joined (ap four_in (there 0 (omega arith)) ∙ ha) (ap four_in (there 1 (omega arith)) ∙ hb) (ap four_in (there 2 (omega arith)) ∙ hc) (ap four_in (there 3 (omega arith)) ∙ hd)
      ∙ rows_list 16 (λ j. get_or ps j none) ps none sixteen (λ j l. refl))

  configured : laid_out s ≡ true → config_in listed ≡ with_processors (config_in s) ps
  unfolding config_in
  configured y = rw (firsts.before LAYOUT (omega arith), y) placed

  pub processors_put : laid_out s ≡ true → unit_in listed ≡ with_config (unit_in s) (with_processors (config_in s) ps)
  processors_put y = config_changed (outside_sets s PROCESSORS (a ∷ b ∷ c ∷ d ∷ []) (omega arith) (omega arith)) (configured y)

-- The whole configuration: the layout's number, five more, and then the processors.
module _ (k : ItsConfig) (s : List ℕ) (long : length s ≡ NUMBERS) (a : k.lpi_limit < 2 ^ 32) (b : k.command_budget < 2 ^ 32) (c : k.frame_size < 2 ^ 32)
    (p : k.profile < 2 ^ 32) (d : k.processor_count < 2 ^ 8) where
  abbrev six : List ℕ
  six = LAYOUT_NUMBER ∷ k.lpi_limit ∷ k.command_budget ∷ k.frame_size ∷ k.profile ∷ k.processor_count ∷ []

  abbrev begun : List ℕ
  begun = sets s LAYOUT six

  sixth : (j : ℕ) → j < 6 → word begun (LAYOUT + j) ≡ get_or six j 0
  sixth j h = sets_at s LAYOUT six j (omega arith) (omega arith)

  pub begins : laid_out begun ≡ true
  begins = rw (sixth 0 (omega arith))

  numbered : with_processors (config_in begun) k.processors ≡ k
  unfolding config_in
  numbered =
      let x : k.lpi_limit % 2 ^ 32 ≡ k.lpi_limit = omega arith in
      let y : k.command_budget % 2 ^ 32 ≡ k.command_budget = omega arith in
      let z : k.frame_size % 2 ^ 32 ≡ k.frame_size = omega arith in
      let w : k.profile % 2 ^ 32 ≡ k.profile = omega arith in
      let v : k.processor_count % 2 ^ 8 ≡ k.processor_count = omega arith in
      rw begins
      (config_is (ap (λ n. n % 2 ^ 32) (sixth 1 (omega arith)) ∙ x) (ap (λ n. n % 2 ^ 32) (sixth 2 (omega arith)) ∙ y)
      (ap (λ n. n % 2 ^ 32) (sixth 3 (omega arith)) ∙ z) (ap (λ n. n % 2 ^ 32) (sixth 4 (omega arith)) ∙ w) (ap (λ n. n % 2 ^ 8) (sixth 5 (omega arith)) ∙ v) refl)

  pub config_put : (t : List ℕ) → unit_in t ≡ with_config (unit_in begun) (with_processors (config_in begun) k.processors) → unit_in t ≡ with_config (unit_in s) k
  config_put t e =
      e ∙ (ap (with_config (unit_in begun)) numbered
      ∙ ap (λ u. with_config u k) (config_changed (outside_sets s LAYOUT six (omega arith) (omega arith)) refl))
