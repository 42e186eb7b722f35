-- A queue that is held runs nothing; a profile or a setting that there is not is refused; and numbers of another layout are a unit that answers 1.
-- Assumes nothing.
use Rattle.std.specs.Prelude.{Err}
use Prim.Native.Nat.{ℕ, zero, suc, ◌+◌, ◌≤◌, ◌<◌}
use native.Mathlib.Omega.{arith}
use mathlib.Core.Path.{◌≡◌, refl, sym, ap, ◌∙◌}
use mathlib.Core.Bool.{true, false}
use mathlib.Core.List.{List, [], ◌∷◌}
use lib.ListN.{get_or, drop}
use lib.Seq.{get_or-drop}
use lib.Dec.{eqb}
use borrow.Author.Tests.{ne_eqb, eqb-true}
use Rattle.model.specs.declared.ItsConfig.{ItsConfig}
use Rattle.model.specs.declared.ItsState.{ItsState}
use Rattle.model.specs.declared.ItsAction.{ItsAction}
use Rattle.model.specs.declared.RegisterWrite.{RegisterWrite}
use Rattle.model.specs.declared.Refusal.TheVariants.{Unsound}
use Rattle.model.specs.declared.Configured.{Configured}
use Rattle.model.specs.declared.Written.{Written}
use Rattle.model.specs.Arm.{◌of◌, CBASER_Valid}
use Rattle.model.specs.Profile.{strict, profile_of}
use Rattle.model.specs.Config.{no_config, sizes_in01, sound_config, sound_unit}
use Rattle.model.specs.Queue.{Window, held, may_run}
use Rattle.model.specs.Refusal.{verdict_number}
use Rattle.model.specs.Entry.{Outcome, configure, stores}
use Rattle.model.specs.Writing.{then_runs}
use Rattle.model.proofs.Cases.{cases, never, and_left, and_right}
use Rattle.model.proofs.Profiles.{is_strict_lem, held_may}
use Rattle.model.proofs.Ways.{Way, checked, no_base, no_writer, quiet, based, off, over, ran, way}
use Rattle.its.specs.Promises.{Configures, Writes}
use Rattle.lent_tables.specs.Numbers.{LAYOUT, LAYOUT_NUMBER, word, laid_out, config_in, unit_in}
use Rattle.host.specs.Calls.{setting, SETTINGS, all_zero, none_further, config_given, CallConfigures}
use Rattle.guarantees.specs.Refusals.{AnswersOne}
use Rattle.guarantees.specs.Profiles.{OnlyStores}
use Rattle.guarantees.proofs.Unsound.{unsound_answers_1}
use Rattle.guarantees.proofs.NotConfigured.{not_configured}

module _ (w : Window) (row : List ItsAction) (u : ItsState) (offset width value : ℕ) where
  -- a write with a new base lets no queue run
  pub base_quiet : {s : RegisterWrite} {o : Outcome} → Way w row u offset width value s o → s.rebased ≡ true → then_runs s ≡ false
  base_quiet (checked why c) b = refl
  base_quiet (no_base sound) b = refl
  base_quiet (no_writer sound at) b = refl
  base_quiet (quiet s g) b = refl
  base_quiet (based s c k z) b = refl
  base_quiet (off s g out) b = never true refl (sym b)
  base_quiet (over s g on more) b = never true refl (sym b)
  base_quiet (ran s g on within) b = never true refl (sym b)

  pub held_by_way : {s : RegisterWrite} {o : Outcome} → Way w row u offset width value s o → then_runs s ≡ true → held u.config s.registers ≡ true → OnlyStores row u s o.written o.row
  held_by_way (checked why c) runs h = never true refl (sym runs)
  held_by_way (no_base sound) runs h = never true refl (sym runs)
  held_by_way (no_writer sound at) runs h = never true refl (sym runs)
  held_by_way (quiet s g) runs h = never true refl (sym runs)
  held_by_way (based s c k z) runs h = never true refl (sym runs)
  held_by_way (off s g out) runs h = (refl, refl)
  held_by_way (over s g on more) runs h = never (may_run u.config s) on (held_may u.config s h)
  held_by_way (ran s g on within) runs h = never (may_run u.config s) on (held_may u.config s h)

  pub held_stores : (r : Written) (left : List ItsAction) → Writes w row u offset width value r left → profile_of u.config ≡ strict → then_runs (stores row u offset width value) ≡ true →
      CBASER_Valid of (stores row u offset width value).registers.cbaser ≡ 0 → OnlyStores row u (stores row u offset width value) r left
  unfolding held
  held_stores r left e s runs clear =
      rw (e.answer, e.row_is) (held_by_way (way w row u offset width value) runs (rw (is_strict_lem u.config s, clear) refl))

-- a profile that there is not
pub no_such_profile : (k : ItsConfig) (c : Configured) → Configures k c → 1 < k.profile → c.verdict ≡ Err Unsound
no_such_profile k c e above = ap (λ z. z.verdict) e.answer ∙ not_configured k above

-- what is not configured is told with 1
told_1 : (k : ItsConfig) → (configure k).verdict ≡ Err Unsound → verdict_number (configure k).verdict ≡ 1
told_1 k n = ap verdict_number n

none_verdict : (configure no_config).verdict ≡ Err Unsound
unfolding configure sound_config sizes_in01
none_verdict = refl

pub call_no_such_profile : (ss ps : List ℕ) (u : ItsState) (r : ℕ) (told : List ℕ) → CallConfigures ss ps u r told → 1 < setting ss 3 → r ≡ 1
call_no_such_profile ss ps u r told c above =
    c.1.1
    ∙ told_1 (config_given ss ps)
    (cases (none_further ss) (λ y. rw y (not_configured _ above)) (λ n. rw n none_verdict))

-- of a row that is all zeros each number is 0
zero_at : (l : List ℕ) → all_zero l ≡ true → (i : ℕ) → get_or l i 0 ≡ 0
zero_at [] z i = refl
zero_at (n ∷ l) z zero = eqb-true n 0 (and_left (eqb n 0) (all_zero l) z)
zero_at (n ∷ l) z (suc i) = zero_at l (and_right (eqb n 0) (all_zero l) z) i

pub call_no_such_setting : (ss ps : List ℕ) (u : ItsState) (r : ℕ) (told : List ℕ) → CallConfigures ss ps u r told → (i : ℕ) → (setting ss (SETTINGS + i) ≡ 0 → ⊥) → r ≡ 1
unfolding none_further
call_no_such_setting ss ps u r told c i not_zero =
    c.1.1
    ∙ told_1 (config_given ss ps)
    (cases (none_further ss) (λ y. absurd (not_zero (sym (get_or-drop SETTINGS ss i 0) ∙ zero_at (drop SETTINGS ss) y i))) (λ n. rw n none_verdict))

-- numbers of another layout
not_sound : (s : List ℕ) → laid_out s ≡ false → sound_unit (unit_in s) ≡ false
unfolding config_in sizes_in01 sound_config
not_sound s n = rw n

pub another_layout : (s : List ℕ) → (word s LAYOUT ≡ LAYOUT_NUMBER → ⊥) → AnswersOne (unit_in s)
another_layout s n = unsound_answers_1 (unit_in s) (not_sound s (ne_eqb (word s LAYOUT) LAYOUT_NUMBER n))

pub layout_before : (s : List ℕ) → 8192 ≤ word s LAYOUT → AnswersOne (unit_in s)
layout_before s high = another_layout s (λ e. omega (arith, high, e))

pub layout_1 : (s : List ℕ) → word s LAYOUT ≡ 1 → AnswersOne (unit_in s)
layout_1 s one = another_layout s (λ e. omega (arith, one, e))
