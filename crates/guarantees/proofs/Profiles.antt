-- A base unit is document 01's, and where the profiles agree both answer alike (model: Profiles, Alike).
-- Assumes nothing.
use Prim.Native.Nat.{ℕ}
use mathlib.Core.Path.{◌≡◌, refl, sym, ap, subst, ◌∙◌}
use mathlib.Core.Bool.{false}
use mathlib.Core.List.{List, [], ◌∷◌, map}
use Rattle.model.specs.declared.ItsConfig.{ItsConfig}
use Rattle.model.specs.declared.ItsState.{ItsState}
use Rattle.model.specs.declared.Configured.{Configured}
use Rattle.model.specs.declared.Command.{Command}
use Rattle.model.specs.With.{with_profile}
use Rattle.model.specs.Profile.{strict, profile_of}
use Rattle.model.specs.Refusal.{verdict_number}
use Rattle.model.specs.Queue.{Window}
use Rattle.model.specs.Entry.{configure}
use Rattle.model.specs.In01.{configure_in01}
use Rattle.model.specs.Common.{in_profile, CommonWrite}
use Rattle.model.specs.Trace.{Record, CF, GM, RD, WR, TR, lent_row, write_of, lines_of}
use Rattle.model.proofs.Cases.{cases}
use Rattle.model.proofs.Profiles.{is_strict_lem, base_reads, base_translates, base_writes, base_configures}
use Rattle.model.proofs.Registers.{strict_stores, strict_runs, strict_reads, strict_translates}
use Rattle.model.proofs.Alike.{same_reads, same_translates, same_writes, same_made, same_verdict, same_fresh, fresh_base}
use Rattle.its.specs.Promises.{Configures, Writes}
use Rattle.host.specs.Calls.{Tells, numbers_of_read, numbers_of_write, numbers_of_translation, action_in, setting, none_further, config_given, numbers_of_verdict, CallConfigures, CallWrites}
use Rattle.guarantees.specs.MappingsInForce.{Led}
use Rattle.guarantees.specs.Alike.{standing}
use Rattle.guarantees.specs.Profiles.{lines_in01, InBase, As01, StrictAs01, LedAlike, both_begin, both_write, AnswerAlike}
use Rattle.guarantees.proofs.Alike.{told_alike, answer_alike}
use Rattle.guarantees.proofs.Follows.{commands_follow}
use Rattle.guarantees.proofs.InForce.{mappings_in_force}
use Rattle.guarantees.proofs.AsWrites.{call_writes}
use Rattle.guarantees.proofs.ByCalls.{accepted}
use Rattle.guarantees.proofs.Stalled.{fresh_clear, base_bit}

-- A BASE UNIT.
module _ (u : ItsState) (b : u.config.profile ≡ 0) where
  pub lines_as_01 : (w : Window) (r : Record) → InBase r → lines_of (standing u w) r ≡ lines_in01 (standing u w) r
  unfolding write_of
  lines_as_01 w (CF k) c = rw (base_configures k c)
  lines_as_01 w (GM v) c = refl
  lines_as_01 w (RD offset width) c = rw (base_reads u b offset width)
  lines_as_01 w (WR offset width value) c = rw (base_writes u b w lent_row offset width value)
  lines_as_01 w (TR d e) c = rw (base_translates u b d e)

  pub base_as_01 : As01 u
  base_as_01 =
      record {
        reads = λ offset width r e. e.answer ∙ base_reads u b offset width;
        translates = λ d e r q. q.answer ∙ base_translates u b d e;
        writes = λ w row offset width value r left e.
            let same = base_writes u b w row offset width value in
            (e.answer ∙ ap (λ o. o.written) same, e.row_is ∙ ap (λ o. o.row) same);
        stays_base = λ w row offset width value r left e. ap (λ k. k.profile) (commands_follow w row u offset width value r left e).config ∙ b;
        call_reads = λ offset width r told c. subst (λ a. Tells (numbers_of_read a) r told) (base_reads u b offset width) c;
        call_translates = λ device event r told c.
            subst (λ a. Tells (numbers_of_translation a) r told) (base_translates u b (record { 0 = device }) (record { 0 = event })) c;
        call_writes = λ w row offset width value left after r told c.
            let same = base_writes u b w (map action_in row) offset width value in (
              c.unit ∙ ap (λ o. o.written.unit) same,
              c.row_reads ∙ ap (λ o. o.row) same,
              subst (λ o. Tells (numbers_of_write o.written.answer) r told) same c.told,
            );
        records = lines_as_01;
      }

-- A STRICT UNIT.
pub strict_as_01 : (u : ItsState) → profile_of u.config ≡ strict → StrictAs01 u
strict_as_01 u s =
    let y = is_strict_lem u.config s in
    record {
      stores_as = λ row offset width value. strict_stores u y offset width value row;
      runs_while = strict_runs u y;
      reads = λ offset width r e out. e.answer ∙ strict_reads u y offset width out;
      translates = λ d e r q. q.answer ∙ strict_translates u y d e;
    }

-- over whole runs: the configuration never changes
pub base_led : {k : ItsConfig} {u : ItsState} {h : List Command} → k.profile ≡ 0 → Led k u h → As01 u
base_led {u = u} b l = base_as_01 u (ap (λ c. c.profile) (mappings_in_force l).config ∙ b)

pub base_configured : (k : ItsConfig) → k.profile ≡ 0 → (c : Configured) → Configures k c → c ≡ configure_in01 k
base_configured k b c e = e.answer ∙ base_configures k b

-- BOTH PROFILES.

pub alike : (u : ItsState) → u.config.profile ≡ 0 → u.registers.stalled ≡ false → AnswerAlike u (in_profile 1 u)
alike u b clear = answer_alike (in_profile 1) _ u (same_reads u b clear) (same_translates u b clear) (same_writes u b clear) (same_made u b clear)

led_alike : {k : ItsConfig} {u v : ItsState} → LedAlike k u v → (v ≡ in_profile 1 u) × (u.config.profile ≡ 0) × (u.registers.stalled ≡ false)
led_alike {k} (both_begin c c' e e' a) =
    let fresh = same_fresh k (ap (λ z. z.verdict) (sym e.answer) ∙ a) in (
      ap (λ z. z.unit) e'.answer ∙ (fresh ∙ ap (λ z. in_profile 1 z.unit) (sym e.answer)),
      ap (λ z. z.unit.config.profile) e.answer ∙ fresh_base k (ap (λ z. z.verdict) (sym e.answer) ∙ a),
      ap (λ z. z.unit.registers.stalled) e.answer ∙ fresh_clear (with_profile k 0),
    )
led_alike (both_write {u = u} {v = v} l w row offset width value c r r' left left' e e') =
    let (same, b, clear) = led_alike l in
    let e'' : Writes w row (in_profile 1 u) offset width value r' left' = subst (λ x. Writes w row x offset width value r' left') same e' in (
      ap (λ x. x.unit) ((alike u b clear).writes w row offset width value c r r' left left' e e'').0,
      (base_as_01 u b).stays_base w row offset width value r left e,
      base_bit w row u offset width value r left e (rw b) ∙ clear,
    )

pub profiles_alike : {k : ItsConfig} {u v : ItsState} → LedAlike k u v → AnswerAlike u v
profiles_alike {u = u} l =
    let (same, b, clear) = led_alike l in
    subst (AnswerAlike u) (sym same) (alike u b clear)

pub verdicts_alike : (k : ItsConfig) (c c' : Configured) → Configures (with_profile k 0) c → Configures (with_profile k 1) c' → c'.verdict ≡ c.verdict
verdicts_alike k c c' e e' = ap (λ z. z.verdict) e'.answer ∙ (same_verdict k ∙ ap (λ z. z.verdict) (sym e.answer))

-- THE CALL THAT CONFIGURES.

given_base : (ss ps : List ℕ) → setting ss 3 ≡ 0 → (config_given ss ps).profile ≡ 0
given_base ss ps b = cases (none_further ss) (λ y. rw y b) (λ n. rw n)

pub base_call_configured : (ss ps : List ℕ) → setting ss 3 ≡ 0 → (u : ItsState) (r : ℕ) (told : List ℕ) → CallConfigures ss ps u r told →
    (u ≡ (configure_in01 (config_given ss ps)).unit) × Tells (numbers_of_verdict (configure_in01 (config_given ss ps))) r told
base_call_configured ss ps b u r told c =
    let same = base_configures (config_given ss ps) (given_base ss ps b) in
    (c.0 ∙ ap (λ z. z.unit) same, subst (λ z. Tells (numbers_of_verdict z) r told) same c.1)

-- in both profiles
pub calls_begin : (limit budget frame : ℕ) (ps : List ℕ) (u v : ItsState) (r r' : ℕ) (told told' : List ℕ) →
    CallConfigures (limit ∷ budget ∷ frame ∷ 0 ∷ []) ps u r told → CallConfigures (limit ∷ budget ∷ frame ∷ 1 ∷ []) ps v r' told' →
    (r' ≡ r) × (told' ≡ told) × (r ≡ 0 → LedAlike (config_given (limit ∷ budget ∷ frame ∷ []) ps) u v)
unfolding none_further
calls_begin limit budget frame ps u v r r' told told' c c' =
    let k = config_given (limit ∷ budget ∷ frame ∷ []) ps in
    let t = told_alike (numbers_of_verdict (configure (with_profile k 0))) (numbers_of_verdict (configure (with_profile k 1)))
    (ap (λ z. verdict_number z ∷ 0 ∷ 0 ∷ 0 ∷ 0 ∷ []) (same_verdict k)) r r' told told' c.1 c'.1 in (
      t.0,
      t.1,
      λ z. subst (λ x. LedAlike k x v) (sym c.0) (subst (λ x. LedAlike k (configure (with_profile k 0)).unit x) (sym c'.0)
          (both_begin (configure (with_profile k 0)) (configure (with_profile k 1)) (record { answer = refl; numbers = refl }) (record { answer = refl; numbers = refl })
          (accepted (with_profile k 0) (sym c.1.1 ∙ z)))),
    )

pub calls_go_on : {k : ItsConfig} {u v : ItsState} → LedAlike k u v → (w : Window) (row : List ℕ) (offset width value : ℕ) →
    CommonWrite w (map action_in row) u offset width value → (left left' : ItsState) (after after' : List ℕ) (r r' : ℕ) (told told' : List ℕ) →
    CallWrites w row u offset width value left after r told → CallWrites w row v offset width value left' after' r' told' → LedAlike k left left'
calls_go_on {u = u} {v = v} l w row offset width value c left left' after after' r r' told told' x x' =
    let (a, (y, t)) = call_writes w row u offset width value left after r told x in
    let (a', (y', t')) = call_writes w row v offset width value left' after' r' told' x' in
    both_write l w (map action_in row) offset width value c (record { unit = left; answer = a }) (record { unit = left'; answer = a' }) (map action_in after) (map action_in after') y y'
