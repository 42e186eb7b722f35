-- Whole traces, record by record: those of base are 01's, and where the profiles agree both have the same lines. Then of its_trace.
-- Assumes nothing.
use Rattle.std.specs.Prelude.{Err, Ok}
use Prim.Native.Nat.{ℕ, zero, suc, ◌+◌}
use mathlib.Core.Path.{◌≡◌, refl, sym, ap, ap₂, ◌∙◌}
use mathlib.Core.Bool.{true, false}
use mathlib.Core.List.{List, [], ◌∷◌, ◌++◌, map, append_assoc}
use lib.ListN.{length, drop}
use mathlib.Core.Logic.{◌⊎◌, inl, inr}
use Rattle.model.specs.declared.ItsConfig.{ItsConfig}
use Rattle.model.specs.declared.ItsState.{ItsState}
use Rattle.model.specs.Answer.{Verdict}
use Rattle.model.specs.With.{with_profile}
use Rattle.model.specs.Refusal.{verdict_number}
use Rattle.model.specs.Config.{sound_config, answers_no_unit}
use Rattle.model.specs.Queue.{Window}
use Rattle.model.specs.Entry.{configure}
use Rattle.model.specs.Common.{in_profile}
use Rattle.model.specs.Trace.{Record, CF, GM, RD, WR, TR, Parsed, whole, broken, parse, Running, at_start, line, lent_row, write_of, next, lines_of, go_on_with, lines_from, trace_lines, output_with, returned_with, output_after, returned}
use Rattle.model.proofs.Cases.{cases, never}
use Rattle.model.proofs.Profiles.{base_configures, base_writes}
use Rattle.model.proofs.Alike.{same_writes, same_verdict, same_fresh}
use Rattle.guarantees.specs.Profiles.{InBase, CommonRecord}
use Rattle.trace.specs.Traced.{Traced}
use Rattle.guarantees.specs.Traces.{read_on, records_from, read_as, records_in, lines_after, next_in01, lines_after_in01, trace_lines_in01, AllInBase, CommonAlong, in_strict, SameInStrict}
use Rattle.guarantees.proofs.Follows.{commands_follow}
use Rattle.guarantees.proofs.Stalled.{fresh_clear, base_bit}
use Rattle.guarantees.proofs.Profiles.{lines_as_01, alike}

-- In base.

-- a configuration of base, accepted or refused, leaves a base unit
configured_base : (k : ItsConfig) → k.profile ≡ 0 → (configure k).unit.config.profile ≡ 0
unfolding configure
configured_base k b = cases (sound_config k) (λ y. rw y b) (λ n. rw n)

-- and so does a record
stays_base : (s : Running) → s.unit.config.profile ≡ 0 → (r : Record) → InBase r → (next s r).unit.config.profile ≡ 0
unfolding write_of
stays_base s b (CF k) c = configured_base k c
stays_base s b (GM w) c = b
stays_base s b (RD offset width) c = b
stays_base s b (WR offset width value) c =
    ap (λ k. k.profile) (commands_follow s.window lent_row s.unit offset width value _ _ (record { answer = refl; row_is = refl; numbers = refl })).config ∙ b
stays_base s b (TR d e) c = b

next_as_01 : (s : Running) → s.unit.config.profile ≡ 0 → (r : Record) → InBase r → next s r ≡ next_in01 s r
unfolding write_of
next_as_01 s b (CF k) c = rw (base_configures k c)
next_as_01 s b (GM w) c = refl
next_as_01 s b (RD offset width) c = refl
next_as_01 s b (WR offset width value) c = rw (base_writes s.unit b s.window lent_row offset width value)
next_as_01 s b (TR d e) c = refl

base_records : (s : Running) → s.unit.config.profile ≡ 0 → (rs : List Record) → AllInBase rs → lines_after s rs ≡ lines_after_in01 s rs
base_records s b [] c = refl
base_records s b (r ∷ rs) c =
    ap₂ ◌++◌ (lines_as_01 s.unit b s.window r c.0)
    (base_records (next s r) (stays_base s b r c.0) rs c.1 ∙ ap (λ t. lines_after_in01 t rs) (next_as_01 s b r c.0))

-- a base unit that is not stalled
abbrev Clear : ItsState → Type 0
Clear u = (u.config.profile ≡ 0) × (u.registers.stalled ≡ false)

-- In both: the strict run t beside the base run s has the same unit, or that unit in strict.
abbrev Beside : Running → Running → Type 0
Beside s t = (t.window ≡ s.window) × ((t.unit ≡ s.unit) ⊎ (Clear s.unit × (t.unit ≡ in_profile 1 s.unit)))

is_base : (k : ItsConfig) → k.profile ≡ 0 → k ≡ with_profile k 0
is_base k b = ap (with_profile k) b

-- a refused configuration gives no unit
none_refused : (k : ItsConfig) (why : _) → (configure k).verdict ≡ Err why → (configure k).unit ≡ answers_no_unit
unfolding configure
none_refused k why a = cases (sound_config k) (λ y. let z : ◌≡◌ {A = Verdict} (Ok tt) (Err why) = rw y at a in never true refl (cc)) (λ n. rw n)

-- a configuration: both are accepted, and the units are alike, or both are refused, and there is no unit
both_configured : (k : ItsConfig) → k.profile ≡ 0 → (w w' : Window) → w' ≡ w →
    Beside (record { unit = (configure k).unit; window = w }) (record { unit = (configure (with_profile k 1)).unit; window = w' })
both_configured k b w w' e = (e, by_verdict (configure (with_profile k 0)).verdict refl)
  where
    by_verdict : (v : Verdict) → (configure (with_profile k 0)).verdict ≡ v →
        ((configure (with_profile k 1)).unit ≡ (configure k).unit) ⊎ (Clear (configure k).unit × ((configure (with_profile k 1)).unit ≡ in_profile 1 (configure k).unit))
    by_verdict (Ok _) a = inr ((configured_base k b, fresh_clear k), same_fresh k a ∙ ap (λ z. in_profile 1 (configure z).unit) (sym (is_base k b)))
    by_verdict (Err why) a =
        inl (none_refused (with_profile k 1) why (same_verdict k ∙ a) ∙ sym (none_refused k why (ap (λ z. (configure z).verdict) (is_base k b) ∙ a)))

-- base never writes Stalled
stays_clear : (s : Running) → Clear s.unit → (offset width value : ℕ) → (write_of s offset width value).written.unit.registers.stalled ≡ false
unfolding write_of
stays_clear s b offset width value =
    base_bit s.window lent_row s.unit offset width value _ _ (record { answer = refl; row_is = refl; numbers = refl }) (rw b.0) ∙ b.1

same_next : (s : Running) (v : ItsState) → v ≡ s.unit → (r : Record) → InBase r → (t : Window) → t ≡ s.window →
    (lines_of (record { unit = v; window = t }) (in_strict r) ≡ lines_of s r) × Beside (next s r) (next (record { unit = v; window = t }) (in_strict r))
same_next s v e (CF k) c t x = (ap (λ z. line "CF" (verdict_number z ∷ []) ∷ []) (same_verdict k ∙ ap (λ z. (configure z).verdict) (sym (is_base k c))), both_configured k c s.window t x)
same_next s v e (GM w) c t x = (refl, (refl, inl e))
same_next s v e (RD offset width) c t x = (rw e, (x, inl e))
same_next s v e (WR offset width value) c t x = (rw (e, x), (x, inl (rw (e, x))))
same_next s v e (TR d y) c t x = (rw e, (x, inl e))

strict_next : (s : Running) → Clear s.unit → (v : ItsState) → v ≡ in_profile 1 s.unit → (r : Record) → InBase r → CommonRecord s r → (t : Window) → t ≡ s.window →
    (lines_of (record { unit = v; window = t }) (in_strict r) ≡ lines_of s r) × Beside (next s r) (next (record { unit = v; window = t }) (in_strict r))
unfolding write_of
strict_next s b v e (CF k) c d t x = (ap (λ z. line "CF" (verdict_number z ∷ []) ∷ []) (same_verdict k ∙ ap (λ z. (configure z).verdict) (sym (is_base k c))), both_configured k c s.window t x)
strict_next s b v e (GM w) c d t x = (refl, (refl, inr (b, e)))
strict_next s b v e (RD offset width) c d t x = (rw e ((alike s.unit b.0 b.1).records s.window (RD offset width) d), (x, inr (b, e)))
strict_next s b v e (WR offset width value) c d t x = (
  rw (e, x) ((alike s.unit b.0 b.1).records s.window (WR offset width value) d),
  (
    x,
    inr (
      (stays_base s b.0 (WR offset width value) c, stays_clear s b offset width value),
      rw (e, x) (ap (λ o. o.written.unit) (same_writes s.unit b.0 b.1 s.window lent_row offset width value d)),
    ),
  ),
)
strict_next s b v e (TR y z) c d t x = (rw e ((alike s.unit b.0 b.1).records s.window (TR y z) d), (x, inr (b, e)))

traces_beside : (s t : Running) → Beside s t → (rs : List Record) → AllInBase rs → CommonAlong s rs → lines_after t (map in_strict rs) ≡ lines_after s rs
traces_beside s t b [] c d = refl
traces_beside s t (w, inl e) (r ∷ rs) c d =
    let (lines, beside) = same_next s t.unit e r c.0 t.window w in
    ap₂ ◌++◌ lines (traces_beside (next s r) (next t (in_strict r)) beside rs c.1 d.1)
traces_beside s t (w, inr (b, e)) (r ∷ rs) c d =
    let (lines, beside) = strict_next s b t.unit e r c.0 d.0 t.window w in
    ap₂ ◌++◌ lines (traces_beside (next s r) (next t (in_strict r)) beside rs c.1 d.1)

-- THE LINES OF A TRACE are those of its records, and that of a broken one.
from_records : (k at : ℕ) (s : Running) (l : List ℕ) → lines_from k at s l ≡ lines_after s (records_from k at l).records ++ (records_from k at l).ending
from_records zero at s l = refl
from_records (suc k) at s [] = refl
from_records (suc k) at s (b ∷ l) = go (λ n t. from_records k (at + n) t (drop n (b ∷ l))) (parse (b ∷ l))
  where
    go : ((n : ℕ) (t : Running) →
        lines_from k (at + n) t (drop n (b ∷ l)) ≡ lines_after t (records_from k (at + n) (drop n (b ∷ l))).records ++ (records_from k (at + n) (drop n (b ∷ l))).ending) →
        (p : Parsed) →
        go_on_with p at (λ r n. lines_of s r ++ lines_from k (at + n) (next s r) (drop n (b ∷ l)))
        ≡ lines_after s (read_on p at (λ n. records_from k (at + n) (drop n (b ∷ l)))).records ++ (read_on p at (λ n. records_from k (at + n) (drop n (b ∷ l)))).ending
    go rest broken = refl
    go rest (whole r n) =
        ap (λ ls. lines_of s r ++ ls) (rest n (next s r))
        ∙ sym (append_assoc (lines_of s r) (lines_after (next s r) (records_from k (at + n) (drop n (b ∷ l))).records) (records_from k (at + n) (drop n (b ∷ l))).ending)

pub by_records : (trace : List ℕ) → trace_lines trace ≡ lines_after at_start (records_in trace) ++ (read_as trace).ending
unfolding trace_lines
by_records trace = from_records (length trace) 0 at_start trace

-- its_trace: what it returns and writes is that of the lines
pub base_traces : (trace out : List ℕ) (r : ℕ) (left : List ℕ) → Traced trace out r left → AllInBase (records_in trace) →
    (r ≡ returned_with (trace_lines_in01 trace) out) × (left ≡ output_with (trace_lines_in01 trace) out)
unfolding returned output_after
base_traces trace out r left t c =
    let same : trace_lines trace ≡ trace_lines_in01 trace = by_records trace ∙ ap (λ ls. ls ++ (read_as trace).ending) (base_records at_start refl (records_in trace) c) in
    (t.0 ∙ ap (λ ls. returned_with ls out) same, t.1 ∙ ap (λ ls. output_with ls out) same)

pub traces_alike : (trace trace' out : List ℕ) (r r' : ℕ) (left left' : List ℕ) → Traced trace out r left → Traced trace' out r' left' →
    SameInStrict trace trace' → AllInBase (records_in trace) → CommonAlong at_start (records_in trace) → (r' ≡ r) × (left' ≡ left)
unfolding returned output_after
traces_alike trace trace' out r r' left left' t t' (rs, end) c d =
    let strictly : lines_after at_start (records_in trace') ≡ lines_after at_start (records_in trace) =
    ap (lines_after at_start) rs ∙ traces_beside at_start at_start (refl, inl refl) (records_in trace) c d in
    let same : trace_lines trace' ≡ trace_lines trace = by_records trace' ∙ (ap₂ ◌++◌ strictly end ∙ sym (by_records trace)) in
    (t'.0 ∙ (ap (λ ls. returned_with ls out) same ∙ sym t.0), t'.1 ∙ (ap (λ ls. output_with ls out) same ∙ sym t.1))
