-- Document 02, A3 and A4, over whole traces: the bytes of a trace read as records, and the lines of these, one record after the other. (That the lines of a trace,
-- model: Trace.trace_lines, are these lines: proofs/Traces.by_records.)
-- Assumes nothing.
use Rattle.std.specs.Prelude.{ℕ, zero, suc, ◌+◌, ◌≡◌, List, [], ◌∷◌, ◌++◌, map, length, drop}
use Rattle.model.specs.With.{with_profile}
use Rattle.model.specs.In01.{configure_in01, write_in01}
use Rattle.model.specs.Trace.{Record, CF, GM, RD, WR, TR, Parsed, whole, broken, parse, Running, at_start, line, lent_row, next, lines_of}
use Rattle.guarantees.specs.Profiles.{lines_in01, InBase, CommonRecord}

-- What the bytes are read as: the records before a broken one, and the line of that one, if there is one.
pub record Records : Type 0 where
  pub records : List Record
  pub ending : List (List ℕ)

abbrev pub read_on : Parsed → ℕ → (ℕ → Records) → Records
read_on broken at rest = record { records = []; ending = line "??" (at ∷ []) ∷ [] }
read_on (whole r n) at rest = record { records = r ∷ (rest n).records; ending = (rest n).ending }

-- the bytes l, which stand at the offset `at` of the trace; there are at most as many records as bytes
abbrev pub records_from : ℕ → ℕ → List ℕ → Records
records_from zero at l = record { records = []; ending = [] }
records_from (suc k) at [] = record { records = []; ending = [] }
records_from (suc k) at (b ∷ l) = read_on (parse (b ∷ l)) at (λ n. records_from k (at + n) (drop n (b ∷ l)))

abbrev pub read_as : List ℕ → Records
read_as trace = records_from (length trace) 0 trace

abbrev pub records_in : List ℕ → List Record
records_in trace = (read_as trace).records

-- the lines of records, one after the other
abbrev pub lines_after : Running → List Record → List (List ℕ)
lines_after s [] = []
lines_after s (r ∷ rs) = lines_of s r ++ lines_after (next s r) rs

-- the same by 01's unit
abbrev pub next_in01 : Running → Record → Running
next_in01 s (CF k) = record { unit = (configure_in01 k).unit; window = s.window }
next_in01 s (GM w) = record { unit = s.unit; window = w }
next_in01 s (RD offset width) = s
next_in01 s (WR offset width value) = record { unit = (write_in01 s.window lent_row s.unit offset width value).written.unit; window = s.window }
next_in01 s (TR d e) = s

abbrev pub lines_after_in01 : Running → List Record → List (List ℕ)
lines_after_in01 s [] = []
lines_after_in01 s (r ∷ rs) = lines_in01 s r ++ lines_after_in01 (next_in01 s r) rs

-- the lines of a trace by 01's unit
abbrev pub trace_lines_in01 : List ℕ → List (List ℕ)
trace_lines_in01 trace = lines_after_in01 at_start (records_in trace) ++ (read_as trace).ending

-- every configuration is in base
abbrev pub AllInBase : List Record → Type 0
AllInBase [] = Unit {0}
AllInBase (r ∷ rs) = InBase r × AllInBase rs

-- every write, as the base unit meets it, is one on which the profiles agree
abbrev pub CommonAlong : Running → List Record → Type 0
CommonAlong s [] = Unit {0}
CommonAlong s (r ∷ rs) = CommonRecord s r × CommonAlong (next s r) rs

-- the record with its configuration, if it has one, in strict
abbrev pub in_strict : Record → Record
in_strict (CF k) = CF (with_profile k 1)
in_strict (GM w) = GM w
in_strict (RD offset width) = RD offset width
in_strict (WR offset width value) = WR offset width value
in_strict (TR d e) = TR d e

-- the second trace is the first with its configurations in strict: the same records but for that, and the same end
abbrev pub SameInStrict : List ℕ → List ℕ → Type 0
SameInStrict trace trace' = (records_in trace' ≡ map in_strict (records_in trace)) × ((read_as trace').ending ≡ (read_as trace).ending)
