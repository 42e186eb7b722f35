-- Document 01, "The trace": the records, what each does, the lines, and what fits into the output.
-- Assumes nothing.
use Rattle.std.specs.Prelude.{ℕ, zero, suc, ◌+◌, ◌-◌, ◌*◌, ◌/◌, ◌%◌, min, Bool, true, false, ◌&&◌, List, [], ◌∷◌, ◌++◌, map, length, take, drop, get_or, replicate, leb, eqb, if◌then◌else◌}
use Prim.Native.String.{String}
use Rattle.model.specs.declared.ItsDeviceId.{ItsDeviceId}
use Rattle.model.specs.declared.EventId.{EventId}
use Rattle.model.specs.declared.GicVcpuId.{GicVcpuId}
use Rattle.model.specs.declared.ItsConfig.{ItsConfig}
use Rattle.model.specs.declared.ItsState.{ItsState}
use Rattle.model.specs.declared.ItsAction.{ItsAction}
use Rattle.model.specs.declared.Refusal.TheVariants.{LineDoesNotFit}
use Rattle.model.specs.Text.{ascii}
use Rattle.model.specs.Refusal.{number_of, verdict_number, ReadNumbers, read_numbers, TranslateNumbers, translate_numbers, WriteNumbers, write_numbers}
use Rattle.model.specs.Config.{answers_no_unit}
use Rattle.model.specs.Queue.{Window, little_endian}
use Rattle.model.specs.Register.{one_if}
use Rattle.model.specs.With.{a_config}
use Rattle.model.specs.Entry.{configure, read, Outcome, write, translate}

-- The records.
pub data Record : Type 0 where
  CF : ItsConfig → Record
  GM : Window → Record
  RD : ℕ → ℕ → Record
  WR : ℕ → ℕ → ℕ → Record
  TR : ItsDeviceId → EventId → Record

-- what stands at the start of the bytes: a record, and how many bytes it has with its mark; or none
pub data Parsed : Type 0 where
  whole : Record → ℕ → Parsed
  broken : Parsed

-- the number of n bytes at the place i of a record; numbers little-endian
abbrev pub number : ℕ → ℕ → List ℕ → ℕ
number i n l = little_endian n (drop i l)

-- n numbers of 2 bytes, from the place i on
abbrev pub numbers : ℕ → ℕ → List ℕ → List GicVcpuId
numbers i zero l = []
numbers i (suc n) l = record { 0 = number i 2 l } ∷ numbers (i + 2) n l

-- CF: limit 4, budget 4, frame 4, profile 1 (02, A3), count n 1, n numbers of 2 bytes. A configuration has places for 16: of more it holds the first 16
abbrev pub config_read : List ℕ → ItsConfig
config_read l =
    a_config (number 2 4 l) (number 6 4 l) (number 10 4 l) (number 14 1 l) (number 15 1 l)
    (take 16 (numbers 16 (number 15 1 l) l ++ replicate 16 (record { 0 = 0 })))

-- GM: address 8, length 4, bytes
abbrev pub window_in : List ℕ → Window
window_in l = record { address = number 2 8 l; bytes = take (number 10 4 l) (drop 14 l) }

-- a record of n bytes: whole if they are there
abbrev pub sized : ℕ → List ℕ → Record → Parsed
sized n l r = if leb n (length l) then whole r n else broken

-- the two-byte ASCII mark
abbrev pub marked : String → List ℕ → Bool
marked mark l = leb 2 (length l) && (eqb (get_or l 0 0) (get_or (ascii mark) 0 0) && eqb (get_or l 1 0) (get_or (ascii mark) 1 0))

-- a bad mark, a short record and a GM of over 4,096 bytes are broken
unfoldable pub parse : List ℕ → Parsed
parse l =
    if marked "CF" l then (if leb 16 (length l) then sized (16 + 2 * number 15 1 l) l (CF (config_read l)) else broken) else
    if marked "GM" l then (if leb 14 (length l) && leb (number 10 4 l) 4096 then sized (14 + number 10 4 l) l (GM (window_in l)) else broken) else
    if marked "RD" l then sized 11 l (RD (number 2 8 l) (number 10 1 l)) else
    if marked "WR" l then sized 19 l (WR (number 2 8 l) (number 10 1 l) (number 11 8 l)) else
    if marked "TR" l then sized 10 l (TR (record { 0 = number 2 4 l }) (record { 0 = number 6 4 l })) else
    broken

-- The lines: decimal, one space, each ended by a newline.

-- how many digits n has, where it has at most k + 1
abbrev pub digit_count : ℕ → ℕ → ℕ
digit_count zero n = 1
digit_count (suc k) n = if leb 10 n then suc (digit_count k (n / 10)) else 1

-- the last k digits of n
abbrev pub digits : ℕ → ℕ → List ℕ
digits zero n = []
digits (suc k) n = digits k (n / 10) ++ ((get_or (ascii "0") 0 0 + n % 10) ∷ [])

-- a 64-bit number has at most 20 digits
unfoldable pub decimal : ℕ → List ℕ
decimal n = digits (digit_count 20 n) n

-- each number after one space
abbrev pub spaced : List ℕ → List ℕ
spaced [] = []
spaced (n ∷ ns) = (ascii " " ++ decimal n) ++ spaced ns

-- a mark, then the numbers
unfoldable pub line : String → List ℕ → List ℕ
line mark ns = ascii mark ++ (spaced ns ++ ascii "\n")

-- `Ac processor lpi pending` (1, or 0 for clear)
abbrev pub action_line : ItsAction → List ℕ
action_line a = line "AC" (a.target.0 ∷ a.lpi.0 ∷ one_if a.pending ∷ [])

-- `RD refusal value`
abbrev pub read_line : ReadNumbers → List ℕ
read_line n = line "RD" (n.refusal ∷ n.value ∷ [])

-- `WR refusal opcode offset done actions`
abbrev pub write_line : WriteNumbers → List ℕ
write_line n = line "WR" (n.refusal ∷ n.opcode ∷ n.offset ∷ n.done ∷ n.actions ∷ [])

-- `TR refusal lpi processor`
abbrev pub translate_line : TranslateNumbers → List ℕ
translate_line n = line "TR" (n.refusal ∷ n.lpi ∷ n.processor ∷ [])

-- the line WR, with an AC per handed action, whatever its refusal (02, A2)
abbrev pub write_lines : Outcome → List (List ℕ)
write_lines o =
    write_line (write_numbers o.written.answer)
    ∷ map action_line (take (write_numbers o.written.answer).actions o.row)

-- The run.
pub record Running : Type 0 where
  pub unit : ItsState
  pub window : Window

-- until an accepted CF calls answer 1; the first window is empty at address 0
abbrev pub at_start : Running
at_start = record { unit = answers_no_unit; window = record { address = 0; bytes = [] } }

-- the row of 1,024 action records that a write of the trace is lent: its contents before do not show
abbrev pub lent_row : List ItsAction
lent_row = replicate 1024 (record { target = record { 0 = 0 }; lpi = record { 0 = 0 }; pending = false })

-- the write of a WR record
unfoldable pub write_of : Running → ℕ → ℕ → ℕ → Outcome
write_of s offset width value = write s.window lent_row s.unit offset width value

-- what a record leads to: CF starts a fresh unit and keeps the window; GM replaces the window; WR gives the next unit
abbrev pub next : Running → Record → Running
next s (CF k) = record { unit = (configure k).unit; window = s.window }
next s (GM w) = record { unit = s.unit; window = w }
next s (RD offset width) = s
next s (WR offset width value) = record { unit = (write_of s offset width value).written.unit; window = s.window }
next s (TR d e) = s

-- the lines of a record
abbrev pub lines_of : Running → Record → List (List ℕ)
lines_of s (CF k) = line "CF" (verdict_number (configure k).verdict ∷ []) ∷ []
lines_of s (GM w) = line "GM" (0 ∷ []) ∷ []
lines_of s (RD offset width) = read_line (read_numbers (read s.unit offset width)) ∷ []
lines_of s (WR offset width value) = write_lines (write_of s offset width value)
lines_of s (TR d e) = translate_line (translate_numbers (translate s.unit d e)) ∷ []

-- a broken record gives a line `??` and its mark's offset from 0, and ends the run
abbrev pub go_on_with : Parsed → ℕ → (Record → ℕ → List (List ℕ)) → List (List ℕ)
go_on_with broken at rest = line "??" (at ∷ []) ∷ []
go_on_with (whole r n) at rest = rest r n

-- the lines of the bytes l, which stand at the offset `at` of the trace; a record has at least one byte, so there are at most as many
-- records as bytes
abbrev pub lines_from : ℕ → ℕ → Running → List ℕ → List (List ℕ)
lines_from zero at s l = []
lines_from (suc k) at s [] = []
lines_from (suc k) at s (b ∷ l) =
    go_on_with (parse (b ∷ l)) at (λ r n. lines_of s r ++ lines_from k (at + n) (next s r) (drop n (b ∷ l)))

-- the lines of a trace
unfoldable pub trace_lines : List ℕ → List (List ℕ)
trace_lines trace = lines_from (length trace) 0 at_start trace

-- What fits. Line by line: nothing is written after the first line that doesn't fit.
abbrev pub fitting : ℕ → List (List ℕ) → List ℕ
fitting space [] = []
fitting space (l ∷ ls) = if leb (length l) space then l ++ fitting (space - length l) ls else []

-- every line fits
abbrev pub all_fit : ℕ → List (List ℕ) → Bool
all_fit space [] = true
all_fit space (l ∷ ls) = leb (length l) space && all_fit (space - length l) ls

-- The C call uses at most the first 65,536 output bytes
abbrev pub space : List ℕ → ℕ
space out = min (length out) 65536

-- the bytes that it writes of some lines
abbrev pub written_of : List (List ℕ) → List ℕ → List ℕ
written_of lines out = fitting (space out) lines

-- the output afterwards: earlier lines are written, the rest unchanged
abbrev pub output_with : List (List ℕ) → List ℕ → List ℕ
output_with lines out = written_of lines out ++ drop (length (written_of lines out)) out

-- it returns 16 times the bytes written, plus 11 if a line doesn't fit
abbrev pub returned_with : List (List ℕ) → List ℕ → ℕ
returned_with lines out = 16 * length (written_of lines out) + (if all_fit (space out) lines then 0 else number_of LineDoesNotFit)

-- THE C CALL: with the lines of the trace
abbrev pub written_to : List ℕ → List ℕ → List ℕ
written_to trace out = written_of (trace_lines trace) out

unfoldable pub output_after : List ℕ → List ℕ → List ℕ
output_after trace out = output_with (trace_lines trace) out

unfoldable pub returned : List ℕ → List ℕ → ℕ
returned trace out = returned_with (trace_lines trace) out

-- The program `itstrace` reads up to 32,768 bytes (more: prints the line `LONG` only), its output buffer the same size; after an 11 it prints
-- the written lines.
unfoldable pub printed : List ℕ → List ℕ
printed input = if leb (length input) 32768 then fitting 32768 (trace_lines input) else ascii "LONG\n"
