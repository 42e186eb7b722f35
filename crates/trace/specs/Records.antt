-- The run over a trace, taken one record at a time: what stands between two records, and how the model's record moves it on. No sentence of
-- document 01 stands here: proofs/Rest.antt shows that the records add up to the model's run.
-- Assumes nothing.
use Rattle.std.specs.Prelude.{ℕ, ◌+◌, ◌-◌, ◌*◌, ◌≤◌, ◌≡◌, Bool, false, not, ◌&&◌, List, [], ◌∷◌, ltb, length, take, drop, if◌then◌else◌}
use Rattle.model.specs.declared.ItsState.{ItsState}
use Rattle.model.specs.declared.Refusal.TheVariants.{LineDoesNotFit}
use Rattle.model.specs.Config.{answers_no_unit}
use Rattle.model.specs.Refusal.{number_of}
use Rattle.model.specs.Trace.{Record, CF, GM, RD, WR, TR, Parsed, whole, broken, line, Running, next, lines_of}
use Rattle.text.specs.declared.Laid.{Laid}
use Rattle.text.specs.Laying.{Output, output, lay_all}
use Rattle.trace.specs.declared.Mark.{Mark}
use Rattle.trace.specs.declared.Run.{Run}
use Rattle.trace.specs.Marks.{parsed_as}

-- the output's bytes, and the run
pub record Stand : Type 0 where
  pub bytes : List ℕ
  pub run : Run

abbrev pub stand : List ℕ → Run → Stand
stand bytes run = record { bytes = bytes; run = run }

-- the output as it stands
abbrev pub output_of : Stand → Output
output_of s = output s.bytes s.run.laid

-- the unit and the window of the model: the window is a part of the trace
abbrev pub running_of : List ℕ → Run → Running
running_of trace r = record { unit = r.unit; window = record { address = r.address; bytes = take r.size (drop r.from trace) } }

-- the record lies within the trace, and so does the window
pub record Within (trace : List ℕ) (bytes : List ℕ) (r : Run) : Type 0 where
  pub reads : r.at + length bytes ≤ length trace
  pub lent : r.from + r.size ≤ length trace

-- a window: the guest address of its first byte, where it starts in the trace, and its length
pub record Stretch : Type 0 where
  pub address : ℕ
  pub from : ℕ
  pub size : ℕ

-- the window as it stands
abbrev pub stretch_of : Run → Stretch
stretch_of r = record { address = r.address; from = r.from; size = r.size }

-- the window after a record of n bytes: a GM has its address and its length, 14 bytes with its mark, before the window's bytes
abbrev pub stretch_after : Run → ℕ → Record → Stretch
stretch_after r n (CF k) = stretch_of r
stretch_after r n (GM w) = record { address = w.address; from = r.at + 14; size = n - 14 }
stretch_after r n (RD offset width) = stretch_of r
stretch_after r n (WR offset width value) = stretch_of r
stretch_after r n (TR d e) = stretch_of r

-- an output, the place up to which the trace is read, the window and the unit
abbrev pub stand_at : Output → ℕ → Stretch → ItsState → Stand
stand_at o at p u =
    record { bytes = o.bytes; run = record { at = at; laid = o.laid; address = p.address; from = p.from; size = p.size; unit = u } }

-- the trace is read up to a place, and some lines are laid
abbrev pub onward : Stand → ℕ → Stretch → ItsState → List (List ℕ) → Stand
onward s at p u ls = stand_at (lay_all (output_of s) ls) at p u

-- what a record comes to: a broken one is the last, for nothing is left to read
abbrev pub stand_after : List ℕ → Stand → Parsed → Stand
stand_after trace s (whole r n) =
    onward s (s.run.at + n) (stretch_after s.run n r) (next (running_of trace s.run) r).unit (lines_of (running_of trace s.run) r)
stand_after trace s broken =
    onward s (length trace) (stretch_of s.run) s.run.unit (line "??" (s.run.at ∷ []) ∷ [])

-- what carrying out the record after a mark leaves behind it
abbrev pub CarriesRecord : Mark → List ℕ → List ℕ → List ℕ → Run → List ℕ → Run → Type 0
CarriesRecord m trace bytes out run left r = stand left r ≡ stand_after trace (stand out run) (parsed_as m bytes)

-- The start and the end.
abbrev pub run_at_start : Run
run_at_start = record { at = 0; laid = record { at = 0; full = false }; address = 0; from = 0; size = 0; unit = answers_no_unit }

-- there is a record to run, and a line could still be written
abbrev pub goes_on : ℕ → ℕ → Laid → Bool
goes_on at end laid = ltb at end && not laid.full

-- 16 times the bytes written, plus 11 if a line did not fit
abbrev pub number_returned : Laid → ℕ
number_returned laid = 16 * laid.at + (if laid.full then number_of LineDoesNotFit else 0)
