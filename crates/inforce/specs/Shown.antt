-- What the program prints: the mappings in force at the end of a trace, or after each of its records.
-- Assumes nothing.
use Rattle.std.specs.Prelude.{ℕ, zero, suc, ◌+◌, List, [], ◌∷◌, ◌++◌, map, leb, eqb, length, drop, get_or, if◌then◌else◌}
use Rattle.model.specs.declared.ItsDevice.{ItsDevice}
use Rattle.model.specs.declared.ItsConfig.{ItsConfig}
use Rattle.model.specs.declared.ItsState.{ItsState}
use Rattle.model.specs.Text.{ascii}
use Rattle.model.specs.Config.{sound_config}
use Rattle.model.specs.Trace.{Record, Parsed, whole, broken, parse, line, Running, at_start, next, lines_of, fitting}
use Rattle.mappings.specs.declared.Mapping.{Mapping}
use Rattle.mappings.specs.Mappings.{mappings_of, devices_of}

-- The lines of a unit.

-- `MP device event lpi collection processor`
abbrev pub mapping_line : Mapping → List ℕ
mapping_line m = line "MP" (m.device.0 ∷ m.event.0 ∷ m.lpi.0 ∷ m.collection.0 ∷ m.target.0 ∷ [])

-- `DV device bits`
abbrev pub device_line : ItsDevice → List ℕ
device_line r = line "DV" (r.device.0 ∷ r.event_bits ∷ [])

-- `PF profile`, 0 for base and 1 for strict: of a unit that was configured
abbrev pub profile_line : ItsConfig → List ℕ
profile_line k = line "PF" (k.profile ∷ [])

abbrev pub profile_lines : ItsConfig → List (List ℕ)
profile_lines k = if sound_config k then profile_line k ∷ [] else []

-- first the profile, then the mappings in force, then the mapped devices, each in the order of the unit's table
unfoldable pub unit_lines : ItsState → List (List ℕ)
unit_lines u = profile_lines u.config ++ (map mapping_line (mappings_of u) ++ map device_line (devices_of u))

-- The records of a trace, one after the other.
module _ {A : Type 0} (end : Running → A) (add : Running → ℕ → Parsed → A → A) where
  -- a broken record ends the run
  abbrev pub on_with : Parsed → Running → (Record → ℕ → A) → A
  on_with broken s rest = end s
  on_with (whole r n) s rest = rest r n

  -- what the bytes l, which stand at the offset `at` of the trace, come to: `end` says what no record comes to, `add` what one record adds
  abbrev pub walk : ℕ → ℕ → Running → List ℕ → A
  walk zero at s l = end s
  walk (suc k) at s [] = end s
  walk (suc k) at s (b ∷ l) =
      add s at (parse (b ∷ l)) (on_with (parse (b ∷ l)) s (λ r n. walk k (at + n) (next s r) (drop n (b ∷ l))))

-- the unit to which the records lead: they add nothing of their own
abbrev pub nothing_more : Running → ℕ → Parsed → ItsState → ItsState
nothing_more s at p u = u

unfoldable pub unit_at_end : List ℕ → ItsState
unit_at_end trace = walk (λ s. s.unit) nothing_more (length trace) 0 at_start trace

-- the lines of a record, and those of the unit after it; a broken record changes nothing
abbrev pub record_lines : Running → ℕ → Parsed → List (List ℕ)
record_lines s at (whole r n) = lines_of s r ++ unit_lines (next s r).unit
record_lines s at broken = (line "??" (at ∷ []) ∷ []) ++ unit_lines s.unit

abbrev pub no_lines : Running → List (List ℕ)
no_lines s = []

abbrev pub more_lines : Running → ℕ → Parsed → List (List ℕ) → List (List ℕ)
more_lines s at p ls = record_lines s at p ++ ls

unfoldable pub each_lines : List ℕ → List (List ℕ)
each_lines trace = walk no_lines more_lines (length trace) 0 at_start trace

-- A plus sign before the trace asks for the mappings after each record; else they are those at the end.
unfoldable pub shown_lines : List ℕ → List (List ℕ)
shown_lines input = if eqb (get_or input 0 0) (get_or (ascii "+") 0 0) then each_lines (drop 1 input) else unit_lines (unit_at_end input)

-- Up to 32,768 bytes are read (more: the line `LONG` only); the output has room for 65,536, and after a line that does not fit nothing is printed.
unfoldable pub shown : List ℕ → List ℕ
shown input = if leb (length input) 32768 then fitting 65536 (shown_lines input) else ascii "LONG\n"
