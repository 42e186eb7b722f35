-- A line as the code hands it over, and an output line by line. No sentence of document 01 stands here: proofs/Fits.antt shows that lines laid one
-- after the other come to what the model says of them.
-- Assumes nothing.
use Rattle.std.specs.Prelude.{ℕ, ◌+◌, ◌≡◌, true, false, List, [], ◌∷◌, ◌++◌, leb, length, take, drop, if◌then◌else◌, get_or}
use Rattle.model.specs.Text.{ascii}
use Rattle.model.specs.Trace.{spaced, space}
use Rattle.text.specs.declared.Line.{Line}
use Rattle.text.specs.declared.Laid.{Laid}

-- the bytes of a line
unfoldable pub line_of : {N : ℕ} → Line N → List ℕ
line_of l = get_or l.mark 0 0 ∷ get_or l.mark 1 0 ∷ (spaced l.numbers ++ ascii "\n")

-- a list with the text t in it, from the place i on
unfoldable pub laid_at : List ℕ → ℕ → List ℕ → List ℕ
laid_at l i t = take i l ++ (t ++ drop (i + length t) l)

-- an output, and how far it is written
pub record Output : Type 0 where
  pub bytes : List ℕ
  pub laid : Laid

-- a line did not fit after the first i bytes
abbrev pub full_at : ℕ → Laid
full_at i = record { at = i; full = true }

-- a line more: it goes in whole, or nothing more does
unfoldable pub lay_line : Output → List ℕ → Output
lay_line o l =
    if o.laid.full then o else
    if leb (o.laid.at + length l) (space o.bytes)
    then record { bytes = laid_at o.bytes o.laid.at l; laid = record { at = o.laid.at + length l; full = false } }
    else record { bytes = o.bytes; laid = full_at o.laid.at }

-- some lines more
abbrev pub lay_all : Output → List (List ℕ) → Output
lay_all o [] = o
lay_all o (l ∷ ls) = lay_all (lay_line o l) ls

abbrev pub output : List ℕ → Laid → Output
output bytes laid = record { bytes = bytes; laid = laid }

-- what laying a line leaves behind it
abbrev pub Lays : List ℕ → Laid → List ℕ → List ℕ → Laid → Type 0
Lays out laid l left r = output left r ≡ lay_line (output out laid) l
