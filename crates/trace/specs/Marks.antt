-- The model's reading of a record, taken by its mark. No sentence of document 01 stands here: proofs/Parsing.antt shows that it is the model's.
-- Assumes nothing.
use Rattle.std.specs.Prelude.{ℕ, ◌+◌, ◌*◌, ◌&&◌, List, Option, None, Some, leb, length, if◌then◌else◌}
use Rattle.model.specs.Trace.{CF, GM, RD, WR, TR, Parsed, broken, number, config_read, window_in, sized, marked}
use Rattle.trace.specs.declared.Mark.{Mark}
use Rattle.trace.specs.declared.Mark.TheVariants.{Cf, Gm, Rd, Wr, Tr}

-- the mark with which the bytes begin, if they do with one
unfoldable pub mark_of : List ℕ → Option Mark
mark_of l =
    if marked "CF" l then Some Cf else
    if marked "GM" l then Some Gm else
    if marked "RD" l then Some Rd else
    if marked "WR" l then Some Wr else
    if marked "TR" l then Some Tr else
    None

-- the record after each mark
unfoldable pub parsed_as : Mark → List ℕ → Parsed
parsed_as Cf l = if leb 16 (length l) then sized (16 + 2 * number 15 1 l) l (CF (config_read l)) else broken
parsed_as Gm l = if leb 14 (length l) && leb (number 10 4 l) 4096 then sized (14 + number 10 4 l) l (GM (window_in l)) else broken
parsed_as Rd l = sized 11 l (RD (number 2 8 l) (number 10 1 l))
parsed_as Wr l = sized 19 l (WR (number 2 8 l) (number 10 1 l) (number 11 8 l))
parsed_as Tr l = sized 10 l (TR (record { 0 = number 2 4 l }) (record { 0 = number 6 4 l }))

-- and after what is no mark
abbrev pub parsed_at : Option Mark → List ℕ → Parsed
parsed_at None l = broken
parsed_at (Some m) l = parsed_as m l
