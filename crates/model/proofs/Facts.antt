-- Facts that 01 states or warns of, computed from the definitions on its example: device 5, event 9, LPI 8200, collection 2, processor 1.
-- Assumes nothing.
use Rattle.std.specs.Prelude.{None}
use mathlib.Core.Path.{◌≡◌, refl}
use mathlib.Core.Bool.{true, false}
use mathlib.Core.List.{List, [], ◌∷◌, ◌++◌}
use lib.ListN.{replicate}
use Rattle.model.specs.declared.ItsDeviceId.{ItsDeviceId}
use Rattle.model.specs.declared.EventId.{EventId}
use Rattle.model.specs.declared.CollectionId.{CollectionId}
use Rattle.model.specs.declared.Command.{Command}
use Rattle.model.specs.declared.Command.TheVariants.{Mapd, Mapc, Movi, Discard}
use Rattle.model.specs.Profile.{base, strict}
use Rattle.model.specs.History.{part_in, pair_now}
use Rattle.model.specs.Text.{ascii}
use Rattle.model.specs.Trace.{fitting, output_after, returned}
use Rattle.model.specs.Example.{example_trace}
use Rattle.model.specs.Corners.{mapd, mapc, example_met, given}
use Rattle.model.proofs.Computed.{shown}

abbrev dev : ItsDeviceId
dev = record { 0 = 5 }

abbrev ev : EventId
ev = record { 0 = 9 }

abbrev two : CollectionId
two = record { 0 = 2 }

abbrev three : CollectionId
three = record { 0 = 3 }

-- an invalid MAPC ends the pairs of its collection: they do not come back with it
pub mapc_ends : given (mapc ∷ Mapc two (record { 0 = 1 }) false ∷ example_met) ≡ 0
unfolding shown
mapc_ends = refl

-- the pair is moved from collection 2 to collection 3: an invalid MAPC of 2 leaves it, and one of 3 ends it
abbrev moved : List Command
moved = Movi dev ev three ∷ Mapc three (record { 0 = 0 }) true ∷ example_met

pub moved_is_left : given (Mapc two (record { 0 = 1 }) false ∷ moved) ≡ 8200
unfolding shown
moved_is_left = refl

pub moved_is_ended : given (Mapc three (record { 0 = 0 }) true ∷ Mapc three (record { 0 = 0 }) false ∷ moved) ≡ 0
unfolding shown
moved_is_ended = refl

-- a DISCARD ends it, in the history
pub discard_ends : pair_now base dev ev (Discard dev ev ∷ example_met) ≡ None
unfolding part_in
discard_ends = refl

-- a valid MAPD ends the pairs of its device in strict, those of no other device, and none in base
abbrev dev6 : ItsDeviceId
dev6 = record { 0 = 6 }

pub mapd_ends_strict : pair_now strict dev ev (mapd 4 ∷ example_met) ≡ None
unfolding part_in
mapd_ends_strict = refl

pub another_stays : pair_now strict dev ev (Mapd dev6 4 true ∷ example_met) ≡ pair_now strict dev ev example_met
unfolding part_in
another_stays = refl

pub base_stays : pair_now base dev ev (mapd 4 ∷ example_met) ≡ pair_now base dev ev example_met
unfolding part_in
base_stays = refl

-- A full output is judged line by line. Of the example's lines `CF 0` and `GM 0` fit into 22 bytes, the WR line of 13 does not, and nothing after
-- it is written; the call returns 16 times 10, plus 11, and leaves the other bytes
pub full_output : (returned example_trace (replicate 22 7) ≡ 171) × (output_after example_trace (replicate 22 7) ≡ ascii "CF 0\nGM 0\n" ++ replicate 12 7)
unfolding shown example_trace returned output_after
full_output = (refl, refl)

-- nor a shorter line after one that does not fit
pub shorter_line : fitting 4 ((1 ∷ 2 ∷ 3 ∷ 4 ∷ 5 ∷ []) ∷ (6 ∷ []) ∷ []) ≡ []
shorter_line = refl
