-- Document 02, A3: corners of the strict profile, command by command, as a single table; what the queue does are traces, Example.strict_trace and, of A4,
-- Example.retry_trace.
-- proofs/Corners.antt proves that every line holds.
-- Assumes nothing.
use Rattle.std.specs.Prelude.{ℕ, true, false, List, [], ◌∷◌, eqb}
use Rattle.model.specs.declared.ItsDeviceId.{ItsDeviceId}
use Rattle.model.specs.declared.EventId.{EventId}
use Rattle.model.specs.declared.CollectionId.{CollectionId}
use Rattle.model.specs.declared.ItsState.{ItsState}
use Rattle.model.specs.declared.Command.{Command}
use Rattle.model.specs.declared.Command.TheVariants.{Mapd, Mapti, Mapi, Movi, Int, Clear, Discard, Inv}
use Rattle.model.specs.Refusal.{verdict_number, translate_numbers}
use Rattle.model.specs.Step.{check}
use Rattle.model.specs.Entry.{configure, translate}
use Rattle.model.specs.Met.{unit_after}
use Rattle.model.specs.Corners.{configured, mapd, mapti, becomes, example_met, Corner, corner}

-- the strict unit that met the commands xs, the last one first
abbrev pub strict_after : List Command → ItsState
strict_after xs = unit_after (configured 65535 1) xs

-- the number that x answers then
abbrev pub becomes_strict : List Command → Command → ℕ
becomes_strict xs x = verdict_number (check (strict_after xs) x)

-- a device, event 9, collection 2
abbrev pub device : ℕ → ItsDeviceId
device n = record { 0 = n }

abbrev pub nine : EventId
nine = record { 0 = 9 }

abbrev pub two : CollectionId
two = record { 0 = 2 }

-- where event 9 of a device goes then: the LPI
abbrev pub given_strict : List Command → ℕ → ℕ
given_strict xs n = (translate_numbers (translate (strict_after xs) (device n) nine)).lpi

-- the example, and then device 6 with an event 9 of its own, to LPI 8201
abbrev pub both_met : List Command
both_met = Mapti (device 6) nine (record { 0 = 8201 }) two ∷ Mapd (device 6) 4 true ∷ example_met

-- a line of the table: this number is expected, and n comes
abbrev pub gives : ℕ → ℕ → Corner
gives expected n = corner 0 (eqb n expected)

-- the table
unfoldable pub of_strict : List Corner
of_strict =
    -- a valid MAPD of a mapped device drops its translations, and those of no other device
    gives 8200 (given_strict both_met 5)
    ∷ gives 0 (given_strict (mapd 4 ∷ both_met) 5)
    ∷ gives 8201 (given_strict (mapd 4 ∷ both_met) 6)
    -- and then it stores: 1 bit has the events 0 and 1; an event that is mapped again goes where it is mapped to
    ∷ gives 0 (becomes_strict (mapd 1 ∷ example_met) (mapti 1 8200))
    ∷ gives 23 (becomes_strict (mapd 1 ∷ example_met) (mapti 2 8200))
    ∷ gives 8300 (given_strict (mapti 9 8300 ∷ mapd 4 ∷ example_met) 5)
    -- a DISCARD of a pair that is gone is refused
    ∷ gives 25 (becomes_strict (mapd 4 ∷ example_met) (Discard (device 5) nine))
    -- device 65535 is accepted
    ∷ gives 0 (becomes_strict [] (Mapd (device 65535) 4 true))
    -- 65536 is refused with 27 by the eight commands that name a device, before any other check: nothing is mapped here, and the LPI 0 is out of range
    ∷ gives 27 (becomes_strict [] (Mapd (device 65536) 4 true))
    ∷ gives 27 (becomes_strict [] (Mapd (device 65536) 4 false))
    ∷ gives 27 (becomes_strict [] (Mapti (device 65536) nine (record { 0 = 0 }) two))
    ∷ gives 27 (becomes_strict [] (Mapi (device 65536) nine two))
    ∷ gives 27 (becomes_strict [] (Movi (device 65536) nine two))
    ∷ gives 27 (becomes_strict [] (Int (device 65536) nine))
    ∷ gives 27 (becomes_strict [] (Clear (device 65536) nine))
    ∷ gives 27 (becomes_strict [] (Discard (device 65536) nine))
    ∷ gives 27 (becomes_strict [] (Inv (device 65536) nine))
    -- a message of it gets 8
    ∷ gives 8 (translate_numbers (translate (strict_after example_met) (device 65536) nine)).refusal
    -- base accepts it
    ∷ gives 0 (becomes [] (Mapd (device 65536) 4 true))
    ∷ gives 21 (becomes [] (Mapti (device 65536) nine (record { 0 = 0 }) two))
    -- profile 0 is base and 1 strict, any other is refused
    ∷ gives 0 (verdict_number (configure (configured 65535 0)).verdict)
    ∷ gives 0 (verdict_number (configure (configured 65535 1)).verdict)
    ∷ gives 1 (verdict_number (configure (configured 65535 2)).verdict)
    ∷ gives 1 (verdict_number (configure (configured 65535 255)).verdict)
    ∷ []
