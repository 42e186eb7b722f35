-- Document 01, "Corners to hit": those marked P, as a single table; and tables for document 02, A1: what each number of a refused command is given for,
-- and which is given where several could be (20: Example.corner_lines). proofs/Corners.antt proves that every line of each holds.
-- Assumes nothing.
use Rattle.std.specs.Prelude.{ℕ, ◌*◌, Bool, true, false, ◌&&◌, List, [], ◌∷◌, replicate, eqb}
use Rattle.model.specs.declared.ItsConfig.{ItsConfig}
use Rattle.model.specs.declared.ItsState.{ItsState}
use Rattle.model.specs.declared.Written.{Written}
use Rattle.model.specs.declared.Command.{Command}
use Rattle.model.specs.declared.Command.TheVariants.{Mapd, Mapc, Mapti, Mapi, Movi, Int, Clear, Discard, Inv, Invall}
use Rattle.model.specs.Arm.{GITS_TYPER, GITS_CBASER, GITS_CWRITER, GITS_BASER}
use Rattle.model.specs.Refusal.{verdict_number, read_numbers, write_numbers, translate_numbers}
use Rattle.model.specs.Config.{queue_size, fresh_registers}
use Rattle.model.specs.Step.{check}
use Rattle.model.specs.With.{with_ring, a_config}
use Rattle.model.specs.Queue.{waiting}
use Rattle.model.specs.Entry.{configure, read, write, translate}
use Rattle.model.specs.Met.{unit_after}

-- The configuration of 01's example, with any limit and profile: budget 64, frame 65536, processors 0 and 1.
abbrev pub configured : ℕ → ℕ → ItsConfig
configured limit profile = a_config limit 64 65536 profile 2 (record { 0 = 0 } ∷ record { 0 = 1 } ∷ replicate 14 (record { 0 = 0 }))

-- in base
abbrev pub with_limit : ℕ → ItsConfig
with_limit limit = configured limit 0

-- a fresh unit with that limit
abbrev pub fresh : ℕ → ItsState
fresh limit = (configure (with_limit limit)).unit

-- a read answers this value
abbrev pub reads : ItsState → ℕ → ℕ → ℕ → Bool
reads u offset width value =
    eqb (read_numbers (read u offset width)).refusal 0 && eqb (read_numbers (read u offset width)).value value

-- an 8-byte write, with an empty window
abbrev pub writing : ItsState → ℕ → ℕ → Written
writing u offset value =
    (write (record { address = 0; bytes = [] }) (replicate 64 (record { target = record { 0 = 0 }; lpi = record { 0 = 0 }; pending = false })) u offset 8 value).written

-- it answers this refusal and offset, and opcode 0
abbrev pub answers : Written → ℕ → ℕ → Bool
answers w refusal offset =
    eqb (write_numbers w.answer).refusal refusal
    && (eqb (write_numbers w.answer).opcode 0 && eqb (write_numbers w.answer).offset offset)

-- Commands on device 5 and collection 2, as in the example.
abbrev pub mapd : ℕ → Command
mapd bits = Mapd (record { 0 = 5 }) bits true

-- MAPC of collection 2 to processor 1
abbrev pub mapc : Command
mapc = Mapc (record { 0 = 2 }) (record { 0 = 1 }) true

-- MAPTI of device 5 and an event to an LPI in collection 2
abbrev pub mapti : ℕ → ℕ → Command
mapti event lpi = Mapti (record { 0 = 5 }) (record { 0 = event }) (record { 0 = lpi }) (record { 0 = 2 })

-- after the commands xs, the last one first: the number that x answers
abbrev pub becomes : List Command → Command → ℕ
becomes xs x = verdict_number (check (unit_after (with_limit 65535) xs) x)

-- the example's commands
abbrev pub example_met : List Command
example_met = Int (record { 0 = 5 }) (record { 0 = 9 }) ∷ mapti 9 8200 ∷ mapc ∷ mapd 4 ∷ []

-- where (5, 9) goes after the commands xs: the LPI
abbrev pub given : List Command → ℕ
given xs = (translate_numbers (translate (unit_after (with_limit 65535) xs) (record { 0 = 5 }) (record { 0 = 9 }))).lpi

-- The table: the number of a corner, and whether it holds.
pub record Corner : Type 0 where
  pub P : ℕ
  pub holds : Bool

-- a line of the table
abbrev pub corner : ℕ → Bool → Corner
corner n b = record { P = n; holds = b }

-- P1 to P11
unfoldable pub corners : List Corner
corners =
    -- TYPER: limit 65535 gives 0x1EF71; 8192 gives 0x1ED71
    corner 1 (reads (fresh 65535) GITS_TYPER 8 0x1EF71)
    ∷ corner 2 (reads (fresh 8192) GITS_TYPER 8 0x1ED71)
    -- CBASER 0x10FF: 256 pages, CWRITER 0xFFFE0 accepted
    ∷ corner 3 (eqb (queue_size 0x10FF) (256 * 4096))
    ∷ corner 3 (answers (writing (writing (fresh 65535) GITS_CBASER 0x10FF).unit GITS_CWRITER 0xFFFE0) 0 0)
    -- CBASER 0x8000000000000000: 4
    ∷ corner 4 (answers (writing (fresh 65535) GITS_CBASER 0x8000000000000000) 4 0)
    -- one page: 0xFE0 accepted, 0x1000 gives 7, opcode 0, offset 4096; 0x100020 is taken as 0x20
    ∷ corner 5 (answers (writing (writing (fresh 65535) GITS_CBASER 0x1000).unit GITS_CWRITER 0xFE0) 0 0)
    ∷ corner 5 (answers (writing (writing (fresh 65535) GITS_CBASER 0x1000).unit GITS_CWRITER 0x1000) 7 4096)
    ∷ corner 5 (answers (writing (writing (fresh 65535) GITS_CBASER 0x1000).unit GITS_CWRITER 0x100020) 0 0)
    ∷ corner 5 (reads (writing (writing (fresh 65535) GITS_CBASER 0x1000).unit GITS_CWRITER 0x100020).unit GITS_CWRITER 8 0x20)
    -- fresh: CWRITER 32 gives 7, offset 32; 0 is accepted
    ∷ corner 6 (answers (writing (fresh 65535) GITS_CWRITER 32) 7 32)
    ∷ corner 6 (answers (writing (fresh 65535) GITS_CWRITER 0) 0 0)
    -- one page, reader 4064, writer 32: two wait
    ∷ corner 7 (eqb (waiting (with_ring fresh_registers 0x1000 4064 32)) 2)
    -- all ones into BASER 0: 0xF9E7FFFFFFFFFFFF
    ∷ corner 8 (reads (writing (fresh 65535) GITS_BASER 0xFFFFFFFFFFFFFFFF).unit GITS_BASER 8 0xF9E7FFFFFFFFFFFF)
    -- 4 bits: event 15 yes, 16 refused; 32 bits: 0xFFFFFFFF yes
    ∷ corner 9 (eqb (becomes (mapc ∷ mapd 4 ∷ []) (mapti 15 8200)) 0)
    ∷ corner 9 (eqb (becomes (mapc ∷ mapd 4 ∷ []) (mapti 16 8200)) 23)
    ∷ corner 9 (eqb (becomes (mapc ∷ mapd 32 ∷ []) (mapti 0xFFFFFFFF 8200)) 0)
    -- LPI 8191 refused, 8192 and limit accepted, limit + 1 refused
    ∷ corner 10 (eqb (becomes (mapc ∷ mapd 4 ∷ []) (mapti 0 8191)) 21)
    ∷ corner 10 (eqb (becomes (mapc ∷ mapd 4 ∷ []) (mapti 0 8192)) 0)
    ∷ corner 10 (eqb (becomes (mapc ∷ mapd 4 ∷ []) (mapti 0 65535)) 0)
    ∷ corner 10 (eqb (becomes (mapc ∷ mapd 4 ∷ []) (mapti 0 65536)) 21)
    -- after the example, MAPD 5 valid with 1 bit: (5, 9) still gives 8200; a new MAPTI of it is refused
    ∷ corner 11 (eqb (given (mapd 1 ∷ example_met)) 8200)
    ∷ corner 11 (eqb (becomes (mapd 1 ∷ example_met) (mapti 9 8200)) 23)
    ∷ []

-- MAPI of device 5 and an event, in collection 2
abbrev pub mapi : ℕ → Command
mapi event = Mapi (record { 0 = 5 }) (record { 0 = event }) (record { 0 = 2 })

-- MOVI of device 5 and an event to a collection
abbrev pub movi : ℕ → ℕ → Command
movi event collection = Movi (record { 0 = 5 }) (record { 0 = event }) (record { 0 = collection })

-- a line of the other tables: after the commands xs, the last one first, x has this number
abbrev pub told : ℕ → List Command → Command → Corner
told n xs x = corner n (eqb (becomes xs x) n)

-- MAPTI's four checks in order: LPI, device, event, collection. First all of them fail; then the first to fail is mended, one by one
unfoldable pub of_mapti : List Corner
of_mapti =
    told 21 [] (mapti 16 8191)
    ∷ told 22 [] (mapti 16 8192)
    ∷ told 23 (mapd 4 ∷ []) (mapti 16 8192)
    ∷ told 24 (mapd 4 ∷ []) (mapti 15 8192)
    ∷ told 0 (mapc ∷ mapd 4 ∷ []) (mapti 15 8192)
    -- the LPI and one other alone; the device alone
    ∷ told 21 (mapc ∷ []) (mapti 15 65536)
    ∷ told 21 (mapc ∷ mapd 4 ∷ []) (mapti 16 65536)
    ∷ told 21 (mapd 4 ∷ []) (mapti 15 65536)
    ∷ told 22 (mapc ∷ []) (mapti 15 65535)
    ∷ []

-- the same of MAPI, whose LPI is its event
unfoldable pub of_mapi : List Corner
of_mapi =
    told 21 [] (mapi 8191)
    ∷ told 22 [] (mapi 8192)
    ∷ told 23 (mapd 13 ∷ []) (mapi 8192)
    ∷ told 24 (mapd 14 ∷ []) (mapi 8192)
    ∷ told 0 (mapc ∷ mapd 14 ∷ []) (mapi 8192)
    ∷ told 21 (mapc ∷ mapd 12 ∷ []) (mapi 8191)
    ∷ []

-- MOVI: collection, then pair. Neither is mapped; the collection alone is not; the pair alone is not
unfoldable pub of_movi : List Corner
of_movi =
    told 24 example_met (movi 8 3)
    ∷ told 24 example_met (movi 9 3)
    ∷ told 25 example_met (movi 8 2)
    ∷ told 0 example_met (movi 9 2)
    ∷ []

-- the commands with one check: DISCARD, INV, INVALL and MAPC
unfoldable pub of_others : List Corner
of_others =
    told 25 example_met (Discard (record { 0 = 5 }) (record { 0 = 8 }))
    ∷ told 25 example_met (Inv (record { 0 = 5 }) (record { 0 = 8 }))
    ∷ told 24 example_met (Invall (record { 0 = 3 }))
    ∷ told 26 example_met (Mapc (record { 0 = 2 }) (record { 0 = 2 }) true)
    ∷ []

-- INT and CLEAR of a pair that is not mapped stay 8
unfoldable pub eight_stays : List Corner
eight_stays =
    told 8 example_met (Int (record { 0 = 5 }) (record { 0 = 8 }))
    ∷ told 8 example_met (Clear (record { 0 = 5 }) (record { 0 = 8 }))
    ∷ []

-- every line of a table holds
abbrev pub all_hold : List Corner → Bool
all_hold [] = true
all_hold (c ∷ cs) = c.holds && all_hold cs
