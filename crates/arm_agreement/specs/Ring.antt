-- Arm's ring, the commands that are fetched from it, and the mappings after several commands. By the facts of docs/ARM.md alone.
-- Assumes nothing.
use Rattle.std.specs.Prelude.{ℕ, zero, suc, ◌+◌, ◌*◌, ◌%◌, Bool, ◌&&◌, List, [], ◌∷◌, ◌++◌, eqb, if◌then◌else◌, Option}
use Rattle.model.specs.Choose.{when_found, list_of}
use Rattle.model.specs.Arm.{◌of◌, ◌in_place◌, CBASER_Physical_Address, CBASER_Size, CBASER_Valid, page, command_size}
use Rattle.arm_agreement.specs.Commands.{ArmCommand, command_in}
use Rattle.arm_agreement.specs.Mappings.{Mappings, Announced, next_mappings}

-- the n-th command from CREADR on stands at Physical_Address plus CREADR plus 32 n, round a ring of Size + 1 pages (F69)
abbrev pub command_place : ℕ → ℕ → ℕ → ℕ
command_place cbaser creadr n = CBASER_Physical_Address in_place cbaser + (creadr + command_size * n) % ((CBASER_Size of cbaser + 1) * page)

-- the command there, where memory gives its four doublewords
abbrev pub fetched : (ℕ → Option (List ℕ)) → ℕ → ℕ → ℕ → Option ArmCommand
fetched memory cbaser creadr n = when_found (memory (command_place cbaser creadr n)) command_in

-- the first n of them, the last one first
abbrev pub fetches : (ℕ → Option (List ℕ)) → ℕ → ℕ → ℕ → List ArmCommand
fetches memory cbaser creadr zero = []
fetches memory cbaser creadr (suc n) = list_of (fetched memory cbaser creadr n) ++ fetches memory cbaser creadr n

-- commands are fetched only if Enabled and CBASER.Valid are 1 (F14)
abbrev pub fetches_if : Bool → (ℕ → Option (List ℕ)) → ℕ → ℕ → ℕ → List ArmCommand
fetches_if enabled memory cbaser creadr n = if enabled && eqb (CBASER_Valid of cbaser) 1 then fetches memory cbaser creadr n else []

-- the mappings after commands, the last one first
abbrev pub arm_after : Announced → Mappings → List ArmCommand → Mappings
arm_after a m [] = m
arm_after a m (x ∷ xs) = next_mappings a (arm_after a m xs) x

-- the mappings after them, the first one first
abbrev pub arm_run : Announced → Mappings → List ArmCommand → Mappings
arm_run a m [] = m
arm_run a m (x ∷ xs) = arm_run a (next_mappings a m x) xs
