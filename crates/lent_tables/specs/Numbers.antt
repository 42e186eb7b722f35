-- A unit as numbers, and which unit each row of so many numbers is. Every row is one: nothing is asked of the numbers. Where each part stands among
-- them is said here once: the code has the same names for the places (src/lib.rt), and no proof names a place by its number.
-- Assumes nothing.
use Rattle.std.specs.Prelude.{ℕ, zero, suc, ◌+◌, ◌*◌, ◌/◌, ◌%◌, ◌^◌, ◌≡◌, Bool, List, [], ◌∷◌, get_or, leb, eqb, if◌then◌else◌}
use Rattle.model.specs.declared.GicVcpuId.{GicVcpuId}
use Rattle.model.specs.declared.ItsDevice.{ItsDevice}
use Rattle.model.specs.declared.ItsCollection.{ItsCollection}
use Rattle.model.specs.declared.Translation.{Translation}
use Rattle.model.specs.declared.ItsConfig.{ItsConfig}
use Rattle.model.specs.declared.ItsRegisters.{ItsRegisters}
use Rattle.model.specs.declared.ItsState.{ItsState}
use Rattle.model.specs.declared.Command.{Command}
use Rattle.model.specs.Answer.{Executed}
use Rattle.model.specs.With.{a_unit, the_registers, a_config}
use Rattle.model.specs.Config.{no_config}
use Rattle.model.specs.Step.{stepped, executed}

-- How many numbers there are, and where each part begins.
abbrev pub NUMBERS : ℕ
NUMBERS = 608

-- which layout the numbers have: each change of what stands where, or of what it means, counts this number up. (In the layout that had none the highest
-- LPI stood here, 8192 or more.)
abbrev pub LAYOUT : ℕ
LAYOUT = 0

-- the number of the layout that is said here
abbrev pub LAYOUT_NUMBER : ℕ
LAYOUT_NUMBER = 2

-- the highest LPI
abbrev pub LPI_LIMIT : ℕ
LPI_LIMIT = 1

abbrev pub COMMAND_BUDGET : ℕ
COMMAND_BUDGET = 2

-- the size of the frame, in bytes
abbrev pub FRAME_SIZE : ℕ
FRAME_SIZE = 3

-- 0 for base, 1 for strict
abbrev pub PROFILE : ℕ
PROFILE = 4

abbrev pub PROCESSOR_COUNT : ℕ
PROCESSOR_COUNT = 5

-- the sixteen processors, four to a number, the first lowest; behind them up to the registers stands nothing
abbrev pub PROCESSORS : ℕ
PROCESSORS = 6

-- here the configuration ends and the registers begin
abbrev pub REGISTERS : ℕ
REGISTERS = 19

-- stalled if its lowest bit is set
abbrev pub STALLED : ℕ
STALLED = 19

-- enabled if its lowest bit is set
abbrev pub ENABLED : ℕ
ENABLED = 20

abbrev pub CBASER : ℕ
CBASER = 21

abbrev pub CREADR : ℕ
CREADR = 22

abbrev pub CWRITER : ℕ
CWRITER = 23

-- the eight BASER
abbrev pub BASERS : ℕ
BASERS = 24

-- the devices: number, 2^32 times the event bits, 2^63 if used
abbrev pub DEVICES : ℕ
DEVICES = 32

-- the collections: number, 2^16 times the processor, 2^63 if used
abbrev pub COLLECTIONS : ℕ
COLLECTIONS = 64

-- the pairs: event, 2^32 times the device
abbrev pub KEYS : ℕ
KEYS = 96

-- where the pair of the same number goes: LPI, 2^32 times the collection, 2^63 if used
abbrev pub GOALS : ℕ
GOALS = 352

-- How many records each table has.
abbrev pub device_records : ℕ
device_records = 32

abbrev pub collection_records : ℕ
collection_records = 32

abbrev pub pair_records : ℕ
pair_records = 256

-- What a word is.

-- a record is used if its highest bit is set
abbrev pub is_used : ℕ → Bool
is_used w = leb (2 ^ 63) w

abbrev pub processor_in : ℕ → GicVcpuId
processor_in w = record { 0 = w % 2 ^ 16 }

-- a processor of the four in a word, the first lowest
abbrev pub processor_at : ℕ → ℕ → GicVcpuId
processor_at w i = processor_in (w / 2 ^ (16 * i))

unfoldable pub device_in : ℕ → ItsDevice
device_in w = record { device = record { 0 = w % 2 ^ 32 }; event_bits = w / 2 ^ 32 % 2 ^ 8; used = is_used w }

unfoldable pub collection_in : ℕ → ItsCollection
collection_in w = record { collection = record { 0 = w % 2 ^ 16 }; target = record { 0 = w / 2 ^ 16 % 2 ^ 16 }; used = is_used w }

-- the pair, and where it goes
unfoldable pub translation_in : ℕ → ℕ → Translation
translation_in k g =
    record {
      device = record { 0 = k / 2 ^ 32 };
      event = record { 0 = k % 2 ^ 32 };
      lpi = record { 0 = g % 2 ^ 32 };
      collection = record { 0 = g / 2 ^ 32 % 2 ^ 16 };
      used = is_used g;
    }

-- What the numbers are.

-- the number at a place
abbrev pub word : List ℕ → ℕ → ℕ
word s i = get_or s i 0

-- f 0, f 1 and so on, n of them
abbrev pub rows : {A : Type 0} → ℕ → (ℕ → A) → List A
rows zero f = []
rows (suc n) f = f zero ∷ rows n (λ i. f (suc i))

-- the numbers have this layout
abbrev pub laid_out : List ℕ → Bool
laid_out s = eqb (word s LAYOUT) LAYOUT_NUMBER

-- Follows the code: what the helper `setting` reads of the configuration, one number of it
abbrev pub setting_at : List ℕ → ℕ → ℕ
setting_at s at = if laid_out s then word s at % 2 ^ 32 else 0

-- what stands in the places of the configuration
abbrev pub config_at : List ℕ → ItsConfig
config_at s =
    a_config (word s LPI_LIMIT % 2 ^ 32) (word s COMMAND_BUDGET % 2 ^ 32) (word s FRAME_SIZE % 2 ^ 32) (word s PROFILE % 2 ^ 32) (word s PROCESSOR_COUNT % 2 ^ 8)
    (rows 16 (λ i. processor_at (word s (PROCESSORS + i / 4)) (i % 4)))

-- under another layout it is the configuration of a unit that has none: such numbers are a unit that answers 1 to everything
unfoldable pub config_in : List ℕ → ItsConfig
config_in s = if laid_out s then config_at s else no_config

unfoldable pub registers_in : List ℕ → ItsRegisters
registers_in s =
    the_registers (eqb (word s ENABLED % 2) 1) (eqb (word s STALLED % 2) 1) (word s CBASER) (word s CREADR) (word s CWRITER) (rows 8 (λ i. word s (BASERS + i)))

unfoldable pub devices_in : List ℕ → List ItsDevice
devices_in s = rows device_records (λ i. device_in (word s (DEVICES + i)))

unfoldable pub collections_in : List ℕ → List ItsCollection
collections_in s = rows collection_records (λ i. collection_in (word s (COLLECTIONS + i)))

unfoldable pub translations_in : List ℕ → List Translation
translations_in s = rows pair_records (λ i. translation_in (word s (KEYS + i)) (word s (GOALS + i)))

-- the unit
abbrev pub unit_in : List ℕ → ItsState
unit_in s = a_unit (config_in s) (registers_in s) (devices_in s) (collections_in s) (translations_in s)

-- One command carried out on a unit that is lent as numbers: it comes to what the model says of it, and the numbers left are the unit after it.
abbrev pub Carries : List ℕ → Command → Executed → List ℕ → Type 0
Carries s x r left = (r ≡ executed (unit_in s) x) × (unit_in left ≡ stepped (unit_in s) x)
