-- The unit of document 01's example as its host leads it, step by step: what the entries make of each write (model: `Entry.write`), the guest's page being
-- the window of every one and its row having the budget's 64 records.
-- Assumes nothing.
use Rattle.std.specs.Prelude.{ℕ, List, take}
use Rattle.model.specs.declared.ItsState.{ItsState}
use Rattle.model.specs.Arm.{GITS_CTLR, GITS_CBASER, GITS_CWRITER}
use Rattle.model.specs.Queue.{Window}
use Rattle.model.specs.Entry.{write}
use Rattle.model.specs.Trace.{lent_row}
use Rattle.model.specs.Corners.{fresh}

-- the ring begins where the page does
abbrev pub ring_in : List ℕ → Window
ring_in page = record { address = 0x40000000; bytes = page }

-- the unit after a write
unfoldable pub set_to : List ℕ → ItsState → ℕ → ℕ → ℕ → ItsState
set_to page u offset width value = (write (ring_in page) (take 64 lent_row) u offset width value).written.unit

-- with its ring, and switched on
unfoldable pub enabled_with : List ℕ → ℕ → ItsState
enabled_with page limit = set_to page (set_to page (fresh limit) GITS_CBASER 8 0x8000000040000000) GITS_CTLR 4 1

-- after the four commands of the example
unfoldable pub example_with : List ℕ → ItsState
example_with page = set_to page (enabled_with page 65535) GITS_CWRITER 8 128
