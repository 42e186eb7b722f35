-- The numbers of a unit that no access has touched: zeros, with the two read-only fields of BASER 0 and BASER 1.
-- Assumes nothing.
use Prim.Native.Nat.{ℕ, ◌+◌}
use mathlib.Core.Path.{◌≡◌, refl, sym, ◌∙◌, ap}
use mathlib.Core.List.{List, [], ◌++◌, append-nil}
use lib.ListN.{length, drop, set, replicate}
use lib.Seq.{drop-length}
use Rattle.model.specs.Config.{answers_no_unit}
use Rattle.lent_tables.specs.Numbers.{NUMBERS, BASERS, device_in, collection_in, translation_in, config_in, registers_in, devices_in, collections_in, translations_in, unit_in}

pub fresh : unit_in (set (set (replicate NUMBERS 0) BASERS 0x0107_0000_0000_0000) (BASERS + 1) 0x0407_0000_0000_0000) ≡ answers_no_unit
unfolding device_in collection_in translation_in config_in registers_in devices_in collections_in translations_in
fresh = refl
