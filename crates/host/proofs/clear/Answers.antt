-- `host::clear` meets its contract: zeros, and the two read-only fields.
use mathlib.Core.Path.{ap, ◌∙◌}
use Prim.Native.Nat.{◌+◌}
use lib.ListN.{set}
use Rattle.lent_tables.specs.Numbers.{BASERS, unit_in}
use Rattle.host.proofs.Cleared.{fresh}
use Rattle.host.proofs.clear.Goals as goal

pub returns : goal.returns
returns c = ap (λ l. unit_in (set (set l BASERS 0x0107_0000_0000_0000) (BASERS + 1) 0x0407_0000_0000_0000)) c.zero.ensures ∙ fresh
