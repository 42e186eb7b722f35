-- The record, where it is the first of its key.
use Rattle.std.proofs.Common.{rules}
use Rattle.model.specs.Keys.{is_device}
use Rattle.mappings.specs.Mappings.{mapped_at}
use Rattle.mappings.proofs.Stands.{stood}
use Rattle.mappings.proofs.device_at.Goals as goal

pub returns : goal.returns
unfolding mapped_at
returns c =
    let u = c.args.unit in
    let here = stood (is_device c.at-entry.result.device) u.devices c.args.i c.find.ensures c.is_at.ensures in
    rw (← c.at-entry.ensures, ← here) (search rules)
