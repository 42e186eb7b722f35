-- The first record of its key, then its collection.
use Rattle.std.proofs.Common.{rules}
use Rattle.model.specs.Keys.{is_pair}
use Rattle.mappings.specs.Mappings.{mapping_at}
use Rattle.mappings.proofs.Stands.{stood}
use Rattle.mappings.proofs.mapping_at.Goals as goal

pub returns-then-not-is_at : goal.returns-then-not-is_at
unfolding mapping_at
returns-then-not-is_at c =
    let u = c.args.unit in
    let e = c.at-entry.result in
    let here = stood (is_pair e.device e.event) u.translations c.args.i c.find.ensures c.is_at.ensures in
    rw (← c.at-entry.ensures, ← here, c.if-not-is_at.true)

pub returns-in_err-home : goal.returns-in_err-home
unfolding mapping_at
returns-in_err-home c =
    let u = c.args.unit in
    let e = c.at-entry.result in
    let here = stood (is_pair e.device e.event) u.translations c.args.i c.find.ensures c.is_at.ensures in
    rw (← c.at-entry.ensures, ← here, c.if-not-is_at.false, ← c.look.ensures) (search rules)

pub returns : goal.returns
unfolding mapping_at
returns c =
    let u = c.args.unit in
    let e = c.at-entry.result in
    let here = stood (is_pair e.device e.event) u.translations c.args.i c.find.ensures c.is_at.ensures in
    rw (← c.at-entry.ensures, ← here, c.if-not-is_at.false, ← c.look.ensures) (search rules)
