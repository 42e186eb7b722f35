-- A key is its two halves.
use native.Mathlib.Omega.{arith}
use mathlib.Core.Path.{refl}
use Rattle.lent_tables.proofs.Fields.{pair_hit, pair_miss}
use Rattle.lent_tables.proofs.records.PairPairKey.is.Goals as goal

pub returns-then-key-key_of : goal.returns-then-key-key_of
returns-then-key-key_of c =
    let p = c.args.self in
    pair_hit p.device p.event c.args.key c.args.goal (omega arith) c.key_of.ensures c.if-key-key_of.true c.is_used.ensures

pub returns-else-key-key_of : goal.returns-else-key-key_of
returns-else-key-key_of c =
    let p = c.args.self in
    pair_miss p.device p.event c.args.key c.args.goal (omega arith) c.key_of.ensures c.if-key-key_of.false refl
