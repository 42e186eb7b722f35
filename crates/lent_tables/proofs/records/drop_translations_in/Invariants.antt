-- What a drop from the last record down knows: the records from there on are done, and nothing else has changed.
use Rattle.lent_tables.proofs.Drops.{DropsDown}
use Rattle.lent_tables.proofs.records.drop_translations_in.Given as goal

abbrev pub invariant-loop-at : goal.invariant-loop-at
invariant-loop-at l = DropsDown l.fn.collection l.initial.state l.at l.state
