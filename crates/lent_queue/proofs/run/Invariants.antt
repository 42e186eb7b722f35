-- Before each command those so far are those of the model's run: what is known then is said by Running.antt.
use Prim.Native.Nat.{◌-◌}
use Rattle.decoding.specs.Reading.{lent}
use Rattle.lent_queue.proofs.Running.{Running, on_with}
use Rattle.lent_queue.proofs.run.Given as goal

abbrev pub invariant-loop : goal.invariant-loop
invariant-loop l = Running (lent l.window.address l.window.bytes.now) l.count l.initial.state l.initial.row l.state l.row (on_with (l.count - l.counter) l.made)
