-- Before each turn the commands so far are those of the model's run: what is known then is said by Ongoing.antt (`Running`). Each turn leaves fewer.
use Rattle.decoding.specs.Reading.{lent}
use Rattle.queue.proofs.Ongoing.{Running}
use Rattle.queue.proofs.process_commands.Given as goal

abbrev pub invariant-loop-t : goal.invariant-loop-t
invariant-loop-t l = Running (lent l.window.address l.window.bytes.now) l.initial.t l.initial.row l.t l.row

abbrev pub decreases-loop-t : goal.decreases-loop-t
decreases-loop-t l = l.t.counts.left
