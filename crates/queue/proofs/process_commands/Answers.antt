-- `queue::process_commands` meets its contract: what the turns add up to is said by Ongoing.antt. Each turn leaves fewer commands, and its action has a
-- place in the row.
use mathlib.Core.Path.{sym, ◌∙◌}
use Rattle.decoding.specs.Reading.{lent}
use Rattle.queue.proofs.Ongoing.{running_less, running_placed}
use Rattle.queue.proofs.process_commands.Goals as goal

pub store_action-requires : goal.store_action-requires
store_action-requires c =
    let a = c.args in
    running_placed (lent a.window.address a.window.bytes.now) a.begun a.row.now (sym c.goes_on.ensures ∙ c.loop-t-test.true) c.loop-t.invariant c.read_command.ensures c.turn-t.ensures

pub loop-t-smaller-in-Some : goal.loop-t-smaller-in-Some
loop-t-smaller-in-Some c =
    let a = c.args in
    running_less (lent a.window.address a.window.bytes.now) a.begun a.row.now (sym c.goes_on.ensures ∙ c.loop-t-test.true) c.loop-t.invariant c.read_command.ensures c.turn-t.ensures

pub loop-t-smaller : goal.loop-t-smaller
loop-t-smaller c =
    let a = c.args in
    running_less (lent a.window.address a.window.bytes.now) a.begun a.row.now (sym c.goes_on.ensures ∙ c.loop-t-test.true) c.loop-t.invariant c.read_command.ensures c.turn-t.ensures
