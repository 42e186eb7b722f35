-- `Progress::carry_out` meets its contract: by what carrying out the command came to.
use Rattle.queue.proofs.Ongoing.{halts_on, passes_on}
use Rattle.queue.proofs.Progress.carry_out.Goals as goal

pub returns-in-Err : goal.returns-in-Err
returns-in-Err c = let a = c.args in halts_on a.self a.x a.opcode c.execute-applied.ensures c.in-Err.is c.halt.ensures

pub returns : goal.returns
returns c =
    let a = c.args in
    passes_on a.self a.x a.opcode c.execute-applied.ensures c.in-Ok.is c.pass_command-unit.ensures c.is_some.ensures c.counted-next.ensures c.stand.ensures
