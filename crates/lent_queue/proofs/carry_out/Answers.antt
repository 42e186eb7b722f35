-- `lent_queue::carry_out` meets its contract: by what carrying out the command came to.
use Rattle.std.proofs.Common.{◌≡◌, Err, None, Ok, Some, arith}
use Rattle.std.proofs.lemmas.Grind.{common_steps}
use Rattle.model.proofs.RunLaws.{stands_stepped}
use Rattle.answers.specs.Counting.{staying}
use Rattle.lent_tables.specs.Numbers.{unit_in}
use Rattle.lent_queue.proofs.Words.{reader_small}
use Rattle.lent_queue.proofs.Running.{carried_refused, carried_done, carried_acted}
use Rattle.lent_queue.proofs.carry_out.Goals as goal

pub returns-in_err-action : goal.returns-in_err-action
returns-in_err-action c =
    let why = c.in_err-action.field-0.0.refusal in
    let came : c.execute.result ≡ Err why = grind (arith, common_steps) steps 800000 in
    let told : c.from_residual.result ≡ staying why c.args.opcode = grind (arith, common_steps) steps 800000 in
    carried_refused c.execute.new.state c.args.x c.args.opcode c.execute.ensures came told

pub pass_command-requires : goal.pass_command-requires
pass_command-requires c = reader_small c.execute.new.state (stands_stepped (unit_in c.args.state.now) c.args.x c.requires.0 c.execute.ensures.1)

pub returns-in_default : goal.returns-in_default
returns-in_default c =
    let came : c.execute.result ≡ Ok None = grind (arith, common_steps) steps 800000 in
    carried_done c.execute.new.state c.args.x c.args.opcode c.execute.ensures c.pass_command.ensures came

pub pass_command-requires-2 : goal.pass_command-requires-2
pass_command-requires-2 c = reader_small c.execute.new.state (stands_stepped (unit_in c.args.state.now) c.args.x c.requires.0 c.execute.ensures.1)

pub returns : goal.returns
returns c =
    let came : c.execute.result ≡ Ok (Some c.in-Some.a) = grind (arith, common_steps) steps 800000 in
    carried_acted c.execute.new.state c.args.x c.args.opcode c.execute.ensures c.pass_command-2.ensures came c.action_word.ensures
