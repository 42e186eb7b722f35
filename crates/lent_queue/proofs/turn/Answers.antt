-- `lent_queue::turn` meets its contract: a command that was not read, one that is unknown, and one that is carried out.
use Rattle.std.proofs.Common.{◌≡◌, None, Ok, Some, is_ok, false, arith, refl, ◌∙◌}
use Rattle.std.proofs.lemmas.Grind.{common_steps}
use Rattle.model.specs.declared.Refusal.TheVariants.{NotInWindow, OpcodeUnknown}
use Rattle.model.specs.Decode.{decode}
use Rattle.answers.specs.Counting.{staying}
use Rattle.answers.proofs.Turning.{turn_stays}
use Rattle.decoding.specs.Reading.{lent}
use Rattle.decoding.proofs.Turning.{turn_reads, unread, known}
use Rattle.lent_tables.specs.Numbers.{unit_in}
use Rattle.lent_queue.proofs.Running.{turns_on}
use Rattle.lent_queue.proofs.Words.{address_fits, read_here, unknown_here}
use Rattle.lent_queue.proofs.turn.Goals as goal

pub overflow_add-wanted : goal.overflow_add-wanted
overflow_add-wanted c = record { fits = rw c.queue_base.ensures (address_fits c.args.state.now c.requires.0) }

pub returns-in_err-words : goal.returns-in_err-words
returns-in_err-words c =
    let w = lent c.args.window.address c.args.window.bytes.now in
    let u = unit_in c.args.state.now in
    let here = turn_reads w u (read_here w c.args.state.now c.queue_base.ensures c.command.ensures) in
    let none : c.command.result ≡ None = grind (arith, common_steps) steps 800000 in
    let told : c.from_residual.result ≡ staying NotInWindow 0 = grind (arith, common_steps) steps 800000 in
    turns_on (turn_stays (here ∙ unread u c.command.result none) told) refl

pub returns-in_err-x : goal.returns-in_err-x
returns-in_err-x c =
    let w = lent c.args.window.address c.args.window.bytes.now in
    let u = unit_in c.args.state.now in
    let here = turn_reads w u (read_here w c.args.state.now c.queue_base.ensures c.command.ensures) in
    let words : c.command.result ≡ Some c.in_ok-words.words = grind (arith, common_steps) steps 800000 in
    let told : c.from_residual-in_err-x.result ≡ staying OpcodeUnknown c.opcode-opcode.result = grind (arith, common_steps) steps 800000 in
    let not_known : is_ok (decode c.in_ok-words.words) ≡ false = grind (arith, common_steps) steps 800000 in
    turns_on (turn_stays (here ∙ unknown_here u words c.opcode-opcode.ensures not_known) told) refl

pub returns : goal.returns
returns c =
    let w = lent c.args.window.address c.args.window.bytes.now in
    let u = unit_in c.args.state.now in
    let here = turn_reads w u (read_here w c.args.state.now c.queue_base.ensures c.command.ensures) in
    let words : c.command.result ≡ Some c.in_ok-words.words = grind (arith, common_steps) steps 800000 in
    let came : decode c.in_ok-words.words ≡ Ok c.in_ok-x.x = grind (arith, common_steps) steps 800000 in
    rw (here ∙ known u c.command.result words c.opcode-opcode.ensures came) c.carry_out.ensures
