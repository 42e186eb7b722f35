-- `lent_queue::run` meets its contract. The invariant is `Running`: what is left to do gives the same end as the whole.
use Rattle.std.proofs.Common.{◌≡◌, Err, Ok, is_ok, false, arith}
use Rattle.std.proofs.lemmas.Grind.{common_steps}
use Rattle.answers.specs.declared.Halt.{Halt}
use Rattle.answers.specs.Counting.{refused_at}
use Rattle.decoding.specs.Reading.{lent}
use Rattle.lent_tables.specs.Numbers.{CREADR, word}
use Rattle.lent_queue.proofs.Running.{run_starts, run_asks, run_small, run_passes, run_refused, run_done}
use Rattle.lent_queue.proofs.run.Goals as goal

pub loop-init : goal.loop-init
loop-init c =
    let b = c.before.before in
    run_starts (lent b.args.window.address b.args.window.bytes.now) b.args.count b.args.state.now b.args.row.now b.requires.0 b.requires.1 b.requires.2

pub turn-turned-requires : goal.turn-turned-requires
turn-turned-requires c = run_asks (lent c.args.window.address c.args.window.bytes.now) c.loop.invariant c.loop-test.true

pub returns-in_err-acted : goal.returns-in_err-acted
returns-in_err-acted c =
    let refused : is_ok c.turn-turned.result ≡ false = grind (arith, common_steps) steps 800000 in
    let told : (h : Halt) → c.turn-turned.result ≡ Err h → c.from_residual.result ≡ Err (refused_at h c.loop.made (word c.turn-turned.new.state CREADR)) = grind (arith, common_steps) steps 800000 in
    run_refused (lent c.args.window.address c.args.window.bytes.now) c.loop.invariant c.loop-test.true c.turn-turned.ensures refused told

pub overflow_add-made : goal.overflow_add-made
overflow_add-made c =
    let small = run_small (lent c.args.window.address c.args.window.bytes.now) c.loop.invariant c.loop-test.true in
    record { fits = omega (arith, small.0) }

pub overflow_add-made-in-loop : goal.overflow_add-made-in-loop
overflow_add-made-in-loop c =
    let small = run_small (lent c.args.window.address c.args.window.bytes.now) c.loop.invariant c.loop-test.true in
    grind (arith, common_steps, small.1) steps 800000

pub loop-preserved : goal.loop-preserved
loop-preserved c =
    let came : c.turn-turned.result ≡ Ok c.in_ok-acted.acted = grind (arith, common_steps) steps 800000 in
    run_passes (lent c.args.window.address c.args.window.bytes.now) c.loop.invariant c.loop-test.true c.turn-turned.ensures came c.from.ensures

pub returns : goal.returns
returns c = run_done (lent c.args.window.address c.args.window.bytes.now) c.loop.invariant (omega (arith, c.loop-test.false))
