-- `lent_queue::process_commands` meets its contract: the queue may not run, more commands wait than the budget, or they are run.
use mathlib.Core.Path.{sym, ◌∙◌}
use native.Mathlib.Omega.{arith}
use Rattle.decoding.specs.Reading.{lent}
use Rattle.lent_queue.proofs.Queued.{is_off, is_over, is_ended, is_stopped}
use Rattle.lent_queue.proofs.process_commands.Goals as goal

pub returns-then-not-may_run : goal.returns-then-not-may_run
returns-then-not-may_run c =
    let a = c.args in
    is_off (lent a.window.address a.window.bytes.now) a.state.now a.row.now (sym c.may_run.ensures ∙ c.if-not-may_run.true)

pub returns-then-budget-count : goal.returns-then-budget-count
returns-then-budget-count c =
    let a = c.args in
    is_over (lent a.window.address a.window.bytes.now) a.state.now a.row.now (sym c.may_run.ensures ∙ c.if-not-may_run.false) c.waiting-count.ensures
    (omega (arith, c.from-budget.ensures, c.command_budget_in.ensures, c.if-budget-count.true)) c.unread-over.ensures c.refused.ensures

pub returns-then-is_err : goal.returns-then-is_err
returns-then-is_err c =
    let a = c.args in
    is_stopped (lent a.window.address a.window.bytes.now) a.state.now a.row.now (sym c.may_run.ensures ∙ c.if-not-may_run.false) c.waiting-count.ensures
    (omega (arith, c.from-budget.ensures, c.command_budget_in.ensures, c.if-budget-count.false)) c.run-answer.ensures (sym c.is_err.ensures.value ∙ c.if-is_err.true) c.stall.ensures

pub returns-else-is_err : goal.returns-else-is_err
returns-else-is_err c =
    let a = c.args in
    is_ended (lent a.window.address a.window.bytes.now) a.state.now a.row.now (sym c.may_run.ensures ∙ c.if-not-may_run.false) c.waiting-count.ensures
    (omega (arith, c.from-budget.ensures, c.command_budget_in.ensures, c.if-budget-count.false)) c.run-answer.ensures (sym c.is_err.ensures.value ∙ c.if-is_err.false)
