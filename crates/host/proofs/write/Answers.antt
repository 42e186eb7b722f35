-- `host::write` meets its contract.
use mathlib.Core.Path.{sym, ◌∙◌}
use Rattle.lent_queue.specs.Turns.{lent}
use Rattle.host.proofs.Written.{ready, wrote_ran, wrote_left, wrote_none}
use Rattle.host.proofs.write.Goals as goal

pub returns-then-not-is_laid_out : goal.returns-then-not-is_laid_out
returns-then-not-is_laid_out c =
    let a = c.args in
    wrote_none (lent a.window.address a.window.bytes.now) a.row.now a.state.now a.offset a.width a.value (sym c.is_laid_out.ensures ∙ c.if-not-is_laid_out.true)

pub process_commands-requires : goal.process_commands-requires
process_commands-requires c =
    let a = c.args in
    ready (lent a.window.address a.window.bytes.now) a.row.now a.state.now a.offset a.width a.value
    c.write-write.result c.frame_in.result c.frame_in.ensures c.write-write.ensures
    c.put_registers.new.state c.put_registers.ensures (sym c.is_laid_out.ensures ∙ c.if-not-is_laid_out.false)
    c.in-None.is

pub returns-in-None : goal.returns-in-None
returns-in-None c =
    let a = c.args in
    wrote_ran (lent a.window.address a.window.bytes.now) a.row.now a.state.now a.offset a.width a.value
    c.write-write.result c.frame_in.result c.frame_in.ensures c.write-write.ensures
    c.put_registers.new.state c.put_registers.ensures (sym c.is_laid_out.ensures ∙ c.if-not-is_laid_out.false)
    c.in-None.is
    c.process_commands.ensures

pub returns-in-Some : goal.returns-in-Some
returns-in-Some c =
    let a = c.args in
    wrote_left (lent a.window.address a.window.bytes.now) a.row.now a.state.now a.offset a.width a.value
    c.write-write.result c.frame_in.result c.frame_in.ensures c.write-write.ensures
    c.put_registers.new.state c.put_registers.ensures (sym c.is_laid_out.ensures ∙ c.if-not-is_laid_out.false)
    c.in-Some.is
