-- `trace::records::step` meets its contract: by the mark.
use Rattle.std.proofs.Common.{rules}
use Rattle.trace.specs.declared.Mark.TheVariants.{Cf, Gm, Rd, Wr, Tr}
use Rattle.trace.proofs.Stepped.{stepped, unmarked}
use Rattle.trace.proofs.records.step.Goals as goal

pub returns-in-Some-Cf : goal.returns-in-Some-Cf
returns-in-Some-Cf c =
    let a = c.args in
    let m = c.mark_at in
    let r = c.configured in
    stepped Cf a.trace.now a.out.now a.run r.new.out r.result m.result m.ensures (search rules) r.ensures

pub returns-in-Some-Gm : goal.returns-in-Some-Gm
returns-in-Some-Gm c =
    let a = c.args in
    let m = c.mark_at in
    let r = c.windowed in
    stepped Gm a.trace.now a.out.now a.run r.new.out r.result m.result m.ensures (search rules) r.ensures

pub returns-in-Some-Rd : goal.returns-in-Some-Rd
returns-in-Some-Rd c =
    let a = c.args in
    let m = c.mark_at in
    let r = c.read in
    stepped Rd a.trace.now a.out.now a.run r.new.out r.result m.result m.ensures (search rules) r.ensures

pub returns-in-Some-Wr : goal.returns-in-Some-Wr
returns-in-Some-Wr c =
    let a = c.args in
    let m = c.mark_at in
    let r = c.written in
    stepped Wr a.trace.now a.out.now a.run r.new.out r.result m.result m.ensures (search rules) r.ensures

pub returns-in-Some-Tr : goal.returns-in-Some-Tr
returns-in-Some-Tr c =
    let a = c.args in
    let m = c.mark_at in
    let r = c.translated in
    stepped Tr a.trace.now a.out.now a.run r.new.out r.result m.result m.ensures (search rules) r.ensures

pub returns-in-None : goal.returns-in-None
returns-in-None c =
    let a = c.args in
    let m = c.mark_at in
    let r = c.broken_off in
    unmarked a.trace.now a.out.now a.run r.new.out r.result m.result m.ensures c.in-None.is r.ensures
