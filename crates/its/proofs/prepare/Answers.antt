-- `its::prepare` meets its contract: the unit with the registers that the write leaves, and a run that begins there, or none.
use Rattle.std.specs.Prelude.{None, Some, is_none}
use mathlib.Core.Path.{◌≡◌, sym, ap, ◌∙◌}
use mathlib.Core.Bool.{true, false}
use Prim.Native.Nat.{ℕ}
use Rattle.model.specs.declared.ItsState.{ItsState}
use Rattle.model.specs.declared.RegisterWrite.{RegisterWrite}
use Rattle.registers.specs.declared.Frame.{Frame}
use Rattle.model.specs.Answer.{WriteAnswer}
use Rattle.model.specs.With.{with_registers}
use Rattle.model.specs.Writing.{register_write, then_runs}
use Rattle.model.proofs.Ways.{runs_ready}
use Rattle.queue.specs.declared.Progress.{Progress}
use Rattle.model.specs.Queue.{Stands}
use Rattle.queue.specs.Ongoing.{start_of, settled_of}
use Rattle.its.specs.Prepared.{prepared}
use Rattle.model.proofs.RunLaws.{sound_stands}
use Rattle.its.proofs.prepare.Goals as goal

-- s is what the write does to the registers
module _ (u : ItsState) (room offset width value : ℕ) {s : RegisterWrite} {f : Frame} (framed : f ≡ record { config = u.config; registers = u.registers })
    (does : s ≡ register_write f.config f.registers room offset width value) where
  is : s ≡ register_write u.config u.registers room offset width value
  is = does ∙ ap (λ g. register_write g.config g.registers room offset width value) framed

  stands : s.answer ≡ None → Stands (with_registers u s.registers)
  stands h =
      let k = (runs_ready u room offset width value (sym (ap then_runs is) ∙ ap is_none h)).0 in
      sound_stands (with_registers u s.registers) (rw is k)

  runs : s.answer ≡ None → {r : Progress} → r ≡ start_of (with_registers u s.registers) → r ≡ prepared u room offset width value
  unfolding prepared
  runs h e = rw (← is, h) e

  rests : {a : WriteAnswer} → s.answer ≡ Some a → {r : Progress} → r ≡ settled_of (with_registers u s.registers) a → r ≡ prepared u room offset width value
  unfolding prepared
  rests h e = rw (← is, h) e

pub start-requires : goal.start-requires
start-requires c = let a = c.args in stands a.unit a.room a.offset a.width a.value c.frame.ensures c.write-write.ensures c.in-None.is

pub returns-in-None : goal.returns-in-None
returns-in-None c = let a = c.args in runs a.unit a.room a.offset a.width a.value c.frame.ensures c.write-write.ensures c.in-None.is c.start.ensures

pub returns-in-Some : goal.returns-in-Some
returns-in-Some c = let a = c.args in rests a.unit a.room a.offset a.width a.value c.frame.ensures c.write-write.ensures c.in-Some.is c.settled.ensures
