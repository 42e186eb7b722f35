-- `inforce::lines::put_devices` meets its contract: the lines of the records that are left, laid from here on, give the same output as all of them.
use Prim.Native.Nat.{◌-◌, ◌≤◌}
use native.Mathlib.Omega.{arith}
use mathlib.Core.Path.{◌≡◌, ◌∙◌, ap}
use lib.ListN.{length}
use Rattle.model.proofs.TableLoops.{length_mapped}
use Rattle.mappings.specs.Mappings.{mapped_at}
use Rattle.text.specs.Laying.{output, lay_all}
use Rattle.inforce.specs.Shown.{device_line}
use Rattle.inforce.proofs.Left.{left, laid_on, none_left, all_devices}
use borrow.Author.Rules.{rules}
use Rattle.inforce.proofs.lines.put_devices.Goals as goal

pub loop-i-preserved : goal.loop-i-preserved
loop-i-preserved c =
    let h = c.loop-i in
    let u = c.args.unit in (
      laid_on (mapped_at u) device_line 32 h.i (omega arith) (output h.out h.next) _ (rw (← c.device_at.ensures) c.put_device-next.ensures) ∙ h.invariant.0,
      c.put_device-next.auto.out ∙ h.invariant.1,
      h.invariant.2,
      omega arith,
    )

pub returns : goal.returns
returns c =
    let h = c.loop-i in
    let a = c.args in
    rw (none_left (mapped_at a.unit) device_line 32 h.i (omega arith)) at h.invariant.0 ∙ ap (lay_all (output a.out.now a.laid)) (all_devices a.unit h.invariant.2)
