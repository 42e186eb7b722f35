-- `inforce::lines::put_devices` meets its contract: the lines of the records that are left, laid from here on, give the same output as all of them.
use Prim.Native.Nat.{◌-◌, ◌≤◌}
use native.Mathlib.Omega.{arith}
use mathlib.Core.Path.{◌≡◌, ◌∙◌, ap}
use lib.ListN.{length}
use Rattle.model.proofs.TableLoops.{length_mapped}
use Rattle.mappings.specs.Mappings.{mapped_at}
use Rattle.text.specs.Laying.{output, lay_all}
use Rattle.inforce.specs.Shown.{device_line}
use Rattle.inforce.proofs.Left.{left, laid_on, none_left, all_devices}
use borrow.Author.Rules.{rules}
use Rattle.inforce.proofs.lines.put_devices.Given as goal

abbrev pub invariant-loop-i : goal.invariant-loop-i
invariant-loop-i l = (lay_all (output l.out l.next)
    (left (mapped_at l.unit) device_line 32 l.i) ≡ lay_all (output l.initial.out l.initial.next)
    (left (mapped_at l.unit) device_line 32 0)) × (length l.out ≡ length l.initial.out) × (length l.unit.devices ≡ 32) × (l.i ≤ 32)
