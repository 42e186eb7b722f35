-- `registers::sizes::none_twice` meets its contract: what is left decides.
use Rattle.std.proofs.Common.{◌≡◌, length, take}
use Rattle.model.specs.Config.{none_twice}
use Rattle.registers.proofs.sizes.none_twice.Given as goal

abbrev pub invariant-loop-p : goal.invariant-loop-p
invariant-loop-p l = none_twice l.left ≡ none_twice (take l.fn.count l.fn.processors)

abbrev pub decreases-loop-p : goal.decreases-loop-p
decreases-loop-p l = length l.left
