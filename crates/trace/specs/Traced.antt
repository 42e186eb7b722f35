-- What the C call promises: the predicate that its `ensures` names, over the trace, the output before the call, the number returned and the output
-- afterwards. It asks nothing of the inputs.
-- Assumes nothing.
use Rattle.std.specs.Prelude.{ℕ, ◌≡◌, List}
use Rattle.model.specs.Trace.{returned, output_after}

abbrev pub Traced : List ℕ → List ℕ → ℕ → List ℕ → Type 0
Traced trace out r left = (r ≡ returned trace out) × (left ≡ output_after trace out)
