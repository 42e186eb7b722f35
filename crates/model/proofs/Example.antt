-- 01's example, its last corner, what a refused write hands over (02, A2), the strict profile (02, A3), and
-- Retry and Stalled there (02, A4), computed from the definitions: their bytes give their lines.
-- Assumes nothing.
use mathlib.Core.Path.{◌≡◌, refl}
use Rattle.model.specs.Example.{example_trace, example_lines, corner_trace, corner_lines, handed_trace, handed_lines, strict_trace, strict_lines, retry_trace, retry_lines}
use Rattle.model.proofs.Computed.{shown}

pub example : shown example_trace ≡ example_lines
unfolding shown example_trace example_lines
example = refl

pub opcode_0e : shown corner_trace ≡ corner_lines
unfolding shown example_trace example_lines corner_trace corner_lines
opcode_0e = refl

pub handed_before : shown handed_trace ≡ handed_lines
unfolding shown example_trace example_lines handed_trace handed_lines
handed_before = refl

pub strict_example : shown strict_trace ≡ strict_lines
unfolding shown strict_trace strict_lines
strict_example = refl

pub retry_example : shown retry_trace ≡ retry_lines
unfolding shown retry_trace retry_lines
retry_example = refl
