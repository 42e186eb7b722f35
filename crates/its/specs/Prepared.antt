-- A write up to its run: the unit with the registers that it leaves, and a run that begins there, or none. No sentence of document 01 stands here: the
-- registers are the model's `register_write`, and proofs/Writes.antt shows that such a beginning ends as the model's write does.
-- Assumes nothing.
use Rattle.std.specs.Prelude.{ℕ}
use Rattle.model.specs.declared.ItsState.{ItsState}
use Rattle.model.specs.declared.RegisterWrite.{RegisterWrite}
use Rattle.model.specs.Choose.{if_found}
use Rattle.model.specs.With.{with_registers}
use Rattle.model.specs.Writing.{register_write}
use Rattle.queue.specs.declared.Progress.{Progress}
use Rattle.queue.specs.Ongoing.{start_of, settled_of}

abbrev pub prepared_by : ItsState → RegisterWrite → Progress
prepared_by u s = if_found s.answer (settled_of (with_registers u s.registers)) (start_of (with_registers u s.registers))

unfoldable pub prepared : ItsState → ℕ → ℕ → ℕ → ℕ → Progress
prepared u room offset width value = prepared_by u (register_write u.config u.registers room offset width value)
