-- The row after a write, read back as actions, is the row that the model's write leaves: for every unit whose processors and LPIs have their bits,
-- and so for each that numbers are.
-- Assumes nothing.
use Prim.Native.Nat.{ℕ}
use mathlib.Core.Path.{◌≡◌, refl}
use mathlib.Core.List.{List, map}
use Rattle.model.specs.declared.ItsState.{ItsState}
use Rattle.model.specs.declared.RegisterWrite.{RegisterWrite}
use Rattle.model.specs.With.{with_registers}
use Rattle.model.specs.Queue.{Window}
use Rattle.model.specs.Entry.{running, concluded, stores, write}
use Rattle.model.proofs.Cases.{there_or}
use Rattle.lent_queue.specs.Actions.{action_in, row_with}
pub use Rattle.lent_queue.proofs.SmallNumbers.{SmallUnit, numbers_small}
use Rattle.lent_queue.proofs.SmallNumbers.{registers_small}
use Rattle.lent_queue.proofs.ReadBack.{row_reads}
use Rattle.host.specs.Calls.{actions_by, actions_made}

module _ (w : Window) (row : List ℕ) (u : ItsState) (small : SmallUnit u) where
  by_runs : (s : RegisterWrite) → map action_in (row_with (actions_by w u s) row) ≡ (concluded w (map action_in row) u s).row
  unfolding running
  by_runs s = there_or s.answer (λ a off. rw off refl) (λ on. rw on (row_reads w (with_registers u s.registers) (registers_small u s.registers small) row))

  pub made_reads : (offset width value : ℕ) →
      map action_in (row_with (actions_made w (map action_in row) u offset width value) row) ≡ (write w (map action_in row) u offset width value).row
  unfolding write
  made_reads offset width value = by_runs (stores (map action_in row) u offset width value)
