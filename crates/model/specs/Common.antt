-- Document 02, A3: "a common statement covers both profiles wherever they agree". Where they do: no mapped device is mapped again, no device is above 65535,
-- bit 63 of CBASER is set whenever the queue could run, and, with A4, no CWRITER write has bit 0 and no command is refused. What follows is
-- `guarantees: Profiles`.
-- Assumes nothing.
use Rattle.std.specs.Prelude.{ℕ, ◌≤◌, ◌<◌, ◌≡◌, true, false, List, None, Some}
use Rattle.model.specs.declared.ItsDeviceId.{ItsDeviceId}
use Rattle.model.specs.declared.ItsState.{ItsState}
use Rattle.model.specs.declared.ItsAction.{ItsAction}
use Rattle.model.specs.declared.RegisterWrite.{RegisterWrite}
use Rattle.model.specs.declared.Command.{Command}
use Rattle.model.specs.declared.Command.TheVariants.{Mapd}
use Rattle.model.specs.Arm.{◌of◌, CBASER_Valid, CWRITER_Retry, GITS_CWRITER}
use Rattle.model.specs.With.{with_config, with_registers, with_profile}
use Rattle.model.specs.Step.{device_mapped, device_named}
use Rattle.model.specs.Queue.{Window, waiting, run}
use Rattle.model.specs.Passed.{command_here}
use Rattle.model.specs.Entry.{stores}
use Rattle.model.specs.Writing.{then_runs}

-- the unit as it would be with another profile
abbrev pub in_profile : ℕ → ItsState → ItsState
in_profile n u = with_config u (with_profile u.config n)

-- The command x, met by the unit u: it names no device above 65535, and is no valid MAPD of a device that is mapped.
pub record Common (u : ItsState) (x : Command) : Type 0 where
  pub small : (d : ItsDeviceId) → device_named x ≡ Some d → d.0 ≤ 65535
  pub not_again : (d : ItsDeviceId) (bits : ℕ) → x ≡ Mapd d bits true → device_mapped u d ≡ false

-- Every command that a run of n commands meets is such a command: the one on which CREADR stands after i of them.
abbrev pub CommonRun : Window → ℕ → ItsState → Type 0
CommonRun w n u = (i : ℕ) → i < n → (x : Command) → command_here w (run w i u).unit.registers ≡ Some x → Common (run w i u).unit x

-- Of the queue that a write lets run; s is what the write does to the registers of the unit u.
pub record CommonQueue (w : Window) (u : ItsState) (s : RegisterWrite) : Type 0 where
  -- where the unit is enabled and commands wait, bit 63 of CBASER is set
  pub bit63 : then_runs s ≡ true → s.registers.enabled ≡ true → 0 < waiting s.registers → CBASER_Valid of s.registers.cbaser ≡ 1
  -- where they are no more than the budget, those that it meets are such commands
  pub commands : then_runs s ≡ true → s.registers.enabled ≡ true → waiting s.registers ≤ u.config.command_budget →
      CommonRun w (waiting s.registers) (with_registers u s.registers)
  -- and none of them is refused, which in strict stalls the unit (A4)
  pub none_refused : then_runs s ≡ true → s.registers.enabled ≡ true → waiting s.registers ≤ u.config.command_budget →
      (run w (waiting s.registers) (with_registers u s.registers)).stopped ≡ None

-- Of a write to the unit u.
pub record CommonWrite (w : Window) (row : List ItsAction) (u : ItsState) (offset width value : ℕ) : Type 0 where
  -- one of CWRITER has no bit 0, which in strict is Retry (A4); at the register's high half, GITS_CWRITER + 4, there is none. (A write that is refused at
  -- the entry is the same in both, whatever its value)
  pub no_retry : offset ≡ GITS_CWRITER → CWRITER_Retry of value ≡ 0
  pub queue : CommonQueue w u (stores row u offset width value)
