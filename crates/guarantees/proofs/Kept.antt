-- WHAT A WRITE KEEPS of the ring and of the commands. On a sound unit a write does what a run of some number of commands does (model: AsRun); the
-- commands are those of the run, or none, by the way that the write goes.
-- Assumes nothing.
use Prim.Native.Nat.{ℕ}
use native.Mathlib.Omega.{arith}
use mathlib.Core.Path.{◌≡◌, refl}
use mathlib.Core.Bool.{true, false}
use mathlib.Core.List.{List, []}
use Rattle.model.specs.declared.ItsState.{ItsState}
use Rattle.model.specs.declared.ItsAction.{ItsAction}
use Rattle.model.specs.declared.RegisterWrite.{RegisterWrite}
use Rattle.model.specs.declared.Written.{Written}
use Rattle.model.specs.With.{with_registers}
use Rattle.model.specs.Config.{sound_unit}
use Rattle.model.specs.Queue.{Window}
use Rattle.model.specs.Writing.{refusing, storing, rebasing, going, then_runs}
use Rattle.model.specs.Entry.{Outcome, stores}
use Rattle.model.specs.Passed.{nothing}
use Rattle.model.proofs.Cases.{never}
use Rattle.model.proofs.Ways.{Way, checked, no_base, no_writer, quiet, based, off, over, ran, way, AsRun, as_run, run_kept, fewer, stays_sound}
use Rattle.its.specs.Promises.{Writes}
use Rattle.guarantees.specs.Actions.{done_in, actions_in}
use Rattle.guarantees.specs.Kept.{RingKept, CommandsKept}
use Rattle.guarantees.proofs.Stopped.{commands_run}

module _ (w : Window) (row : List ItsAction) (u : ItsState) (offset width value : ℕ) where
  -- THE RING.
  module _ (sound : sound_unit u ≡ true) {s : RegisterWrite} {o : Outcome} (a : AsRun w row u offset width value s o) where
    ring_by_run : (then_runs s ≡ false → done_in o.written ≡ 0) → RingKept u s o.written
    ring_by_run none_run =
        record {
          sound = stays_sound w row u offset width value sound a;
          at_most = rw a.done (fewer w row u offset width value sound a);
          not_run = none_run;
          may_not = λ e. omega (arith, a.done, (run_kept w row u offset width value sound a).at_most, a.may_not e);
        }

  -- a write that lets no queue run
  idle : {s : RegisterWrite} {o : Outcome} → Way w row u offset width value s o → then_runs s ≡ false → done_in o.written ≡ 0
  idle (checked why c) h = refl
  idle (no_base sound) h = refl
  idle (no_writer sound at) h = refl
  idle (quiet s g) h = refl
  idle (based s c k z) h = refl
  idle (off s g out) h = refl
  idle (over s g on more) h = refl
  idle (ran s g on within) h = never true refl h

  -- THE COMMANDS. Where none was carried out, the row is unchanged.
  none_carried : (s : RegisterWrite) (r : Written) → r.unit ≡ with_registers u s.registers → done_in r ≡ 0 → actions_in r ≡ 0 → CommandsKept w row u s r row
  none_carried s r v d a =
      record {
        shown = rw d;
        handed = [];
        led_to = with_registers u s.registers;
        carried = rw d nothing;
        unit_left = rw v refl;
        in_row = refl;
        room = refl;
        handed_over = a;
      }

  commands_by_way : {s : RegisterWrite} {o : Outcome} → Way w row u offset width value s o → CommandsKept w row u s o.written o.row
  commands_by_way (checked why c) = none_carried (refusing u.registers _ why) _ refl refl refl
  commands_by_way (no_base sound) = none_carried (refusing u.registers _ _) _ refl refl refl
  commands_by_way (no_writer sound at) = none_carried (refusing u.registers _ _) _ refl refl refl
  commands_by_way (quiet s g) = none_carried (storing s) _ refl refl refl
  commands_by_way (based s c k z) = none_carried (rebasing s) _ refl refl refl
  commands_by_way (off s g out) = none_carried (going s) _ refl refl refl
  commands_by_way (over s g on more) = none_carried (going s) _ refl refl refl
  commands_by_way (ran s g on within) = commands_run w row u offset width value s g on within

  -- THE THEOREMS.
  module _ (r : Written) (left : List ItsAction) (e : Writes w row u offset width value r left) where
    pub ring_kept : sound_unit u ≡ true → RingKept u (stores row u offset width value) r
    ring_kept sound =
        let y = way w row u offset width value in
        rw e.answer (ring_by_run sound (as_run w row u offset width value sound y) (idle y))

    pub commands_kept : CommandsKept w row u (stores row u offset width value) r left
    commands_kept = rw (e.answer, e.row_is) (commands_by_way (way w row u offset width value))
