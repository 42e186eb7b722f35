-- Commands that were carried out keep what demand 3 rests on: the unit agrees with the history that they lengthen, each pair in force stays
-- backed, and the configuration is the same.
-- Assumes nothing.
use mathlib.Core.Path.{◌≡◌, refl, ◌∙◌}
use mathlib.Core.List.{List, ◌++◌}
use Rattle.model.specs.declared.ItsRegisters.{ItsRegisters}
use Rattle.model.specs.declared.ItsState.{ItsState}
use Rattle.model.specs.declared.ItsAction.{ItsAction}
use Rattle.model.specs.declared.Command.{Command}
use Rattle.model.specs.With.{with_registers}
use Rattle.model.specs.Queue.{carry_out}
use Rattle.model.specs.Passed.{CarriedOut, nothing, one_more}
use Rattle.model.proofs.Agreement.{Agrees, agrees_step}
use Rattle.model.proofs.Backing.{Sound, clean, sound_step}
use Rattle.model.proofs.Turns.{carried_config}

-- the registers have no part in it
pub agrees_registers : (u : ItsState) (h : List Command) (r : ItsRegisters) → Agrees h u → Agrees h (with_registers u r)
agrees_registers u h r a = record { devices = a.devices; collections = a.collections; pairs = a.pairs }

pub record Lengthened (u v : ItsState) (h : List Command) : Type 0 where
  pub config : v.config ≡ u.config
  pub agrees : Agrees h v
  pub sound : Sound u.config h

pub lengthened : {u v : ItsState} {g : List Command} {handed : List ItsAction} (h : List Command) → CarriedOut u g handed v → Agrees h u → Sound u.config h → Lengthened u v (g ++ h)
unfolding carry_out
lengthened h nothing a s = record { config = refl; agrees = a; sound = s }
lengthened h (one_more {v = v} {h = g} c x ok) a s =
    let m = lengthened h c a s in
    record {
      config = carried_config v x ok ∙ m.config;
      agrees = agrees_registers _ _ _ (agrees_step v (g ++ h) m.agrees x (clean v (g ++ h) m.agrees (rw m.config m.sound) x) ok);
      sound = rw m.config at (sound_step v (g ++ h) m.agrees (rw m.config m.sound) x ok);
    }
