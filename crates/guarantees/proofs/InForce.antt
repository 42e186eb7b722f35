-- DEMAND 3 over the contracts: what every access keeps (model: Held) is kept by every answer that meets the contracts, so it holds of every unit to which
-- calls led; and from it follows what is demanded.
-- Assumes nothing.
use Prim.Native.Nat.{◌≤◌}
use native.Mathlib.Omega.{arith}
use mathlib.Core.Path.{refl, sym, ap, subst, ◌∙◌}
use mathlib.Core.List.{List, [], ◌++◌}
use Rattle.model.specs.declared.ItsConfig.{ItsConfig}
use Rattle.model.specs.declared.ItsState.{ItsState}
use Rattle.model.specs.declared.Command.{Command}
use Rattle.model.specs.Entry.{stores}
use Rattle.model.specs.Profile.{profile_of}
use Rattle.model.proofs.Profiles.{is_strict_lem}
use Rattle.model.proofs.Held.{Held, configured_held, write_held, promised, translates, nowhere, only_8}
use Rattle.guarantees.specs.Actions.{passed_by, ActionsGiven}
use Rattle.guarantees.specs.Kept.{CommandsKept}
use Rattle.guarantees.specs.MappingsInForce.{Led, begins, a_read, a_translate, a_write, OfWritesTo, MappingsInForce}
use Rattle.guarantees.proofs.Kept.{commands_kept}
use Rattle.guarantees.proofs.Unsound.{sound_never_1}
use Rattle.guarantees.proofs.Along.{actions_held}

-- a unit to which calls led agrees with the history
pub held : {k : ItsConfig} {u : ItsState} {h : List Command} → Led k u h → Held k u h
held {k} (begins c e a) = subst (λ z. Held k z.unit []) (sym e.answer) (configured_held k (ap (λ z. z.verdict) (sym e.answer) ∙ a))
held (a_read l offset width r e) = held l
held (a_translate l d e r q) = held l
held {k} (a_write {u = u} {h = h} l w row offset width value r left e) =
    subst (λ z. Held k z.unit (passed_by w u z ++ h)) (sym e.answer) (write_held (held l) w row offset width value)

-- so what is demanded holds of it, with what every write keeps of the commands
demanded : {k : ItsConfig} {u : ItsState} {h : List Command} → Held k u h →
    OfWritesTo u (λ w row offset width value r left. CommandsKept w row u (stores row u offset width value) r left) → MappingsInForce k u h
demanded {k = k} {u = u} m commands =
    record {
      config = m.config;
      sound = m.sound;
      translates = λ d e r q x p. rw q.answer (translates m d e x p);
      nowhere = λ d e r q. rw q.answer (nowhere m d e);
      only_8 = λ d e r q why h. only_8 m d e why (sym q.answer ∙ h);
      numbers = λ d e r q why h. rw (h, only_8 m d e why (sym q.answer ∙ h)) refl;
      backed = (promised m).backed;
      below_capacity = λ s d e x c i. (promised m).below (is_strict_lem k s) d e x c (rw s i);
      announced = λ s d bits x. (promised m).announced (is_strict_lem k s) d bits x;
      not_announced = λ s d e r q above.
          q.answer
          ∙ (nowhere m d e).1 (λ l c i.
          let b = (promised m).backed d e l c i in
          let small : d.0 ≤ 65535 = (promised m).announced (is_strict_lem k s) d b.event_bits b.device_mapped_lem in
          omega (arith, small, above));
      never_1 = sound_never_1 u m.sound;
      commands = commands;
    }

-- THE THEOREMS.
pub mappings_in_force : {k : ItsConfig} {u : ItsState} {h : List Command} → Led k u h → MappingsInForce k u h
mappings_in_force {u = u} l = demanded (held l) (λ w row offset width value r left e. commands_kept w row u offset width value r left e)

pub actions_given : {k : ItsConfig} {u : ItsState} {h : List Command} → Led k u h → OfWritesTo u (λ w row offset width value r left. ActionsGiven (profile_of k) h w u r left)
actions_given l = actions_held (held l)
