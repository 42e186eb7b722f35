-- The unit agrees with a history: it says of each device, collection and pair what the history says in the unit's profile. Each command that is carried out keeps that.
-- Assumes nothing.
use mathlib.Core.Path.{◌≡◌, refl, sym, ap, ◌∙◌}
use mathlib.Core.Bool.{true}
use mathlib.Core.List.{List, [], ◌∷◌}
use Rattle.model.specs.declared.ItsDeviceId.{ItsDeviceId}
use Rattle.model.specs.declared.EventId.{EventId}
use Rattle.model.specs.declared.CollectionId.{CollectionId}
use Rattle.model.specs.declared.ItsConfig.{ItsConfig}
use Rattle.model.specs.declared.ItsState.{ItsState}
use Rattle.model.specs.declared.Command.{Command}
use Rattle.model.specs.Profile.{profile_of}
use Rattle.model.specs.Config.{fresh_unit}
use Rattle.model.specs.Step.{effect, accepts}
use Rattle.model.specs.History.{after, of_device_says, device_now, of_collection_says, collection_now, part_in, pair_after, pair_now}
use Rattle.model.proofs.Effects.{bits_in, target_in, entry_in, Clean, devices_effect, collections_effect, pairs_effect, rest_effect}

pub record Agrees (h : List Command) (u : ItsState) : Type 0 where
  pub devices : (d : ItsDeviceId) → bits_in u d ≡ device_now d h
  pub collections : (c : CollectionId) → target_in u c ≡ collection_now c h
  pub pairs : (d : ItsDeviceId) (e : EventId) → entry_in u d e ≡ pair_now (profile_of u.config) d e h

-- a fresh unit agrees with the empty history: antt computes it
pub agrees_fresh : (k : ItsConfig) → Agrees [] (fresh_unit k)
agrees_fresh k = record { devices = λ d. refl; collections = λ c. refl; pairs = λ d e. refl }

pub agrees_step : (u : ItsState) (h : List Command) → Agrees h u → (x : Command) → Clean u x → accepts u x ≡ true → Agrees (x ∷ h) (effect u x)
agrees_step u h a x clean ok =
    record {
      devices = λ d. devices_effect u x ok d ∙ ap (after (of_device_says d x)) (a.devices d);
      collections = λ c. collections_effect u x ok c ∙ ap (after (of_collection_says c x)) (a.collections c);
      pairs = λ d e.
          pairs_effect u x clean ok d e
          ∙ (ap (pair_after (part_in (profile_of u.config) d e x)) (a.pairs d e)
          ∙ ap (λ k. pair_now (profile_of k) d e (x ∷ h)) (sym (rest_effect u x ok).0));
    }
