-- THE THEOREM: of every unit to which calls led, the lists are those of the history.
-- Assumes nothing.
use Rattle.std.specs.Prelude.{Option, Some}
use mathlib.Core.Path.{◌≡◌, sym, ap, ◌∙◌}
use mathlib.Core.List.{List}
use Rattle.model.specs.declared.ItsDeviceId.{ItsDeviceId}
use Rattle.model.specs.declared.EventId.{EventId}
use Rattle.model.specs.declared.CollectionId.{CollectionId}
use Rattle.model.specs.declared.LpiId.{LpiId}
use Rattle.model.specs.declared.GicVcpuId.{GicVcpuId}
use Rattle.model.specs.declared.ItsConfig.{ItsConfig}
use Rattle.model.specs.declared.ItsState.{ItsState}
use Rattle.model.specs.declared.Command.{Command}
use Rattle.model.specs.Profile.{Profile, profile_of}
use Rattle.model.specs.History.{an_entry, collection_now, pair_now}
use Rattle.model.specs.Paragraph.{InForce, ProcessorOf}
use Rattle.model.proofs.Cases.{found}
use Rattle.model.proofs.Held.{Held}
use Rattle.model.proofs.Mapped.{device_mapped_lem, processor_of, mapped_processor}
use Rattle.model.proofs.Paragraph.{in_force}
use Rattle.guarantees.specs.MappingsInForce.{Led}
use Rattle.guarantees.proofs.InForce.{held}
use Rattle.mappings.specs.Listed.{Listed}
use Rattle.mappings.proofs.Holds.{Holds, listed_held, held_listed, pair_once}
use Rattle.mappings.proofs.HoldsDevices.{listed_bits, bits_listed, only_used, device_once}

module _ {k : ItsConfig} {u : ItsState} {h : List Command} (keeps : Held k u h) where
  abbrev f : Profile
  f = profile_of u.config

  -- what the unit holds is what the commands put in force
  module _ (d : ItsDeviceId) (e : EventId) (l : LpiId) (c : CollectionId) (p : GicVcpuId) where
    in_history : Holds u d e l c p → InForce f h d e l c × ProcessorOf h c p
    in_history s = (
      (in_force f d e h l c).1 (sym (keeps.agrees.pairs d e) ∙ s.entry),
      (processor_of c h p).1 (mapped_processor c h p (sym (keeps.agrees.collections c) ∙ s.target)),
    )

    in_unit : InForce f h d e l c × ProcessorOf h c p → Holds u d e l c p
    in_unit (i, o) =
        let now : pair_now f d e h ≡ Some (an_entry l c) = (in_force f d e h l c).0 i in
        let (p', q) = found (collection_now c h) (keeps.backing.behind d e (an_entry l c) (ap (λ z. pair_now (profile_of z) d e h) (sym keeps.config) ∙ now)).collection in
        let both : ◌≡◌ {A = Option GicVcpuId} (Some p') (Some p) = sym (mapped_processor c h p' q) ∙ (processor_of c h p).0 o in
        record { entry = keeps.agrees.pairs d e ∙ now; target = keeps.agrees.collections c ∙ q ∙ both }

  kept_listed : Listed u h
  kept_listed =
      record {
        mappings = λ d e l c p. (λ m. in_history d e l c p (listed_held u d e l c p m), λ f. held_listed u d e l c p (in_unit d e l c p f));
        no_others = λ m l. in_history m.device m.event m.lpi m.collection m.target (listed_held u m.device m.event m.lpi m.collection m.target l);
        once = pair_once u;
        devices = λ d bits. (
          (λ m. (device_mapped_lem d h bits).1 (sym (keeps.agrees.devices d) ∙ listed_bits u d bits m)),
          (λ m. bits_listed u d bits (keeps.agrees.devices d ∙ (device_mapped_lem d h bits).0 m)),
        );
        no_other_devices = only_used u;
        devices_once = device_once u;
      }

pub listed_in_force : {k : ItsConfig} {u : ItsState} {h : List Command} → Led k u h → Listed u h
listed_in_force l = kept_listed (held l)
