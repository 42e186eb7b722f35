-- What the lists of Mappings.antt are to a history: exactly its mappings in force and its mapped devices, each once.
-- Assumes nothing.
use Rattle.std.specs.Prelude.{ℕ, suc, ◌≤◌, ◌≡◌, Bool, true, List, [], ◌∷◌, ◌⊎◌, ◌↔◌, if◌then◌else◌}
use Rattle.model.specs.declared.ItsDeviceId.{ItsDeviceId}
use Rattle.model.specs.declared.EventId.{EventId}
use Rattle.model.specs.declared.CollectionId.{CollectionId}
use Rattle.model.specs.declared.LpiId.{LpiId}
use Rattle.model.specs.declared.GicVcpuId.{GicVcpuId}
use Rattle.model.specs.declared.ItsDevice.{ItsDevice}
use Rattle.model.specs.declared.ItsState.{ItsState}
use Rattle.model.specs.declared.Command.{Command}
use Rattle.model.specs.Profile.{profile_of}
use Rattle.model.specs.Keys.{same_device, same_pair, a_device}
use Rattle.model.specs.Paragraph.{DeviceMapped, ProcessorOf, InForce}
use Rattle.mappings.specs.declared.Mapping.{Mapping}
use Rattle.mappings.specs.Mappings.{a_mapping, mappings_of, devices_of}

infix 50 ◌among◌
-- x is among them
abbrev pub ◌among◌ : {A : Type 0} → A → List A → Type 0
x among [] = ⊥
x among (y ∷ ys) = (x ≡ y) ⊎ (x among ys)

-- how many of them pass
abbrev pub how_many : {A : Type 0} → (A → Bool) → List A → ℕ
how_many q [] = 0
how_many q (x ∷ xs) = if q x then suc (how_many q xs) else how_many q xs

-- THE LISTS of the unit u are those of the history h.
pub record Listed (u : ItsState) (h : List Command) : Type 0 where
  -- a pair is listed with an LPI, a collection and a processor exactly if, in the unit's profile, the commands put it in force with these
  pub mappings : (d : ItsDeviceId) (e : EventId) (l : LpiId) (c : CollectionId) (p : GicVcpuId) →
      (a_mapping d e l c p among mappings_of u) ↔ (InForce (profile_of u.config) h d e l c × ProcessorOf h c p)
  -- nothing else is listed
  pub no_others : (m : Mapping) → m among mappings_of u →
      InForce (profile_of u.config) h m.device m.event m.lpi m.collection × ProcessorOf h m.collection m.target
  -- no pair is listed twice
  pub once : (d : ItsDeviceId) (e : EventId) → how_many (λ m. same_pair m.device m.event d e) (mappings_of u) ≤ 1
  -- a device is listed with its event bits exactly if the commands mapped it with these
  pub devices : (d : ItsDeviceId) (bits : ℕ) → (a_device d bits among devices_of u) ↔ DeviceMapped h d bits
  -- nothing else is listed
  pub no_other_devices : (r : ItsDevice) → r among devices_of u → r.used ≡ true
  -- no device is listed twice
  pub devices_once : (d : ItsDeviceId) → how_many (λ r. same_device r.device d) (devices_of u) ≤ 1
