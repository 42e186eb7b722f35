-- DEMAND 3 over the contracts of the public entries, of a unit of either profile: from a unit that was configured, whatever accesses follow, a device and event translate exactly
-- when the commands carried out so far put that pair in force, and to the LPI and processor that those commands give. Nothing here speaks of a
-- definition of an access: each access is any answer that meets the entry's contract (crates/its/specs/Promises.antt).
-- Assumes nothing.
use Rattle.std.specs.Prelude.{ℕ, ◌≤◌, ◌<◌, ◌≡◌, true, List, [], ◌++◌, ◌↔◌, Err, Ok}
use Rattle.model.specs.declared.ItsDeviceId.{ItsDeviceId}
use Rattle.model.specs.declared.EventId.{EventId}
use Rattle.model.specs.declared.CollectionId.{CollectionId}
use Rattle.model.specs.declared.LpiId.{LpiId}
use Rattle.model.specs.declared.GicVcpuId.{GicVcpuId}
use Rattle.model.specs.declared.ItsConfig.{ItsConfig}
use Rattle.model.specs.declared.ItsState.{ItsState}
use Rattle.model.specs.declared.ItsAction.{ItsAction}
use Rattle.model.specs.declared.Command.{Command}
use Rattle.model.specs.declared.Refusal.{Refusal}
use Rattle.model.specs.declared.Refusal.TheVariants.{ResourceNotFound}
use Rattle.model.specs.declared.Configured.{Configured}
use Rattle.model.specs.declared.Written.{Written}
use Rattle.model.specs.Answer.{ReadAnswer, TranslateAnswer}
use Rattle.model.specs.Refusal.{translate_numbers}
use Rattle.model.specs.Keys.{delivery}
use Rattle.model.specs.Config.{sound_unit}
use Rattle.model.specs.Profile.{strict, profile_of}
use Rattle.model.specs.Queue.{Window}
use Rattle.model.specs.Entry.{stores}
use Rattle.model.specs.Paragraph.{DeviceMapped, InForce}
use Rattle.model.specs.Promise.{SentTo, Backed, BelowCapacity}
use Rattle.its.specs.Promises.{Configures, Reads, Writes, Translates}
use Rattle.guarantees.specs.Actions.{passed_by}
use Rattle.guarantees.specs.Refusals.{NeverOne}
use Rattle.guarantees.specs.Kept.{CommandsKept}

-- `Led k u h`: from a unit configured with k, some calls, refused ones included, led to the unit u, and the commands carried out are h, the last
-- one first. Every answer is one that meets the entry's contract.
pub data Led (k : ItsConfig) : ItsState → List Command → Type 0 where
  -- an accepted configuration, and no command yet
  begins : (c : Configured) → Configures k c → c.verdict ≡ Ok tt → Led k c.unit []
  -- a read leaves the unit as it is
  a_read : {u : ItsState} {h : List Command} → Led k u h → (offset width : ℕ) (r : ReadAnswer) → Reads u offset width r → Led k u h
  -- and so does a translation
  a_translate : {u : ItsState} {h : List Command} → Led k u h → (d : ItsDeviceId) (e : EventId) (r : TranslateAnswer) → Translates u d e r → Led k u h
  -- a write, with any window and any row, leads to the unit that it answers. The commands that it adds are read from the window at the old CREADR
  -- and on, as many as the answer says were done
  a_write : {u : ItsState} {h : List Command} → Led k u h → (w : Window) (row : List ItsAction) (offset width value : ℕ) (r : Written) (left : List ItsAction) →
      Writes w row u offset width value r left → Led k r.unit (passed_by w u r ++ h)

-- of every write to the unit u, with any window, row, offset, width and value, and of what it answers and leaves in the row
abbrev pub OfWritesTo : ItsState → (Window → List ItsAction → ℕ → ℕ → ℕ → Written → List ItsAction → Type 0) → Type 0
OfWritesTo u P =
    (w : Window) (row : List ItsAction) (offset width value : ℕ) (r : Written) (left : List ItsAction) → Writes w row u offset width value r left →
    P w row offset width value r left

-- THE DEMAND, of the unit u to which the calls led and of the history h.
pub record MappingsInForce (k : ItsConfig) (u : ItsState) (h : List Command) : Type 0 where
  -- the configuration never changes
  pub config : u.config ≡ k
  -- configuration and ring are sound
  pub sound : sound_unit u ≡ true
  -- a pair translates exactly where the commands of the history send it, and to the LPI and processor that they give
  pub translates : (d : ItsDeviceId) (e : EventId) (r : TranslateAnswer) → Translates u d e r →
      (l : LpiId) (p : GicVcpuId) → (r ≡ Ok (delivery l p)) ↔ SentTo (profile_of k) h d e l p
  -- it is refused with 8 exactly where the pair is not in force
  pub nowhere : (d : ItsDeviceId) (e : EventId) (r : TranslateAnswer) → Translates u d e r →
      (r ≡ Err ResourceNotFound) ↔ ((l : LpiId) (c : CollectionId) → InForce (profile_of k) h d e l c → ⊥)
  -- a translation has no other refusal
  pub only_8 : (d : ItsDeviceId) (e : EventId) (r : TranslateAnswer) → Translates u d e r → (why : Refusal) → r ≡ Err why → why ≡ ResourceNotFound
  -- and the numbers of a refused one are 8, 0, 0
  pub numbers : (d : ItsDeviceId) (e : EventId) (r : TranslateAnswer) → Translates u d e r →
      (why : Refusal) → r ≡ Err why → translate_numbers r ≡ record { refusal = 8; lpi = 0; processor = 0 }
  -- of each pair in force the LPI is in range, device and collection are mapped, and the processor is listed
  pub backed : (d : ItsDeviceId) (e : EventId) (l : LpiId) (c : CollectionId) → InForce (profile_of k) h d e l c → Backed k h d l c
  -- in strict besides: each pair in force lies below its device's present capacity (02, A3)
  pub below_capacity : profile_of k ≡ strict → (d : ItsDeviceId) (e : EventId) (l : LpiId) (c : CollectionId) → InForce strict h d e l c → BelowCapacity h d e
  -- no device above 65535 is mapped
  pub announced : profile_of k ≡ strict → (d : ItsDeviceId) (bits : ℕ) → DeviceMapped h d bits → d.0 ≤ 65535
  -- so a message of one is refused with 8
  pub not_announced : profile_of k ≡ strict → (d : ItsDeviceId) (e : EventId) (r : TranslateAnswer) → Translates u d e r → 65535 < d.0 → r ≡ Err ResourceNotFound
  -- 1 is never answered: to no read, no translation and no write (Refusals)
  pub never_1 : NeverOne u
  -- every command that a write passes lay whole in the window, is of one of the kinds and was accepted by the unit that met it (Kept)
  pub commands : OfWritesTo u (λ w row offset width value r left. CommandsKept w row u (stores row u offset width value) r left)
