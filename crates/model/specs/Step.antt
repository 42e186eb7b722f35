-- Document 01, "Commands", and document 02, A3: the checks of a command in order, the first that fails being the answer, and then its effect on the unit. A command
-- that is not accepted changes nothing.
-- Assumes nothing.
use Rattle.std.specs.Prelude.{ℕ, ◌^◌, Bool, true, false, ◌&&◌, not, List, [], ◌∷◌, leb, ltb, if◌then◌else◌, Err, None, Ok, Option, Some}
use Rattle.model.specs.declared.ItsDeviceId.{ItsDeviceId}
use Rattle.model.specs.declared.EventId.{EventId}
use Rattle.model.specs.declared.CollectionId.{CollectionId}
use Rattle.model.specs.declared.LpiId.{LpiId}
use Rattle.model.specs.declared.GicVcpuId.{GicVcpuId}
use Rattle.model.specs.declared.ItsDevice.{ItsDevice}
use Rattle.model.specs.declared.ItsCollection.{ItsCollection}
use Rattle.model.specs.declared.Translation.{Translation}
use Rattle.model.specs.declared.ItsConfig.{ItsConfig}
use Rattle.model.specs.declared.ItsState.{ItsState}
use Rattle.model.specs.declared.Delivery.{Delivery}
use Rattle.model.specs.declared.ItsAction.{ItsAction}
use Rattle.model.specs.declared.Command.{Command}
use Rattle.model.specs.declared.Command.TheVariants.{Mapd, Mapc, Mapti, Mapi, Movi, Int, Clear, Discard, Inv, Invall, Sync}
use Rattle.model.specs.declared.Refusal.TheVariants.{LpiOutOfRange, DeviceUnmapped, EventBeyondBits, CollectionUnmapped, PairUnmapped, ProcessorUnlisted, DeviceTooLarge, ResourceNotFound, TableFull}
use Rattle.model.specs.declared.Applied.{Applied}
use Rattle.model.specs.Answer.{Executed, Verdict}
use Rattle.model.specs.Choose.{◌or◌then◌, when_found, if_found, is_found, list_of}
use Rattle.model.specs.Arm.{LPI_base}
use Rattle.model.specs.Table.{look, room, store, drop_all}
use Rattle.model.specs.Keys.{same_collection, is_device, is_collection, is_pair, of_device, a_device, a_collection, a_translation, no_device, no_collection, no_translation, delivery, event_as_lpi}
use Rattle.model.specs.With.{with_devices, with_collections, with_translations}
use Rattle.model.specs.Profile.{is_strict}
use Rattle.model.specs.Config.{listed}

-- What the unit holds: the lowest-numbered used record counts.

-- the record of a device
abbrev pub device_of : ItsState → ItsDeviceId → Option ItsDevice
device_of u d = look (is_device d) u.devices

-- the record of a collection
abbrev pub collection_of : ItsState → CollectionId → Option ItsCollection
collection_of u c = look (is_collection c) u.collections

-- the record of a pair
abbrev pub translation_of : ItsState → ItsDeviceId → EventId → Option Translation
translation_of u d e = look (is_pair d e) u.translations

-- where a message of the pair goes: its LPI, and the processor of its collection; nothing where pair or collection is not mapped
unfoldable pub delivery_in : ItsState → ItsDeviceId → EventId → Option Delivery
delivery_in u d e =
    when_found (translation_of u d e) (λ r.
    when_found (collection_of u r.collection) (λ k.
    Some (delivery r.lpi k.target)))

-- The checks.

-- LPI in 8192..limit
unfoldable pub lpi_in_range : ItsConfig → LpiId → Bool
lpi_in_range k l = leb LPI_base l.0 && leb l.0 k.lpi_limit

-- event below 2^bits
unfoldable pub event_below : ℕ → EventId → Bool
event_below bits e = ltb e.0 (2 ^ bits)

-- device mapped
abbrev pub device_mapped : ItsState → ItsDeviceId → Bool
device_mapped u d = is_found (device_of u d)

-- event below 2^bits, bits being the device's
abbrev pub event_fits : ItsState → ItsDeviceId → EventId → Bool
event_fits u d e = if_found (device_of u d) (λ r. event_below r.event_bits e) false

-- collection mapped
abbrev pub collection_mapped : ItsState → CollectionId → Bool
collection_mapped u c = is_found (collection_of u c)

-- pair mapped
abbrev pub pair_mapped : ItsState → ItsDeviceId → EventId → Bool
pair_mapped u d e = is_found (translation_of u d e)

-- pair translates
abbrev pub pair_translates : ItsState → ItsDeviceId → EventId → Bool
pair_translates u d e = is_found (delivery_in u d e)

-- the command needs no new record, or its table is not full
abbrev pub room_for_device : ItsState → ItsDeviceId → Bool
room_for_device u d = room (is_device d) (λ r. r.used) u.devices

-- of a MAPC
abbrev pub room_for_collection : ItsState → CollectionId → Bool
room_for_collection u c = room (is_collection c) (λ r. r.used) u.collections

-- of a MAPTI or MAPI
abbrev pub room_for_pair : ItsState → ItsDeviceId → EventId → Bool
room_for_pair u d e = room (is_pair d e) (λ r. r.used) u.translations

-- MAPTI and MAPI: LPI in 8192..limit; device mapped; event below 2^bits; collection mapped; 9 last
unfoldable pub check_mapping : ItsState → ItsDeviceId → EventId → LpiId → CollectionId → Verdict
check_mapping u d e l c =
    lpi_in_range u.config l or Err LpiOutOfRange then
    device_mapped u d or Err DeviceUnmapped then
    event_fits u d e or Err EventBeyondBits then
    collection_mapped u c or Err CollectionUnmapped then
    room_for_pair u d e or Err TableFull then
    (Ok tt)

-- 01's checks of a command, in order
abbrev pub check_in01 : ItsState → Command → Verdict
check_in01 u (Mapd d bits true) = room_for_device u d or Err TableFull then Ok tt
check_in01 u (Mapd d bits false) = Ok tt
check_in01 u (Mapc c p true) =
    listed u.config p or Err ProcessorUnlisted then
    room_for_collection u c or Err TableFull then
    (Ok tt)
check_in01 u (Mapc c p false) = Ok tt
check_in01 u (Mapti d e l c) = check_mapping u d e l c
check_in01 u (Mapi d e c) = check_mapping u d e (event_as_lpi e) c
check_in01 u (Movi d e c) =
    collection_mapped u c or Err CollectionUnmapped then
    pair_mapped u d e or Err PairUnmapped then
    (Ok tt)
check_in01 u (Int d e) = pair_translates u d e or Err ResourceNotFound then Ok tt
check_in01 u (Clear d e) = pair_translates u d e or Err ResourceNotFound then Ok tt
check_in01 u (Discard d e) = pair_mapped u d e or Err PairUnmapped then Ok tt
check_in01 u (Inv d e) = pair_mapped u d e or Err PairUnmapped then Ok tt
check_in01 u (Invall c) = collection_mapped u c or Err CollectionUnmapped then Ok tt
check_in01 u Sync = Ok tt

-- the device that a command names: eight of the kinds name one
abbrev pub device_named : Command → Option ItsDeviceId
device_named (Mapd d bits valid) = Some d
device_named (Mapc c p valid) = None
device_named (Mapti d e l c) = Some d
device_named (Mapi d e c) = Some d
device_named (Movi d e c) = Some d
device_named (Int d e) = Some d
device_named (Clear d e) = Some d
device_named (Discard d e) = Some d
device_named (Inv d e) = Some d
device_named (Invall c) = None
device_named Sync = None

-- in strict, device numbers above 65535, beyond what TYPER announces, are too large (02, A3)
unfoldable pub too_large : ItsConfig → ItsDeviceId → Bool
too_large k d = is_strict k.profile && ltb 65535 d.0

-- and are refused by every command that names a device
abbrev pub names_too_large : ItsConfig → Command → Bool
names_too_large k x = if_found (device_named x) (too_large k) false

-- THE CHECKS OF A COMMAND: device too large, before any other; then 01's
abbrev pub check : ItsState → Command → Verdict
check u x = not (names_too_large u.config x) or Err DeviceTooLarge then check_in01 u x

-- The effects. Each says which of the three tables changes, and how.

-- MAPD, valid: store the event bits, keep translations
unfoldable pub store_device : ItsDeviceId → ℕ → ItsState → ItsState
store_device d bits u = with_devices u (store (is_device d) (λ r. r.used) (a_device d bits) u.devices)

-- MAPC, valid: store
unfoldable pub store_collection : CollectionId → GicVcpuId → ItsState → ItsState
store_collection c p u = with_collections u (store (is_collection c) (λ r. r.used) (a_collection c p) u.collections)

-- MAPTI and MAPI: store
unfoldable pub store_translation : ItsDeviceId → EventId → LpiId → CollectionId → ItsState → ItsState
store_translation d e l c u = with_translations u (store (is_pair d e) (λ r. r.used) (a_translation d e l c) u.translations)

-- a record of a pair that is in the collection. Should a pair be held twice, the record that counts says in which collection the pair is
abbrev pub pair_in : CollectionId → List Translation → Translation → Bool
pair_in c ts r = r.used && if_found (look (is_pair r.device r.event) ts) (λ a. same_collection a.collection c) false

-- all translations of a device dropped
abbrev pub drop_pairs_of : ItsDeviceId → ItsState → ItsState
drop_pairs_of d u = with_translations u (drop_all (of_device d) no_translation u.translations)

-- MAPD, not valid: drop the device and all its translations
unfoldable pub drop_device : ItsDeviceId → ItsState → ItsState
drop_device d u = drop_pairs_of d (with_devices u (drop_all (is_device d) no_device u.devices))

-- in strict, a valid MAPD of a mapped device drops its translations (02, A3), and then stores
unfoldable pub cleared : ItsDeviceId → ItsState → ItsState
cleared d u = if is_strict u.config.profile && device_mapped u d then drop_pairs_of d u else u

-- MAPC, not valid: drop the collection and all its translations
unfoldable pub drop_collection : CollectionId → ItsState → ItsState
drop_collection c u =
    with_translations (with_collections u (drop_all (is_collection c) no_collection u.collections))
    (drop_all (pair_in c u.translations) no_translation u.translations)

-- DISCARD: drop
unfoldable pub drop_pair : ItsDeviceId → EventId → ItsState → ItsState
drop_pair d e u = with_translations u (drop_all (is_pair d e) no_translation u.translations)

-- MOVI: new collection; the pair keeps its LPI
unfoldable pub move_pair : ItsDeviceId → EventId → CollectionId → ItsState → ItsState
move_pair d e c u = if_found (translation_of u d e) (λ r. store_translation d e r.lpi c u) u

-- 01's effect of a command that is accepted
abbrev pub effect_in01 : ItsState → Command → ItsState
effect_in01 u (Mapd d bits true) = store_device d bits u
effect_in01 u (Mapd d bits false) = drop_device d u
effect_in01 u (Mapc c p true) = store_collection c p u
effect_in01 u (Mapc c p false) = drop_collection c u
effect_in01 u (Mapti d e l c) = store_translation d e l c u
effect_in01 u (Mapi d e c) = store_translation d e (event_as_lpi e) c u
effect_in01 u (Movi d e c) = move_pair d e c u
effect_in01 u (Int d e) = u
effect_in01 u (Clear d e) = u
effect_in01 u (Discard d e) = drop_pair d e u
effect_in01 u (Inv d e) = u
effect_in01 u (Invall c) = u
effect_in01 u Sync = u

-- what strict does before it
abbrev pub beforehand : ItsState → Command → ItsState
beforehand u (Mapd d bits true) = cleared d u
beforehand u (Mapd d bits false) = u
beforehand u (Mapc c p valid) = u
beforehand u (Mapti d e l c) = u
beforehand u (Mapi d e c) = u
beforehand u (Movi d e c) = u
beforehand u (Int d e) = u
beforehand u (Clear d e) = u
beforehand u (Discard d e) = u
beforehand u (Inv d e) = u
beforehand u (Invall c) = u
beforehand u Sync = u

-- THE EFFECT OF A COMMAND that is accepted
abbrev pub effect : ItsState → Command → ItsState
effect u x = effect_in01 (beforehand u x) x

-- the action of INT (pending) and CLEAR (not pending)
abbrev pub action_to : Bool → Delivery → ItsAction
action_to pending a = record { target = a.target; lpi = a.lpi; pending = pending }

-- the action for a pair that translates
unfoldable pub actions_on : Bool → ItsState → ItsDeviceId → EventId → List ItsAction
actions_on pending u d e = list_of (when_found (delivery_in u d e) (λ a. Some (action_to pending a)))

-- what a command that is accepted hands to the host: one action, or none
abbrev pub actions_of : ItsState → Command → List ItsAction
actions_of u (Mapd d bits valid) = []
actions_of u (Mapc c p valid) = []
actions_of u (Mapti d e l c) = []
actions_of u (Mapi d e c) = []
actions_of u (Movi d e c) = []
actions_of u (Int d e) = actions_on true u d e
actions_of u (Clear d e) = actions_on false u d e
actions_of u (Discard d e) = []
actions_of u (Inv d e) = []
actions_of u (Invall c) = []
actions_of u Sync = []

-- the command is accepted
abbrev pub is_accepted : Verdict → Bool
is_accepted (Ok _) = true
is_accepted (Err r) = false

-- all its checks hold
abbrev pub accepts : ItsState → Command → Bool
accepts u x = is_accepted (check u x)

-- a command's checks and then its effect: the unit after it, and what it comes to
unfoldable pub stepped : ItsState → Command → ItsState
stepped u x = if accepts u x then effect u x else u

-- what a verdict and the actions come to
abbrev pub executed_by : Verdict → List ItsAction → Executed
executed_by (Err r) handed = Err r
executed_by (Ok _) [] = (Ok None)
executed_by (Ok _) (a ∷ handed) = Ok (Some a)

-- what carrying out the command comes to
unfoldable pub executed : ItsState → Command → Executed
executed u x = executed_by (check u x) (actions_of u x)

-- one command carried out: the unit after it, and what it comes to
abbrev pub execution : ItsState → Command → Applied
execution u x = record { unit = stepped u x; executed = executed u x }
