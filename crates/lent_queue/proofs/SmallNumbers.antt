-- Each processor of a unit that is lent as numbers has 16 bits and each LPI 32, and so have those of every command that is read; so every action of
-- a run has them.
-- Assumes nothing.
use Rattle.std.specs.Prelude.{Err, None, Ok, Option, Some}
use Prim.Native.Nat.{ℕ, zero, suc, ◌+◌, ◌^◌, ◌<◌}
use native.Mathlib.Omega.{arith}
use mathlib.Core.Bool.{Bool, true, false, ◌&&◌}
use mathlib.Core.List.{List, [], ◌∷◌, ◌++◌}
use lib.Dec.{leb, eqb}
use lib.ListN.{set}
use Rattle.model.specs.declared.ItsDeviceId.{ItsDeviceId}
use Rattle.model.specs.declared.EventId.{EventId}
use Rattle.model.specs.declared.CollectionId.{CollectionId}
use Rattle.model.specs.declared.LpiId.{LpiId}
use Rattle.model.specs.declared.ItsCollection.{ItsCollection}
use Rattle.model.specs.declared.Translation.{Translation}
use Rattle.model.specs.declared.ItsRegisters.{ItsRegisters}
use Rattle.model.specs.declared.ItsState.{ItsState}
use Rattle.model.specs.declared.ItsAction.{ItsAction}
use Rattle.model.specs.declared.Delivery.{Delivery}
use Rattle.model.specs.declared.Command.{Command}
use Rattle.model.specs.declared.Command.TheVariants.{Mapd, Mapc, Mapti, Mapi, Movi, Int, Clear, Discard, Inv, Invall, Sync}
use Rattle.model.specs.declared.Refusal.TheVariants.{NotInWindow}
use Rattle.model.specs.Answer.{Decoded, Verdict}
use Rattle.model.specs.Choose.{when_found, if_found, list_of}
use Rattle.model.specs.With.{with_registers}
use Rattle.model.specs.Table.{look, store, drop_all}
use Rattle.model.specs.Keys.{is_collection, is_pair, of_device, a_collection, a_translation, no_collection, no_translation, event_as_lpi}
use Rattle.model.specs.Arm.{op_MAPD, op_MAPC, op_MAPTI, op_MAPI, op_MOVI, op_INT, op_CLEAR, op_DISCARD, op_INV, op_INVALL, op_SYNC}
use Rattle.model.specs.Decode.{opcode_of, event_field, processor_field, lpi_field, decode}
use Rattle.model.specs.Step.{collection_of, translation_of, delivery_in, device_mapped, check, store_device, store_collection, store_translation, pair_in, drop_device, cleared, drop_collection, drop_pair, move_pair, effect, action_to, actions_on, actions_of}
use Rattle.model.proofs.Effects.{cleared_collections}
use Rattle.model.specs.Profile.{is_strict}
use Rattle.model.specs.Queue.{Window, command_at, waiting, command_address, Turn, passes, stays, judged, turn_on, turn, carry_out, Ran, go_on, run, may_run, run_queue}
use Rattle.model.proofs.Answers.{queue-off, queue-over, queue-runs}
use Rattle.model.proofs.Cases.{cases}
use Rattle.lent_tables.specs.Numbers.{COLLECTIONS, KEYS, GOALS, collection_records, pair_records, word, rows, collection_in, translation_in, collections_in, translations_in, unit_in}

-- All of a list, and one that was found.
pub data All {A : Type 0} (P : A → Type 0) : List A → Type 0 where
  no_more : All P []
  and_all : {a : A} {l : List A} → P a → All P l → All P (a ∷ l)

module _ {A : Type 0} (P : A → Type 0) where
  all_append : {l m : List A} → All P l → All P m → All P (l ++ m)
  all_append no_more k = k
  all_append (and_all p h) k = and_all p (all_append h k)

  all_set : {l : List A} (i : ℕ) (a : A) → P a → All P l → All P (set l i a)
  all_set i a p no_more = no_more
  all_set zero a p (and_all q h) = and_all p h
  all_set (suc i) a p (and_all q h) = and_all q (all_set i a p h)

  all_drop : (p : A → Bool) (empty : A) {l : List A} → P empty → All P l → All P (drop_all p empty l)
  all_drop p empty e no_more = no_more
  all_drop p empty e (and_all {a} q h) = cases (p a) (λ y. rw y (and_all e (all_drop p empty e h))) (λ n. rw n (and_all q (all_drop p empty e h)))

  all_rows : (n : ℕ) (f : ℕ → A) → ((i : ℕ) → P (f i)) → All P (rows n f)
  all_rows zero f h = no_more
  all_rows (suc n) f h = and_all (h zero) (all_rows n (λ i. f (suc i)) (λ i. h (suc i)))

  abbrev IfAny : Option A → Type 0
  IfAny None = Unit {0}
  IfAny (Some a) = P a

  any_look : (p : A → Bool) {l : List A} → All P l → IfAny (look p l)
  any_look p no_more = tt
  any_look p (and_all {a} q h) = cases (p a) (λ y. rw y q) (λ n. rw n (any_look p h))

  any_list : (o : Option A) → IfAny o → All P (list_of o)
  any_list None h = no_more
  any_list (Some a) h = and_all h no_more

any_when : {A B : Type 0} (P : A → Type 0) (Q : B → Type 0) (o : Option A) (f : A → Option B) → IfAny P o → ((a : A) → P a → IfAny Q (f a)) → IfAny Q (when_found o f)
any_when P Q None f h k = tt
any_when P Q (Some a) f h k = k a h

-- What has its bits: a collection's processor, a pair's LPI, a delivery, an action, and the fields of a command.
abbrev SmallTarget : ItsCollection → Type 0
SmallTarget k = k.target.0 < 2 ^ 16

abbrev SmallLpi : Translation → Type 0
SmallLpi r = r.lpi.0 < 2 ^ 32

abbrev pub Small : ItsAction → Type 0
Small a = (a.target.0 < 2 ^ 16) × (a.lpi.0 < 2 ^ 32)

abbrev SmallDelivery : Delivery → Type 0
SmallDelivery a = (a.target.0 < 2 ^ 16) × (a.lpi.0 < 2 ^ 32)

abbrev SmallCommand : Command → Type 0
SmallCommand (Mapd d bits valid) = Unit {0}
SmallCommand (Mapc c p valid) = p.0 < 2 ^ 16
SmallCommand (Mapti d e l c) = l.0 < 2 ^ 32
SmallCommand (Mapi d e c) = e.0 < 2 ^ 32
SmallCommand (Movi d e c) = Unit {0}
SmallCommand (Int d e) = Unit {0}
SmallCommand (Clear d e) = Unit {0}
SmallCommand (Discard d e) = Unit {0}
SmallCommand (Inv d e) = Unit {0}
SmallCommand (Invall c) = Unit {0}
SmallCommand Sync = Unit {0}

pub record SmallUnit (u : ItsState) : Type 0 where
  collections : All SmallTarget u.collections
  translations : All SmallLpi u.translations

pub registers_small : (u : ItsState) (r : ItsRegisters) → SmallUnit u → SmallUnit (with_registers u r)
registers_small u r s = record { collections = s.collections; translations = s.translations }

pub numbers_small : (s : List ℕ) → SmallUnit (unit_in s)
unfolding collections_in translations_in collection_in translation_in
numbers_small s =
    record {
      collections = all_rows SmallTarget collection_records (λ i. collection_in (word s (COLLECTIONS + i))) (λ i. omega arith);
      translations = all_rows SmallLpi pair_records (λ i. translation_in (word s (KEYS + i)) (word s (GOALS + i))) (λ i. omega arith);
    }

-- A command that was read.
abbrev SmallDecoded : Decoded → Type 0
SmallDecoded (Ok x) = SmallCommand x
SmallDecoded (Err n) = Unit {0}

decoded_small : (ws : List ℕ) → SmallDecoded (decode ws)
unfolding decode
decoded_small ws =
    let p : (processor_field ws).0 < 2 ^ 16 = omega arith in
    let l : (lpi_field ws).0 < 2 ^ 32 = omega arith in
    let e : (event_field ws).0 < 2 ^ 32 = omega arith in
    cases (eqb (opcode_of ws) op_MAPD) (λ y. rw y tt) (λ n. rw n (
    cases (eqb (opcode_of ws) op_MAPC) (λ y. rw y p) (λ n. rw n (
    cases (eqb (opcode_of ws) op_MAPTI) (λ y. rw y l) (λ n. rw n (
    cases (eqb (opcode_of ws) op_MAPI) (λ y. rw y e) (λ n. rw n (
    cases (eqb (opcode_of ws) op_MOVI) (λ y. rw y tt) (λ n. rw n (
    cases (eqb (opcode_of ws) op_INT) (λ y. rw y tt) (λ n. rw n (
    cases (eqb (opcode_of ws) op_CLEAR) (λ y. rw y tt) (λ n. rw n (
    cases (eqb (opcode_of ws) op_DISCARD) (λ y. rw y tt) (λ n. rw n (
    cases (eqb (opcode_of ws) op_INV) (λ y. rw y tt) (λ n. rw n (
    cases (eqb (opcode_of ws) op_INVALL) (λ y. rw y tt) (λ n. rw n (
    cases (eqb (opcode_of ws) op_SYNC) (λ y. rw y tt) (λ n. rw n tt)))))))))))))))))))))

abbrev SmallTurn : Turn → Type 0
SmallTurn (passes x) = SmallCommand x
SmallTurn (stays r opcode) = Unit {0}

judged_small : (v : Verdict) (x : Command) (opcode : ℕ) → SmallCommand x → SmallTurn (judged v x opcode)
judged_small (Ok _) x opcode h = h
judged_small (Err r) x opcode h = tt

known_small : (u : ItsState) (opcode : ℕ) (d : Decoded) → SmallDecoded d → SmallTurn (turn_on u opcode d)
known_small u opcode (Ok x) h = judged_small (check u x) x opcode h
known_small u opcode (Err n) h = tt

read_small : (u : ItsState) (o : Option (List ℕ)) → SmallTurn (if_found o (λ ws. turn_on u (opcode_of ws) (decode ws)) (stays NotInWindow 0))
read_small u None = tt
read_small u (Some ws) = known_small u (opcode_of ws) (decode ws) (decoded_small ws)

turn_small : (w : Window) (u : ItsState) → SmallTurn (turn w u)
unfolding turn
turn_small w u = read_small u (command_at w (command_address u.registers u.registers.creadr))

-- A command carried out.
module _ (u : ItsState) (s : SmallUnit u) where
  stored : (d : ItsDeviceId) (e : EventId) (l : LpiId) (c : CollectionId) → l.0 < 2 ^ 32 → SmallUnit (store_translation d e l c u)
  unfolding store_translation store
  stored d e l c h = record { collections = s.collections; translations = all_set SmallLpi _ (a_translation d e l c) h s.translations }

  moved : (d : ItsDeviceId) (e : EventId) (c : CollectionId) (o : Option Translation) → IfAny SmallLpi o → SmallUnit (if_found o (λ r. store_translation d e r.lpi c u) u)
  moved d e c None h = s
  moved d e c (Some r) h = stored d e r.lpi c h

  cleared_small : (d : ItsDeviceId) → All SmallLpi (cleared d u).translations
  unfolding cleared
  cleared_small d =
      cases (is_strict u.config.profile && device_mapped u d)
      (λ y. rw y (all_drop SmallLpi (of_device d) no_translation (omega arith) s.translations))
      (λ n. rw n s.translations)

  effect_small : (x : Command) → SmallCommand x → SmallUnit (effect u x)
  unfolding store_device store_collection store drop_device drop_collection drop_pair move_pair
  effect_small (Mapd d bits true) h = record { collections = rw (cleared_collections u d) s.collections; translations = cleared_small d }
  effect_small (Mapd d bits false) h =
      record { collections = s.collections; translations = all_drop SmallLpi (of_device d) no_translation (omega arith) s.translations }
  effect_small (Mapc c p true) h = record { collections = all_set SmallTarget _ (a_collection c p) h s.collections; translations = s.translations }
  effect_small (Mapc c p false) h =
      record {
        collections = all_drop SmallTarget (is_collection c) no_collection (omega arith) s.collections;
        translations = all_drop SmallLpi (pair_in c u.translations) no_translation (omega arith) s.translations;
      }
  effect_small (Mapti d e l c) h = stored d e l c h
  effect_small (Mapi d e c) h = stored d e (event_as_lpi e) c h
  effect_small (Movi d e c) h = moved d e c (translation_of u d e) (any_look SmallLpi (is_pair d e) s.translations)
  effect_small (Int d e) h = s
  effect_small (Clear d e) h = s
  effect_small (Discard d e) h =
      record { collections = s.collections; translations = all_drop SmallLpi (is_pair d e) no_translation (omega arith) s.translations }
  effect_small (Inv d e) h = s
  effect_small (Invall c) h = s
  effect_small Sync h = s

  carried_small : (x : Command) → SmallCommand x → SmallUnit (carry_out u x)
  unfolding carry_out
  carried_small x h = registers_small (effect u x) _ (effect_small x h)

  -- and what it hands over
  delivered_small : (d : ItsDeviceId) (e : EventId) → IfAny SmallDelivery (delivery_in u d e)
  unfolding delivery_in
  delivered_small d e =
      any_when SmallLpi SmallDelivery (translation_of u d e) _ (any_look SmallLpi (is_pair d e) s.translations)
      (λ r l. any_when SmallTarget SmallDelivery (collection_of u r.collection) _ (any_look SmallTarget (is_collection r.collection) s.collections) (λ k t. (t, l)))

  acting : (pending : Bool) (d : ItsDeviceId) (e : EventId) → All Small (actions_on pending u d e)
  unfolding actions_on
  acting pending d e =
      any_list Small (when_found (delivery_in u d e) (λ a. Some (action_to pending a)))
      (any_when SmallDelivery Small (delivery_in u d e) (λ a. Some (action_to pending a)) (delivered_small d e) (λ a h. h))

  handed_small : (x : Command) → All Small (actions_of u x)
  handed_small (Mapd d bits valid) = no_more
  handed_small (Mapc c p valid) = no_more
  handed_small (Mapti d e l c) = no_more
  handed_small (Mapi d e c) = no_more
  handed_small (Movi d e c) = no_more
  handed_small (Int d e) = acting true d e
  handed_small (Clear d e) = acting false d e
  handed_small (Discard d e) = no_more
  handed_small (Inv d e) = no_more
  handed_small (Invall c) = no_more
  handed_small Sync = no_more

-- A run.
on_small : (u : ItsState) → SmallUnit u → (y : Turn) → SmallTurn y → (rest : ItsState → Ran) → ((v : ItsState) → SmallUnit v → All Small (rest v).actions) →
    All Small (go_on u y rest).actions
on_small u s (passes x) h rest k = all_append Small (handed_small u s x) (k (carry_out u x) (carried_small u s x h))
on_small u s (stays r opcode) h rest k = no_more

run_small : (w : Window) (n : ℕ) (u : ItsState) → SmallUnit u → All Small (run w n u).actions
run_small w zero u s = no_more
run_small w (suc n) u s = on_small u s (turn w u) (turn_small w u) (run w n) (run_small w n)

pub queue_small : (w : Window) (u : ItsState) → SmallUnit u → All Small (run_queue w u).actions
queue_small w u s =
    cases (may_run u.config u.registers)
    (λ on. cases (leb (waiting u.registers) u.config.command_budget)
    (λ few. rw (queue-runs w u on few) (run_small w (waiting u.registers) u s))
    (λ many. rw (queue-over w u on many) no_more))
    (λ off. rw (queue-off w u off) no_more)
