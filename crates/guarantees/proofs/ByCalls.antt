-- DEMAND 3 over the contracts of the C calls: each call is one of the entry of the same name, so calls lead where the entries lead, and what a
-- call tells are the numbers of the entry's answer.
-- Assumes nothing.
use Rattle.std.specs.Prelude.{Err, Ok}
use Prim.Native.Nat.{ℕ, zero, suc}
use native.Mathlib.Omega.{arith}
use mathlib.Core.Path.{◌≡◌, refl, sym, ap, ap₂, subst, ◌∙◌}
use mathlib.Core.List.{List, [], ◌∷◌, ◌++◌, map}
use mathlib.Core.Logic.{◌↔◌}
use lib.ListN.{get_or, take}
use Rattle.model.specs.declared.ItsDeviceId.{ItsDeviceId}
use Rattle.model.specs.declared.EventId.{EventId}
use Rattle.model.specs.declared.ItsConfig.{ItsConfig}
use Rattle.model.specs.declared.ItsState.{ItsState}
use Rattle.model.specs.declared.Command.{Command}
use Rattle.model.specs.declared.Refusal.TheVariants.{Unsound, ResourceNotFound}
use Rattle.model.specs.Answer.{ReadAnswer, TranslateAnswer, WriteAnswer, write_refused}
use Rattle.model.specs.Profile.{Profile, profile_of}
use Rattle.model.specs.Config.{sound_config}
use Rattle.model.specs.Keys.{delivery}
use Rattle.model.specs.Refusal.{verdict_number, read_numbers, write_numbers, translate_numbers}
use Rattle.model.specs.Queue.{Window}
use Rattle.model.specs.Entry.{configure, read, translate}
use Rattle.model.proofs.Cases.{cases}
use Rattle.model.proofs.Numbers.{one_reason}
use Rattle.its.specs.Promises.{Reads, Translates}
use Rattle.host.specs.Calls.{Tells, action_in, numbers_of_write, numbers_of_translation}
use Rattle.guarantees.specs.Actions.{passed_told, ActionsGiven, CallActionsGiven}
use Rattle.guarantees.specs.MappingsInForce.{Led, begins, a_read, a_translate, a_write, MappingsInForce}
use Rattle.guarantees.specs.CallsInForce.{LedByCalls, by_its_configure, by_its_read, by_its_translate, by_its_write, OfCallsTo, CallsInForce}
use Rattle.guarantees.proofs.AsWrites.{call_writes}
use Rattle.guarantees.proofs.InForce.{mappings_in_force, actions_given}

-- the answers that a call of its_read and of its_translate tell
reads_as : (u : ItsState) (offset width : ℕ) → Reads u offset width (read u offset width)
reads_as u offset width = record { answer = refl; numbers = refl }

translates_as : (u : ItsState) (d : ItsDeviceId) (e : EventId) → Translates u d e (translate u d e)
translates_as u d e = record { answer = refl; numbers = refl }

-- a configuration whose number is 0 was accepted
pub accepted : (k : ItsConfig) → verdict_number (configure k).verdict ≡ 0 → (configure k).verdict ≡ Ok tt
unfolding configure
accepted k h = cases (sound_config k) (λ e. rw e) (λ e. absurd (omega (arith, rw e at h)))

-- calls lead where the entries lead
pub led_by_calls : {k : ItsConfig} {u : ItsState} {h : List Command} → LedByCalls k u h → Led k u h
led_by_calls {k} (by_its_configure ss ps s u r told c z) =
    subst (λ v. Led k v []) (sym (c.0 ∙ ap (λ a. (configure a).unit) (sym s)))
    (begins (configure k) (record { answer = refl; numbers = refl }) (accepted k (ap (λ a. verdict_number (configure a).verdict) s ∙ sym c.1.1 ∙ z)))
led_by_calls (by_its_read {u = u} l offset width r told c) = a_read (led_by_calls l) offset width (read u offset width) (reads_as u offset width)
led_by_calls (by_its_translate {u = u} l device event r told c) =
    a_translate (led_by_calls l) (record { 0 = device }) (record { 0 = event }) (translate u (record { 0 = device }) (record { 0 = event })) (translates_as u _ _)
led_by_calls {k} (by_its_write {u = u} {h = h} l w row offset width value left after r told c) =
    let (a, (x, t)) = call_writes w row u offset width value left after r told c in
    subst (λ d. Led k left (passed_told w u d ++ h)) (sym t.0)
    (a_write (led_by_calls l) w (map action_in row) offset width value (record { unit = left; answer = a }) (map action_in after) x)

-- what a translation tells, of an answer that is delivered or refused with 8
told_delivered : (a : TranslateAnswer) (told : List ℕ) → told ≡ numbers_of_translation a → ((why : _) → a ≡ Err why → why ≡ ResourceNotFound) →
    (lpi processor : ℕ) → (told ≡ 0 ∷ lpi ∷ processor ∷ 0 ∷ 0 ∷ []) ↔ (a ≡ Ok (delivery (record { 0 = lpi }) (record { 0 = processor })))
told_delivered (Ok x) told t n lpi processor = (
  λ q. ap₂ (λ l p. Ok (delivery (record { 0 = l }) (record { 0 = p }))) (ap (λ l. get_or l 1 0) (sym t ∙ q)) (ap (λ l. get_or l 2 0) (sym t ∙ q)),
  λ q. t ∙ ap numbers_of_translation q,
)
told_delivered (Err why) told t n lpi processor = (
  λ q. absurd (omega (arith, ap (λ l. get_or l 0 0) (sym q ∙ t ∙ ap (λ z. numbers_of_translation (Err z)) (n why refl)))),
  λ q. t ∙ ap numbers_of_translation q,
)

told_refused : (a : TranslateAnswer) (told : List ℕ) → told ≡ numbers_of_translation a → ((why : _) → a ≡ Err why → why ≡ ResourceNotFound) →
    (told ≡ 8 ∷ 0 ∷ 0 ∷ 0 ∷ 0 ∷ []) ↔ (a ≡ Err ResourceNotFound)
told_refused (Ok x) told t n = (λ q. absurd (omega (arith, ap (λ l. get_or l 0 0) (sym q ∙ t))), λ q. t ∙ ap numbers_of_translation q)
told_refused (Err why) told t n = (λ q. ap Err (n why refl), λ q. t ∙ ap numbers_of_translation q)

through : {A B C : Type 0} → A ↔ B → B ↔ C → A ↔ C
through f g = (λ a. g.0 (f.0 a), λ c. f.1 (g.1 c))

-- what the number 1 says of an answer
read_1 : (a : ReadAnswer) → (read_numbers a).refusal ≡ 1 → a ≡ Err Unsound
read_1 (Ok v) h = absurd (omega arith)
read_1 (Err why) h = ap Err (one_reason why Unsound h)

translation_1 : (a : TranslateAnswer) → (translate_numbers a).refusal ≡ 1 → a ≡ Err Unsound
translation_1 (Ok x) h = absurd (omega arith)
translation_1 (Err why) h = ap Err (one_reason why Unsound h)

write_1 : (a : WriteAnswer) → (write_numbers a).refusal ≡ 1 → (opcode : ℕ) × (at : ℕ) × (done : ℕ) × (actions : ℕ) × (a ≡ write_refused Unsound opcode at done actions)
write_1 (Ok w) h = absurd (omega arith)
write_1 (Err w) h = (w.opcode, w.offset, w.done, w.actions, ap (λ z. write_refused z w.opcode w.offset w.done w.actions) (one_reason w.refusal Unsound h))

map_take : {A B : Type 0} (f : A → B) (n : ℕ) (l : List A) → map f (take n l) ≡ take n (map f l)
map_take f zero l = refl
map_take f (suc n) [] = refl
map_take f (suc n) (a ∷ l) = ap (λ t. f a ∷ t) (map_take f n l)

-- the actions, in the numbers of the row
module _ (f : Profile) (h : List Command) (w : Window) (u left : ItsState) (after : List ℕ) (r : ℕ) (told : List ℕ) (a : WriteAnswer) (t : Tells (numbers_of_write a) r told)
    (given : ActionsGiven f h w u (record { unit = left; answer = a }) (map action_in after)) where
  actions_told : CallActionsGiven f h w u after told
  actions_told =
      record {
        handed_over = rw (t.0, map_take action_in (write_numbers a).actions after) given.handed_over;
        as_many = rw t.0 given.as_many;
      }

-- what is demanded of a unit, in the numbers told
calls_told : {k : ItsConfig} {u : ItsState} {h : List Command} → MappingsInForce k u h → CallsInForce k u h
calls_told {u = u} m =
    record {
      demand = m;
      translates = λ device event r told c lpi processor.
          let d : ItsDeviceId = record { 0 = device } in
          let e : EventId = record { 0 = event } in
          through (told_delivered (translate u d e) told c.0 (m.only_8 d e (translate u d e) (translates_as u d e)) lpi processor)
          (m.translates d e (translate u d e) (translates_as u d e) (record { 0 = lpi }) (record { 0 = processor }));
      nowhere = λ device event r told c.
          let d : ItsDeviceId = record { 0 = device } in
          let e : EventId = record { 0 = event } in
          through (told_refused (translate u d e) told c.0 (m.only_8 d e (translate u d e) (translates_as u d e))) (m.nowhere d e (translate u d e) (translates_as u d e));
      reads = λ offset width r told c z. m.never_1.reads offset width _ (reads_as u offset width) (read_1 (read u offset width) (sym c.1 ∙ z));
      messages = λ device event r told c z.
          let d : ItsDeviceId = record { 0 = device } in
          let e : EventId = record { 0 = event } in
          m.never_1.translates d e _ (translates_as u d e) (translation_1 (translate u d e) (sym c.1 ∙ z));
      writes = λ w row offset width value left after r told c z.
          let (a, (x, t)) = call_writes w row u offset width value left after r told c in
          let (opcode, at, done, actions, q) = write_1 a (sym t.1 ∙ z) in
          m.never_1.writes w (map action_in row) offset width value _ _ x opcode at done actions q;
    }

-- THE THEOREMS.
pub calls_in_force : {k : ItsConfig} {u : ItsState} {h : List Command} → LedByCalls k u h → CallsInForce k u h
calls_in_force l = calls_told (mappings_in_force (led_by_calls l))

pub call_actions_given : {k : ItsConfig} {u : ItsState} {h : List Command} → LedByCalls k u h → OfCallsTo u (λ w u after r told. CallActionsGiven (profile_of k) h w u after told)
call_actions_given {k = k} {u = u} {h = h} l w row offset width value left after r told c =
    let (a, (x, t)) = call_writes w row u offset width value left after r told c in
    actions_told (profile_of k) h w u left after r told a t (actions_given (led_by_calls l) w (map action_in row) offset width value _ _ x)
