-- ALL THAT IS GUARANTEED of the public entries, in one place: each field is a theorem over their contracts (crates/its/specs/Promises.antt,
-- crates/host/specs/Calls.antt), for all inputs. What a theorem concludes is said in the file that it is taken from. proofs/All.antt holds them all.
-- Assumes nothing.
use Rattle.std.specs.Prelude.{ℕ, ◌+◌, ◌≤◌, ◌<◌, ◌≡◌, Bool, true, false, List, [], ◌∷◌, ◌++◌, map, ◌⊎◌, ◌↔◌, take, drop, Err}
use Rattle.model.specs.declared.ItsDeviceId.{ItsDeviceId}
use Rattle.model.specs.declared.EventId.{EventId}
use Rattle.model.specs.declared.ItsConfig.{ItsConfig}
use Rattle.model.specs.declared.ItsState.{ItsState}
use Rattle.model.specs.declared.ItsAction.{ItsAction}
use Rattle.model.specs.declared.Command.{Command}
use Rattle.model.specs.declared.Refusal.{Refusal}
use Rattle.model.specs.declared.Refusal.TheVariants.{Unsound, WriterRefused}
use Rattle.model.specs.declared.Configured.{Configured}
use Rattle.model.specs.declared.Written.{Written}
use Rattle.model.specs.Answer.{ReadAnswer, TranslateAnswer, WriteAnswer}
use Rattle.model.specs.Refusal.{number_of, reasons, number_in01, folded}
use Rattle.model.specs.Config.{sound_unit}
use Rattle.model.specs.Arm.{◌of◌, CBASER_Valid, CWRITER_Retry, GITS_CWRITER}
use Rattle.model.specs.Profile.{Profile, strict, profile_of}
use Rattle.model.specs.Step.{check}
use Rattle.model.specs.Queue.{Window, stays, turn}
use Rattle.model.specs.With.{with_profile, unit_stalled}
use Rattle.model.specs.Entry.{stores}
use Rattle.model.specs.In01.{configure_in01}
use Rattle.model.specs.Common.{CommonWrite}
use Rattle.model.specs.Trace.{at_start, lent_row, output_with, returned_with}
use Rattle.model.specs.Writing.{then_runs}
use Rattle.its.specs.declared.WrittenRow.{WrittenRow}
use Rattle.its.specs.Promises.{NoUnit, Configures, Reads, Writes, WritesLent, Translates}
use Rattle.trace.specs.Traced.{Traced}
use Rattle.lent_tables.specs.Numbers.{LAYOUT, LAYOUT_NUMBER, word, unit_in}
use Rattle.host.specs.Calls.{Tells, numbers_of_verdict, numbers_of_write, action_in, setting, SETTINGS, config_given, CallConfigures, CallWrites}
use Rattle.guarantees.specs.Firm.{Answered, Firm, OfEveryEntry}
use Rattle.guarantees.specs.Actions.{ActionsOf, ActionsGiven, CallActionsGiven}
use Rattle.guarantees.specs.Refusals.{at_command, given_at, IfRefused, ReadLeaves, TranslateLeaves, AnswersOne, NeverOne}
use Rattle.guarantees.specs.Reasons.{Because, Told}
use Rattle.guarantees.specs.Kept.{RingKept, CommandsKept, RefusalKept}
use Rattle.guarantees.specs.Follows.{RingFollows, CommandsFollow, RefusalFollows}
use Rattle.guarantees.specs.MappingsInForce.{Led, OfWritesTo, MappingsInForce}
use Rattle.guarantees.specs.CallsInForce.{LedByCalls, OfCallsTo, CallsInForce}
use Rattle.guarantees.specs.Retries.{Tries, TriesAgain, TriedLater}
use Rattle.guarantees.specs.Stalled.{StalledKept, trail, trail_told, StoppedSince, StalledShown, Unread}
use Rattle.guarantees.specs.Profiles.{As01, StrictAs01, OnlyStores, LedAlike, AnswerAlike}
use Rattle.guarantees.specs.Traces.{records_in, trace_lines_in01, AllInBase, CommonAlong, SameInStrict}
use Rattle.guarantees.specs.ExampleStrict.{ExampleStrict}
use Rattle.guarantees.specs.ExampleCalls.{ExampleByEntries, ExampleByCalls}

-- of every call of `write_its`, with any window, row, unit, offset, width and value, and of what it answers and leaves in the row
abbrev pub OfEveryWrite : (Window → List ItsAction → ItsState → ℕ → ℕ → ℕ → Written → List ItsAction → Type 0) → Type 0
OfEveryWrite P =
    (w : Window) (row : List ItsAction) (u : ItsState) (offset width value : ℕ) (r : Written) (left : List ItsAction) →
    Writes w row u offset width value r left → P w row u offset width value r left

pub record Theorems : Type 0 where
  -- DEMAND 3 (MappingsInForce): of every unit to which calls led from an accepted configuration
  pub mappings_in_force : {k : ItsConfig} {u : ItsState} {h : List Command} → Led k u h → MappingsInForce k u h
  -- DEMAND 3 in the numbers that the C calls for hosts tell (CallsInForce): of all numbers to which such calls led
  pub calls_in_force : {k : ItsConfig} {u : ItsState} {h : List Command} → LedByCalls k u h → CallsInForce k u h
  -- such calls lead where the entries lead
  pub led_by_calls : {k : ItsConfig} {u : ItsState} {h : List Command} → LedByCalls k u h → Led k u h
  -- NEITHER IS EMPTY: 01's example is such a run (ExampleCalls)
  pub example_by_entries : ExampleByEntries
  pub example_by_calls : ExampleByCalls
  -- A BASE UNIT IS DOCUMENT 01'S, with A1 and A2, as before A3 (Profiles): every unit of that profile, also one that was built by hand
  pub base_as_01 : (u : ItsState) → u.config.profile ≡ 0 → As01 u
  -- so over whole runs every unit to which calls led from a base configuration
  pub base_led : {k : ItsConfig} {u : ItsState} {h : List Command} → k.profile ≡ 0 → Led k u h → As01 u
  -- and such a configuration is accepted or refused, and gives a unit, as in 01
  pub base_configured : (k : ItsConfig) → k.profile ≡ 0 → (c : Configured) → Configures k c → c ≡ configure_in01 k
  -- by its_configure too: setting 3, left out or 0, is base
  pub base_call_configured : (ss ps : List ℕ) → setting ss 3 ≡ 0 → (u : ItsState) (r : ℕ) (told : List ℕ) → CallConfigures ss ps u r told →
      (u ≡ (configure_in01 (config_given ss ps)).unit) × Tells (numbers_of_verdict (configure_in01 (config_given ss ps))) r told
  -- and its_trace, of a trace whose configurations are in base, writes the lines of 01's unit (Traces)
  pub base_traces : (trace out : List ℕ) (r : ℕ) (left : List ℕ) → Traced trace out r left → AllInBase (records_in trace) →
      (r ≡ returned_with (trace_lines_in01 trace) out) × (left ≡ output_with (trace_lines_in01 trace) out)
  -- A STRICT UNIT BESIDE 01'S (Profiles): what it reads, stores and lets run, of every unit of that profile
  pub strict_as_01 : (u : ItsState) → profile_of u.config ≡ strict → StrictAs01 u
  -- STRICT: while bit 63 of CBASER is 0 the queue runs nothing and there is no 5 (Profiles), on every unit. (A valid MAPD: mappings_in_force; device too
  -- large: refused_because)
  pub held_stores : OfEveryWrite (λ w row u offset width value r left. profile_of u.config ≡ strict → then_runs (stores row u offset width value) ≡ true →
      CBASER_Valid of (stores row u offset width value).registers.cbaser ≡ 0 → OnlyStores row u (stores row u offset width value) r left)
  -- STRICT: a stalled unit runs nothing either, and there is no 5, but for a CWRITER write with Retry (02, A4)
  pub stalled_stores : OfEveryWrite (λ w row u offset width value r left. profile_of u.config ≡ strict → u.registers.stalled ≡ true →
      then_runs (stores row u offset width value) ≡ true → (offset ≡ GITS_CWRITER → CWRITER_Retry of value ≡ 0) → OnlyStores row u (stores row u offset width value) r left)
  -- STALLED (02, A4; Stalled): what each write makes of it, refused or not, on every unit, by its access and its answer
  pub stalled_kept : OfEveryWrite (λ w row u offset width value r left. StalledKept u offset value r)
  -- a strict unit is stalled exactly if its last run was stopped by a command and neither of the two has cleared it since: over whole runs of accesses
  pub stalled_exactly : {k : ItsConfig} {u : ItsState} {h : List Command} → (l : Led k u h) → profile_of k ≡ strict → (u.registers.stalled ≡ true) ↔ StoppedSince (trail l)
  -- and over runs of calls, in the numbers told
  pub calls_stalled_exactly : {k : ItsConfig} {u : ItsState} {h : List Command} → (l : LedByCalls k u h) → profile_of k ≡ strict →
      (u.registers.stalled ≡ true) ↔ StoppedSince (trail_told l)
  -- and reads of CREADR show it
  pub stalled_shown : (u : ItsState) → sound_unit u ≡ true → StalledShown u
  -- to a base unit it makes no difference what stands there
  pub stalled_unread : (u : ItsState) → u.config.profile ≡ 0 → (b : Bool) → Unread u b
  -- and to no unit whether it is sound
  pub sound_stalled : (u : ItsState) (b : Bool) → sound_unit (unit_stalled u b) ≡ sound_unit u
  -- A PROFILE THAT THERE IS NOT is refused with 1: any number above 1
  pub no_such_profile : (k : ItsConfig) (c : Configured) → Configures k c → 1 < k.profile → c.verdict ≡ Err Unsound
  -- by its_configure too
  pub call_no_such_profile : (ss ps : List ℕ) (u : ItsState) (r : ℕ) (told : List ℕ) → CallConfigures ss ps u r told → 1 < setting ss 3 → r ≡ 1
  -- and there a setting behind the known ones, unless it is 0
  pub call_no_such_setting : (ss ps : List ℕ) (u : ItsState) (r : ℕ) (told : List ℕ) → CallConfigures ss ps u r told → (i : ℕ) → (setting ss (SETTINGS + i) ≡ 0 → ⊥) → r ≡ 1
  -- WHERE THE PROFILES AGREE BOTH ANSWER ALIKE (Profiles): over whole runs of accesses on which they agree
  pub profiles_alike : {k : ItsConfig} {u v : ItsState} → LedAlike k u v → AnswerAlike u v
  -- and both accept the same configurations
  pub verdicts_alike : (k : ItsConfig) (c c' : Configured) → Configures (with_profile k 0) c → Configures (with_profile k 1) c' → c'.verdict ≡ c.verdict
  -- by its_configure and its_write too
  pub calls_begin : (limit budget frame : ℕ) (ps : List ℕ) (u v : ItsState) (r r' : ℕ) (told told' : List ℕ) →
      CallConfigures (limit ∷ budget ∷ frame ∷ 0 ∷ []) ps u r told → CallConfigures (limit ∷ budget ∷ frame ∷ 1 ∷ []) ps v r' told' →
      (r' ≡ r) × (told' ≡ told) × (r ≡ 0 → LedAlike (config_given (limit ∷ budget ∷ frame ∷ []) ps) u v)
  pub calls_go_on : {k : ItsConfig} {u v : ItsState} → LedAlike k u v → (w : Window) (row : List ℕ) (offset width value : ℕ) →
      CommonWrite w (map action_in row) u offset width value → (left left' : ItsState) (after after' : List ℕ) (r r' : ℕ) (told told' : List ℕ) →
      CallWrites w row u offset width value left after r told → CallWrites w row v offset width value left' after' r' told' → LedAlike k left left'
  -- and its_trace returns and writes the same for a trace and for the same one with its configurations in strict (Traces)
  pub traces_alike : (trace trace' out : List ℕ) (r r' : ℕ) (left left' : List ℕ) → Traced trace out r left → Traced trace' out r' left' →
      SameInStrict trace trace' → AllInBase (records_in trace) → CommonAlong at_start (records_in trace) → (r' ≡ r) × (left' ≡ left)
  -- IT IS NOT EMPTY: 01's example is such a run, and in strict a run of demand 3, after which device 5 is mapped again; then a
  -- command stalls the unit, and Retry goes on (ExampleStrict)
  pub example_strict : ExampleStrict
  -- EACH ACTION HANDED OVER IS WHAT THE HISTORY GIVES (Actions): of every write, refused or not, to a unit to which calls led
  pub actions_given : {k : ItsConfig} {u : ItsState} {h : List Command} → Led k u h → OfWritesTo u (λ w row offset width value r left. ActionsGiven (profile_of k) h w u r left)
  -- and of every call of its_write
  pub call_actions_given : {k : ItsConfig} {u : ItsState} {h : List Command} → LedByCalls k u h → OfCallsTo u (λ w u after r told. CallActionsGiven (profile_of k) h w u after told)
  -- the history gives one list of actions
  pub actions_firm : (f : Profile) (h g : List Command) → Firm (List ItsAction) (ActionsOf f h g)
  -- FIRMNESS (Firm): of every public entry, at all inputs, an answer meets the contract
  pub answered_entries : OfEveryEntry Answered
  -- and any second one is equal to it
  pub firm_entries : OfEveryEntry Firm
  -- `write_lent` is `write_its` with the first `room` of the 1,024 records of a row: what holds of every write holds of it, and the other records stay
  pub lent_writes : (w : Window) (room : ℕ) (u : ItsState) (offset width value : ℕ) (r : WrittenRow) → WritesLent w room u offset width value r →
      (left : List ItsAction) × (Writes w (take room lent_row) u offset width value (record { unit = r.unit; answer = r.answer }) left × (r.row ≡ left ++ drop room lent_row))
  -- `its_write` is `write_its` with the row read as actions: what holds of every write holds of it, and the numbers told are those of the answer
  pub call_writes : (w : Window) (row : List ℕ) (u : ItsState) (offset width value : ℕ) (left : ItsState) (after : List ℕ) (r : ℕ) (told : List ℕ) →
      CallWrites w row u offset width value left after r told →
      (a : WriteAnswer) × (Writes w (map action_in row) u offset width value (record { unit = left; answer = a }) (map action_in after) × Tells (numbers_of_write a) r told)
  -- WHAT A WRITE KEEPS (Kept). The ring, on every sound unit, also one that was built by hand
  pub ring_kept : OfEveryWrite (λ w row u offset width value r left. sound_unit u ≡ true → RingKept u (stores row u offset width value) r)
  -- the commands, on every unit: those carried out are those that the window shows, the row holds their actions, and the answer says how many
  pub commands_kept : OfEveryWrite (λ w row u offset width value r left. CommandsKept w row u (stores row u offset width value) r left)
  -- refusal and answer, on every unit
  pub refusal_kept : OfEveryWrite (λ w row u offset width value r left. RefusalKept w u offset width value (stores row u offset width value) r)
  -- WHAT FOLLOWS FROM THE THREE (Follows). Done is CREADR's advance, on every sound unit
  pub ring_follows : OfEveryWrite (λ w row u offset width value r left. sound_unit u ≡ true → RingFollows u (stores row u offset width value) r)
  -- of the commands, on every unit
  pub commands_follow : OfEveryWrite (λ w row u offset width value r left. CommandsFollow w row u (stores row u offset width value) r left)
  -- of a refusal, on every unit
  pub refusal_follows : OfEveryWrite (λ w row u offset width value r left. RefusalFollows w row u (stores row u offset width value) r left)
  -- WHAT A NUMBER TELLS (02, A1 and A3). 20 to 27 are a command's reasons, in A1's order and then A3's, and 7 is CWRITER's
  pub numbered : (map number_of reasons ≡ 20 ∷ 21 ∷ 22 ∷ 23 ∷ 24 ∷ 25 ∷ 26 ∷ 27 ∷ []) × (number_of WriterRefused ≡ 7)
  -- and no other refusal's: two with one number are one
  pub one_reason : (a b : Refusal) → number_of a ≡ number_of b → a ≡ b
  -- 0 is none: a call that returns 0 was not refused
  pub not_zero : (why : Refusal) → number_of why ≡ 0 → ⊥
  -- folded, each refusal has 01's number
  pub folds : (why : Refusal) → folded (number_of why) ≡ number_in01 why
  -- and nothing but 20 to 27 is folded
  pub folded_only : (n : ℕ) → (folded n ≡ n) ⊎ ((20 ≤ n) × ((n ≤ 27) × (folded n ≡ 7)))
  -- a unit refuses a command for a reason exactly if what the reason says holds (Reasons)
  pub refused_because : (u : ItsState) (x : Command) (why : Refusal) → (check u x ≡ Err why) ↔ Because u x why
  -- the command on which CREADR stands is refused for a reason, and with an opcode told, exactly if these are its own
  pub stops_because : (w : Window) (u : ItsState) (why : Refusal) (opcode : ℕ) → (turn w u ≡ stays why opcode) ↔ Told w u why opcode
  -- and a write that is refused at a command tells those of the one on which CREADR stands, in the unit that is left
  pub reason_told : OfEveryWrite (λ w row u offset width value r left.
      (why : Refusal) → given_at why ≡ at_command → IfRefused r why (λ opcode at done actions. Told w r.unit why opcode))
  -- what a refused read leaves (Refusals)
  pub read_leaves : (u : ItsState) (offset width : ℕ) (r : ReadAnswer) → Reads u offset width r → ReadLeaves r
  -- what a refused translation leaves (Refusals)
  pub translate_leaves : (u : ItsState) (d : ItsDeviceId) (e : EventId) (r : TranslateAnswer) → Translates u d e r → TranslateLeaves r
  -- 1 TO EVERYTHING (Refusals): an unsound unit
  pub unsound_answers_1 : (u : ItsState) → sound_unit u ≡ false → AnswersOne u
  -- a sound unit never answers 1
  pub sound_never_1 : (u : ItsState) → sound_unit u ≡ true → NeverOne u
  -- 1 to everything: numbers of a host of which the first is not the layout's
  pub another_layout : (s : List ℕ) → (word s LAYOUT ≡ LAYOUT_NUMBER → ⊥) → AnswersOne (unit_in s)
  -- so those of the layout that had no number: the highest LPI stood there
  pub layout_before : (s : List ℕ) → 8192 ≤ word s LAYOUT → AnswersOne (unit_in s)
  -- and those of layout 1, which had no Stalled (02, A4)
  pub layout_1 : (s : List ℕ) → word s LAYOUT ≡ 1 → AnswersOne (unit_in s)
  -- 1 to everything too: the unit that stands where none was configured
  pub no_unit_answers_1 : (u : ItsState) → NoUnit u → AnswersOne u
  -- and the one that a refused configuration gives; its refusal is 1
  pub refused_configuration : (k : ItsConfig) (c : Configured) → Configures k c → (why : Refusal) → c.verdict ≡ Err why → (why ≡ Unsound) × AnswersOne c.unit
  -- A LATER WRITE TRIES AGAIN (Retries): one that runs the queue begins with the command on which CREADR stands. (In strict, while the unit is stalled, that
  -- is one with Retry)
  pub tries_again : OfEveryWrite (λ w row u offset width value r left. Tries u (stores row u offset width value) →
      TriesAgain w row u (stores row u offset width value) r left)
  -- after a write that was refused because of that command
  pub tried_later : OfEveryWrite (λ w row u offset width value r left.
      (why : Refusal) → given_at why ≡ at_command → IfRefused r why (λ opcode at done actions. TriedLater w r why opcode at))
