-- What the C calls for hosts promise: the predicate that each `ensures` names, over the unit that the lent numbers are (crates/lent_tables), what comes
-- back, and what is left. Each says that the call does what the model's entry says, and asks nothing of the inputs.
-- Assumes nothing.
use Rattle.std.specs.Prelude.{ℕ, ◌≡◌, Bool, false, List, [], ◌∷◌, ◌++◌, map, length, get_or, take, drop, replicate, eqb, if◌then◌else◌}
use Rattle.std.specs.List.{list_all}
use Rattle.model.specs.declared.GicVcpuId.{GicVcpuId}
use Rattle.model.specs.declared.ItsConfig.{ItsConfig}
use Rattle.model.specs.declared.ItsAction.{ItsAction}
use Rattle.model.specs.declared.ItsState.{ItsState}
use Rattle.model.specs.declared.Configured.{Configured}
use Rattle.model.specs.declared.RegisterWrite.{RegisterWrite}
use Rattle.model.specs.Answer.{ReadAnswer, TranslateAnswer, WriteAnswer}
use Rattle.model.specs.With.{with_registers, a_config}
use Rattle.model.specs.Config.{no_config}
use Rattle.model.specs.Refusal.{verdict_number, read_numbers, write_numbers, translate_numbers}
use Rattle.model.specs.Queue.{Window, run_queue}
use Rattle.model.specs.Entry.{configure, read, translate, stores, write}
use Rattle.model.specs.Writing.{then_runs}
use Rattle.lent_tables.specs.Numbers.{laid_out}
pub use Rattle.lent_queue.specs.Actions.{action_in, row_with}

-- An answer is five numbers, those of the line that a trace gets; the call returns the first of them, the refusal.
abbrev pub Tells : List ℕ → ℕ → List ℕ → Type 0
Tells numbers r told = (told ≡ numbers) × (r ≡ get_or numbers 0 0)

abbrev pub numbers_of_verdict : Configured → List ℕ
numbers_of_verdict c = verdict_number c.verdict ∷ 0 ∷ 0 ∷ 0 ∷ 0 ∷ []

abbrev pub numbers_of_read : ReadAnswer → List ℕ
numbers_of_read a = (read_numbers a).refusal ∷ (read_numbers a).value ∷ 0 ∷ 0 ∷ 0 ∷ []

abbrev pub numbers_of_write : WriteAnswer → List ℕ
numbers_of_write a = (write_numbers a).refusal ∷ (write_numbers a).opcode ∷ (write_numbers a).offset ∷ (write_numbers a).done ∷ (write_numbers a).actions ∷ []

abbrev pub numbers_of_translation : TranslateAnswer → List ℕ
numbers_of_translation a = (translate_numbers a).refusal ∷ (translate_numbers a).lpi ∷ (translate_numbers a).processor ∷ 0 ∷ 0 ∷ []

-- The configuration that a host gives: the numbers of all its processors, of which a unit holds the first sixteen; where fewer are given, the others
-- are 0 and do not count.
unfoldable pub processors_given : List ℕ → List GicVcpuId
processors_given ps = take 16 (map (λ n. record { 0 = n }) ps ++ replicate 16 (record { 0 = 0 }))

-- The settings that a host gives, a row of any length: limit, budget, frame, profile. Those that it leaves out are 0.
abbrev pub setting : List ℕ → ℕ → ℕ
setting ss i = get_or ss i 0

-- how many settings there are
abbrev pub SETTINGS : ℕ
SETTINGS = 4

-- every setting behind those is 0, as if it were left out: a setting that this unit does not know is not passed over
abbrev pub all_zero : List ℕ → Bool
all_zero ns = list_all (λ n. eqb n 0) ns

unfoldable pub none_further : List ℕ → Bool
none_further ss = all_zero (drop SETTINGS ss)

-- else it is no configuration, and is refused
abbrev pub config_given : List ℕ → List ℕ → ItsConfig
config_given ss ps =
    if none_further ss
    then a_config (setting ss 0) (setting ss 1) (setting ss 2) (setting ss 3) (length ps) (processors_given ps)
    else no_config

-- The actions of a write.

-- those of the run, where the write lets the queue run
abbrev pub actions_by : Window → ItsState → RegisterWrite → List ItsAction
actions_by w u s = if then_runs s then (run_queue w (with_registers u s.registers)).actions else []

-- the actions of the INT and CLEAR carried out in this write
abbrev pub actions_made : Window → List ItsAction → ItsState → ℕ → ℕ → ℕ → List ItsAction
actions_made w row u offset width value = actions_by w u (stores row u offset width value)

-- The calls. `left` is the unit that is left, `r` the number returned.
abbrev pub CallConfigures : List ℕ → List ℕ → ItsState → ℕ → List ℕ → Type 0
CallConfigures ss ps left r told =
    (left ≡ (configure (config_given ss ps)).unit)
    × Tells (numbers_of_verdict (configure (config_given ss ps))) r told

abbrev pub CallReads : ItsState → ℕ → ℕ → ℕ → List ℕ → Type 0
CallReads u offset width r told = Tells (numbers_of_read (read u offset width)) r told

-- `given` are the numbers of the row before the write, `after` those afterwards. The first k numbers say the actions of the k INT and CLEAR carried out,
-- refusal or not; the others are unchanged. Read as actions, they are the row that the model's write leaves
pub record CallWrites (w : Window) (given : List ℕ) (u : ItsState) (offset width value : ℕ) (left : ItsState) (after : List ℕ) (r : ℕ) (numbers : List ℕ) : Type 0 where
  pub unit : left ≡ (write w (map action_in given) u offset width value).written.unit
  pub row : after ≡ row_with (actions_made w (map action_in given) u offset width value) given
  pub row_reads : map action_in after ≡ (write w (map action_in given) u offset width value).row
  pub told : Tells (numbers_of_write (write w (map action_in given) u offset width value).written.answer) r numbers

-- a write leaves numbers of another layout as they are: they are not this unit's to change
abbrev pub LeftAlone : List ℕ → List ℕ → Type 0
LeftAlone s left = laid_out s ≡ false → left ≡ s

abbrev pub CallTranslates : ItsState → ℕ → ℕ → ℕ → List ℕ → Type 0
CallTranslates u device event r told = Tells (numbers_of_translation (translate u (record { 0 = device }) (record { 0 = event }))) r told
