-- DEMAND 3 over the contracts of the C calls for hosts, in the numbers that they tell. The units are those that the lent numbers are; each call is any
-- answer that meets its contract (crates/host/specs/Calls.antt).
-- Assumes nothing.
use Rattle.std.specs.Prelude.{ℕ, ◌≡◌, List, [], ◌∷◌, ◌++◌, ◌↔◌}
use Rattle.model.specs.declared.ItsConfig.{ItsConfig}
use Rattle.model.specs.declared.ItsState.{ItsState}
use Rattle.model.specs.declared.LpiId.{LpiId}
use Rattle.model.specs.declared.CollectionId.{CollectionId}
use Rattle.model.specs.declared.Command.{Command}
use Rattle.model.specs.Profile.{profile_of}
use Rattle.model.specs.Queue.{Window}
use Rattle.model.specs.Paragraph.{InForce}
use Rattle.model.specs.Promise.{SentTo}
use Rattle.host.specs.Calls.{config_given, CallConfigures, CallReads, CallWrites, CallTranslates}
use Rattle.guarantees.specs.Actions.{passed_told}
use Rattle.guarantees.specs.MappingsInForce.{MappingsInForce}

-- `LedByCalls k u h`: from numbers configured with k, some calls, refused ones included, led to numbers that are the unit u, and the commands
-- carried out are h, the last one first.
pub data LedByCalls (k : ItsConfig) : ItsState → List Command → Type 0 where
  -- a configuration that was not refused, and no command yet
  by_its_configure : (ss ps : List ℕ) → k ≡ config_given ss ps → (u : ItsState) (r : ℕ) (told : List ℕ) → CallConfigures ss ps u r told → r ≡ 0 → LedByCalls k u []
  -- a read, and a translation: the numbers are lent to be read only
  by_its_read : {u : ItsState} {h : List Command} → LedByCalls k u h → (offset width r : ℕ) (told : List ℕ) → CallReads u offset width r told → LedByCalls k u h
  by_its_translate : {u : ItsState} {h : List Command} → LedByCalls k u h → (device event r : ℕ) (told : List ℕ) → CallTranslates u device event r told →
      LedByCalls k u h
  -- a write, with any window and any row. The commands that it adds are read from the window at the old CREADR and on, as many as the fourth number
  -- told says were done
  by_its_write : {u : ItsState} {h : List Command} → LedByCalls k u h → (w : Window) (row : List ℕ) (offset width value : ℕ) (left : ItsState)
      (after : List ℕ) (r : ℕ) (told : List ℕ) → CallWrites w row u offset width value left after r told →
      LedByCalls k left (passed_told w u told ++ h)

-- of every call of its_write on the unit u, with any row, offset, width and value: of the window, of the unit, the row that it leaves, the number that
-- it returns and the numbers that it tells
abbrev pub OfCallsTo : ItsState → (Window → ItsState → List ℕ → ℕ → List ℕ → Type 0) → Type 0
OfCallsTo u P =
    (w : Window) (row : List ℕ) (offset width value : ℕ) (left : ItsState) (after : List ℕ) (r : ℕ) (told : List ℕ) →
    CallWrites w row u offset width value left after r told → P w u after r told

-- THE DEMAND, in the numbers told.
pub record CallsInForce (k : ItsConfig) (u : ItsState) (h : List Command) : Type 0 where
  -- all that is demanded of a unit and a history
  pub demand : MappingsInForce k u h
  -- the numbers told are 0, an LPI and a processor exactly where the commands of the history send the pair there
  pub translates : (device event r : ℕ) (told : List ℕ) → CallTranslates u device event r told → (lpi processor : ℕ) →
      (told ≡ 0 ∷ lpi ∷ processor ∷ 0 ∷ 0 ∷ []) ↔ SentTo (profile_of k) h (record { 0 = device }) (record { 0 = event }) (record { 0 = lpi }) (record { 0 = processor })
  -- they are 8, 0, 0 exactly where the pair is not in force
  pub nowhere : (device event r : ℕ) (told : List ℕ) → CallTranslates u device event r told →
      (told ≡ 8 ∷ 0 ∷ 0 ∷ 0 ∷ 0 ∷ []) ↔ ((l : LpiId) (c : CollectionId) → InForce (profile_of k) h (record { 0 = device }) (record { 0 = event }) l c → ⊥)
  -- no call returns 1
  pub reads : (offset width r : ℕ) (told : List ℕ) → CallReads u offset width r told → r ≡ 1 → ⊥
  pub messages : (device event r : ℕ) (told : List ℕ) → CallTranslates u device event r told → r ≡ 1 → ⊥
  pub writes : OfCallsTo u (λ w u after r told. r ≡ 1 → ⊥)
