-- What the profile says of a configuration; and a base unit is document 01's (specs/In01.antt).
-- Assumes nothing.
use Rattle.std.specs.Prelude.{if◌then◌else◌, Err, None, Ok, Option, Some}
use Prim.Native.Nat.{ℕ, zero, suc, ◌+◌, ◌^◌, ◌≤◌, ◌<◌}
use native.Mathlib.Omega.{arith}
use mathlib.Core.Path.{◌≡◌, refl, sym, ap, ◌∙◌}
use mathlib.Core.Bool.{Bool, true, false, ◌&&◌, ◌||◌, not}
use mathlib.Core.List.{List, []}
use lib.Dec.{leb, ltb, eqb}
use borrow.Author.Tests.{le-ltb, ltb-true}
use Rattle.model.specs.declared.ItsDeviceId.{ItsDeviceId}
use Rattle.model.specs.declared.EventId.{EventId}
use Rattle.model.specs.declared.ItsConfig.{ItsConfig}
use Rattle.model.specs.declared.ItsRegisters.{ItsRegisters}
use Rattle.model.specs.declared.ItsState.{ItsState}
use Rattle.model.specs.declared.ItsAction.{ItsAction}
use Rattle.model.specs.declared.Register.{Register}
use Rattle.model.specs.declared.Register.TheVariants.{Ctlr, Iidr, Typer, Cbaser, Cwriter, Creadr, Baser, Reserved}
use Rattle.model.specs.declared.RegisterWrite.{RegisterWrite}
use Rattle.model.specs.declared.Command.{Command}
use Rattle.model.specs.declared.Command.TheVariants.{Mapd, Mapc, Mapti, Mapi, Movi, Int, Clear, Discard, Inv, Invall, Sync}
use Rattle.model.specs.declared.Refusal.TheVariants.{NotInWindow, DeviceTooLarge}
use Rattle.model.specs.Answer.{Decoded}
use Rattle.model.specs.Choose.{◌or◌then◌, if_found, when_found}
use Rattle.model.specs.Arm.{◌of◌, TYPER_Devbits, CBASER_Valid}
use Rattle.model.specs.With.{with_registers, with_stalled, with_reader}
use Rattle.model.specs.Profile.{base, strict, is_profile, is_strict, profile_of}
use Rattle.model.specs.Config.{sizes_in01, sound_config}
use Rattle.model.specs.Decode.{opcode_of, decode}
use Rattle.model.specs.Step.{check_in01, device_named, too_large, check, cleared, effect_in01, beforehand, effect, actions_of}
use Rattle.model.specs.Queue.{Window, command_at, waiting, command_address, Turn, passes, stays, judged, turn_on, turn, carry_out, Stop, Ran, and_then, go_on, run, stall, halting, held, may_run, run_queue}
use Rattle.model.specs.Passed.{if_known, command_here}
use Rattle.model.specs.Register.{bits_needed, typer_value, is_stalled, creadr_value, written_by, register_at}
use Rattle.model.specs.Access.{check_read, check_write}
use Rattle.model.specs.Writing.{to_cbaser, retries, offered, to_cwriter, write_register, register_write, then_runs}
use Rattle.model.specs.Entry.{read_from, read, translate, running, concluded, stores, configure, write}
use Rattle.model.specs.In01.{configure_in01, value_in01, read_in01, translate_in01, turn_on_in01, turn_in01, carry_out_in01, go_on_in01, run_in01, run_queue_in01, write_register_in01, stores_in01, concluded_in01, write_in01}
use Rattle.model.specs.Common.{Common}
use Rattle.model.proofs.Cases.{cases, never, and_left}
use Rattle.model.proofs.Effects.{rest_effect}
use Rattle.model.proofs.Turns.{on_words}

pub or_on : (b : Bool) → (b || true) ≡ true
or_on true = refl
or_on false = refl

pub off_and : (b : Bool) → (b && false) ≡ false
off_and true = refl
off_and false = refl

-- What a configuration says.

pub is_strict_lem : (k : ItsConfig) → profile_of k ≡ strict → is_strict k.profile ≡ true
is_strict_lem k s = cases (is_strict k.profile) (λ y. y) (λ n. let z : base ≡ strict = rw n at s in never true refl (cc))

pub is_base : (k : ItsConfig) → profile_of k ≡ base → is_strict k.profile ≡ false
is_base k s = cases (is_strict k.profile) (λ y. let z : strict ≡ base = rw y at s in never true refl (cc)) (λ n. n)

-- a sound configuration has 01's sizes
pub sizes_of : (k : ItsConfig) → sound_config k ≡ true → sizes_in01 k ≡ true
unfolding sound_config
sizes_of k s = and_left (sizes_in01 k) _ s

-- whether the queue may run does not depend on CREADR, nor in base on Stalled; and one that may stays so if Stalled is cleared
pub may_base : (k : ItsConfig) (r : ItsRegisters) (stalled : Bool) → is_strict k.profile ≡ false → may_run k (with_stalled r stalled) ≡ may_run k r
unfolding held may_run
may_base k r stalled b = rw b

pub may_clear : (k : ItsConfig) (r : ItsRegisters) → is_strict k.profile ≡ true → may_run k r ≡ true → r.stalled ≡ false
unfolding held may_run
may_clear k r y h =
    cases r.stalled
    (λ s. let no : may_run k r ≡ false = rw (y, s, or_on (eqb (CBASER_Valid of r.cbaser) 0)) (off_and r.enabled) in never (may_run k r) h no)
    (λ n. n)

pub may_cleared : (k : ItsConfig) (r : ItsRegisters) (reader : ℕ) → may_run k r ≡ true → may_run k (with_stalled (with_reader r reader) false) ≡ true
unfolding held may_run
may_cleared k r reader h =
    cases (is_strict k.profile) (λ y. ap (λ b. may_run k (with_stalled r b)) (sym (may_clear k r y h)) ∙ h) (λ b. may_base k r false b ∙ h)

-- it may not in a disabled unit
pub may_enabled : (k : ItsConfig) (r : ItsRegisters) → may_run k r ≡ true → r.enabled ≡ true
unfolding may_run
may_enabled k r h = and_left _ _ h

pub off_may : (k : ItsConfig) (r : ItsRegisters) → r.enabled ≡ false → may_run k r ≡ false
unfolding may_run
off_may k r off = rw off

-- nor where it is held
pub held_may : (k : ItsConfig) (r : ItsRegisters) → held k r ≡ true → may_run k r ≡ false
unfolding may_run
held_may k r h = rw h (off_and r.enabled)

-- with bit 63 set and Stalled clear it may in both profiles
pub valid_may : (k : ItsConfig) (r : ItsRegisters) → r.enabled ≡ true → CBASER_Valid of r.cbaser ≡ 1 → r.stalled ≡ false → may_run k r ≡ true
unfolding may_run held
valid_may k r on valid clear = rw (on, valid, clear, off_and (is_strict k.profile))

-- a unit that is not stalled shows CREADR's offset alone
pub creadr_plain : (k : ItsConfig) (r : ItsRegisters) → is_stalled k r ≡ false → creadr_value k r ≡ r.creadr
unfolding creadr_value
creadr_plain k r n = rw n

-- a run that no command stopped leaves Stalled
pub halting_none : (q : Ran) → q.stopped ≡ None → halting q ≡ q
halting_none q n = ap (λ o. record { unit = if_found o (λ s. stall q.unit) q.unit; done = q.done; actions = q.actions; stopped = q.stopped }) n

-- device numbers above 65535 are beyond what TYPER announces
bits_most : (k n : ℕ) → bits_needed k n ≤ k
bits_most zero n = omega arith
bits_most (suc k) n = cases (leb (2 ^ k) n) (λ y. rw y (omega (arith, bits_most k n))) (λ z. rw z (omega (arith, bits_most k n)))

pub announced : (limit : ℕ) → 2 ^ (TYPER_Devbits of typer_value limit + 1) ≡ 65536
unfolding typer_value
announced limit =
    let most = bits_most 32 limit in
    let fifteen : TYPER_Devbits of typer_value limit ≡ 15 = omega (arith, most) in
    ap (λ b. 2 ^ (b + 1)) fifteen

pub announced_small : (k : ItsConfig) (d : ItsDeviceId) → ltb d.0 (2 ^ (TYPER_Devbits of typer_value k.lpi_limit + 1)) ≡ true → too_large k d ≡ false
unfolding too_large
announced_small k d h =
    let below : d.0 < 65536 = rw (announced k.lpi_limit) at (ltb-true d.0 (2 ^ (TYPER_Devbits of typer_value k.lpi_limit + 1)) h) in
    rw (le-ltb 65535 d.0 (omega (arith, below))) (off_and (is_strict k.profile))

-- COMMANDS THAT NO PROFILE TREATS OTHERWISE.

-- `Plain u x`: the unit u checks and carries out the command x as 01 says
abbrev pub Plain : ItsState → Command → Type 0
Plain u x = (check u x ≡ check_in01 u x) × (effect u x ≡ effect_in01 u x)

module _ (u : ItsState) where
  not_large : (x : Command) → ((d : ItsDeviceId) → device_named x ≡ Some d → too_large u.config d ≡ false) → check u x ≡ check_in01 u x
  not_large x n = go (device_named x) n
    where
      go : (o : Option ItsDeviceId) → ((d : ItsDeviceId) → o ≡ Some d → too_large u.config d ≡ false) →
          (not (if_found o (too_large u.config) false) or Err DeviceTooLarge then check_in01 u x) ≡ check_in01 u x
      go None n = refl
      go (Some d) n = rw (n d refl)

  nothing_before : (x : Command) → ((d : ItsDeviceId) (bits : ℕ) → x ≡ Mapd d bits true → cleared d u ≡ u) → beforehand u x ≡ u
  nothing_before (Mapd d bits true) n = n d bits refl
  nothing_before (Mapd d bits false) n = refl
  nothing_before (Mapc c p valid) n = refl
  nothing_before (Mapti d e l c) n = refl
  nothing_before (Mapi d e c) n = refl
  nothing_before (Movi d e c) n = refl
  nothing_before (Int d e) n = refl
  nothing_before (Clear d e) n = refl
  nothing_before (Discard d e) n = refl
  nothing_before (Inv d e) n = refl
  nothing_before (Invall c) n = refl
  nothing_before Sync n = refl

  -- in base all are
  plain_base : is_strict u.config.profile ≡ false → (x : Command) → Plain u x
  unfolding too_large cleared
  plain_base b x = (not_large x (λ d q. rw b), ap (λ v. effect_in01 v x) (nothing_before x (λ d bits q. rw b)))

  -- in both those are on which they agree
  pub plain_common : (x : Command) → Common u x → Plain u x
  unfolding too_large cleared
  plain_common x c = (
    not_large x (λ d q. rw (le-ltb 65535 d.0 (c.small d q)) (off_and (is_strict u.config.profile))),
    ap (λ v. effect_in01 v x) (nothing_before x (λ d bits q. rw (c.not_again d bits q, off_and (is_strict u.config.profile)))),
  )

-- A turn, where the command on which CREADR stands is plain.
module _ (w : Window) (u : ItsState) (plain : (x : Command) → command_here w u.registers ≡ Some x → Plain u x) where
  pub turn_in_01 : turn w u ≡ turn_in01 w u
  unfolding turn turn_in01 command_here
  turn_in_01 = by_words (command_at w (command_address u.registers u.registers.creadr)) (λ x q. plain x q)
    where
      by_decoded : (k : Decoded) (opcode : ℕ) → ((x : Command) → if_known k ≡ Some x → Plain u x) → turn_on u opcode k ≡ turn_on_in01 u opcode k
      by_decoded (Ok x) opcode p = ap (λ v. judged v x opcode) (p x refl).0
      by_decoded (Err n) opcode p = refl

      by_words : (o : Option (List ℕ)) → ((x : Command) → when_found o (λ ws. if_known (decode ws)) ≡ Some x → Plain u x) →
          if_found o (λ ws. turn_on u (opcode_of ws) (decode ws)) (stays NotInWindow 0) ≡ if_found o (λ ws. turn_on_in01 u (opcode_of ws) (decode ws)) (stays NotInWindow 0)
      by_words None p = refl
      by_words (Some ws) p = by_decoded (decode ws) (opcode_of ws) p

  pub carried_in_01 : (x : Command) → turn w u ≡ passes x → carry_out u x ≡ carry_out_in01 u x
  unfolding carry_out carry_out_in01 turn command_here
  carried_in_01 x t =
      let here = on_words u x (command_at w (command_address u.registers u.registers.creadr)) t in
      rw (plain x here.shown).1

-- A BASE UNIT IS 01'S.

-- a command leaves the configuration
kept_config : (u : ItsState) (x : Command) (w : Window) → turn w u ≡ passes x → (carry_out u x).config ≡ u.config
unfolding carry_out turn
kept_config u x w t = (rest_effect u x (on_words u x (command_at w (command_address u.registers u.registers.creadr)) t).accepted).0

module _ (w : Window) where
  base_step : (n : ℕ) (u : ItsState) → is_strict u.config.profile ≡ false → ((v : ItsState) → is_strict v.config.profile ≡ false → run w n v ≡ run_in01 w n v) →
      (t : Turn) → turn w u ≡ t → go_on u (turn w u) (run w n) ≡ go_on_in01 u (turn_in01 w u) (run_in01 w n)
  base_step n u b rest (passes x) t =
      rw (← (turn_in_01 w u (λ y q. plain_base u b y)), t)
      (ap (and_then (actions_of u x)) (rest (carry_out u x) (rw (kept_config u x w t) b) ∙ ap (run_in01 w n) (carried_in_01 w u (λ y q. plain_base u b y) x t)))
  base_step n u b rest (stays r opcode) t = rw (← (turn_in_01 w u (λ y q. plain_base u b y)), t)

  base_run : (n : ℕ) (u : ItsState) → is_strict u.config.profile ≡ false → run w n u ≡ run_in01 w n u
  base_run zero u b = refl
  base_run (suc n) u b = base_step n u b (base_run n) (turn w u) refl

  config_step : (n : ℕ) (u : ItsState) → ((v : ItsState) → (run w n v).unit.config ≡ v.config) → (t : Turn) → turn w u ≡ t → (go_on u t (run w n)).unit.config ≡ u.config
  config_step n u rest (passes x) e = rest (carry_out u x) ∙ kept_config u x w e
  config_step n u rest (stays r opcode) e = refl

  pub run_config : (n : ℕ) (u : ItsState) → (run w n u).unit.config ≡ u.config
  run_config zero u = refl
  run_config (suc n) u = config_step n u (run_config n) (turn w u) refl

  -- a command that stopped a run leaves Stalled, in base
  base_halting : (q : Ran) → is_strict q.unit.config.profile ≡ false → halting q ≡ q
  unfolding stall
  base_halting q b = ap (λ u. record { unit = u; done = q.done; actions = q.actions; stopped = q.stopped }) (by_stop q.stopped)
    where
      by_stop : (o : Option Stop) → if_found o (λ s. stall q.unit) q.unit ≡ q.unit
      by_stop None = refl
      by_stop (Some s) = rw b

  base_queue : (u : ItsState) → is_strict u.config.profile ≡ false → run_queue w u ≡ run_queue_in01 w u
  unfolding run_queue run_queue_in01 may_run held
  base_queue u b =
      rw (base_halting (run w (waiting u.registers) u) (rw (run_config (waiting u.registers) u) b), b, base_run (waiting u.registers) u b)
      (cases u.registers.enabled (λ y. rw y) (λ n. rw n))

and_on : (b : Bool) → (b && true) ≡ b
and_on true = refl
and_on false = refl

-- a profile that there is leaves 01's sizes
pub sizes_only : (k : ItsConfig) → is_profile k.profile ≡ true → sound_config k ≡ sizes_in01 k
unfolding sound_config
sizes_only k p = rw p (and_on (sizes_in01 k))

pub base_known : (k : ItsConfig) → k.profile ≡ 0 → is_profile k.profile ≡ true
base_known k b = rw b

-- the actions of a write, by what its run comes to
abbrev pub made_by : (ItsState → Ran) → ItsState → RegisterWrite → List ItsAction
made_by q u s = if then_runs s then (q (with_registers u s.registers)).actions else []

module _ (u : ItsState) (b : u.config.profile ≡ 0) where
  not_strict : is_strict u.config.profile ≡ false
  not_strict = rw b

  base_sizes : sound_config u.config ≡ sizes_in01 u.config
  base_sizes = sizes_only u.config (base_known u.config b)

  base_creadr : creadr_value u.config u.registers ≡ u.registers.creadr
  base_creadr = creadr_plain u.config u.registers (rw not_strict)

  pub base_reads : (offset width : ℕ) → read u offset width ≡ read_in01 u offset width
  unfolding read_from check_read read_in01
  base_reads offset width = rw (base_sizes, base_creadr)

  pub base_translates : (d : ItsDeviceId) (e : EventId) → translate u d e ≡ translate_in01 u d e
  unfolding translate translate_in01
  base_translates d e = rw base_sizes

  base_register : (value : ℕ) (n : Register) → write_register u.config u.registers value n ≡ write_register_in01 u.registers value n
  unfolding to_cbaser to_cwriter offered retries
  base_register value Ctlr = refl
  base_register value Iidr = refl
  base_register value Typer = refl
  base_register value Cbaser = rw not_strict
  base_register value Cwriter = rw not_strict
  base_register value Creadr = refl
  base_register value (Baser n) = refl
  base_register value Reserved = refl

  pub base_stores : (row : List ItsAction) (offset width value : ℕ) → stores row u offset width value ≡ stores_in01 row u offset width value
  unfolding register_write check_write stores_in01
  base_stores row offset width value = rw (base_sizes, base_creadr, base_register (written_by (value_in01 u) offset width value (register_at offset)) (register_at offset))

  base_concludes : (w : Window) (row : List ItsAction) (s : RegisterWrite) → concluded w row u s ≡ concluded_in01 w row u s
  unfolding running
  base_concludes w row s = rw (base_queue w (with_registers u s.registers) not_strict)

  pub base_writes : (w : Window) (row : List ItsAction) (offset width value : ℕ) → write w row u offset width value ≡ write_in01 w row u offset width value
  unfolding write write_in01
  base_writes w row offset width value = rw (base_stores row offset width value) (base_concludes w row (stores_in01 row u offset width value))

  pub base_made : (w : Window) (row : List ItsAction) (offset width value : ℕ) →
      made_by (run_queue w) u (stores row u offset width value) ≡ made_by (run_queue_in01 w) u (stores_in01 row u offset width value)
  base_made w row offset width value =
      let s = stores_in01 row u offset width value in
      rw (base_stores row offset width value, base_queue w (with_registers u s.registers) not_strict)

pub base_configures : (k : ItsConfig) → k.profile ≡ 0 → configure k ≡ configure_in01 k
unfolding configure configure_in01
base_configures k b = rw (sizes_only k (base_known k b))
