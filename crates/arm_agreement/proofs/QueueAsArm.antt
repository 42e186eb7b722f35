-- THE QUEUE. A write that lets commands run does to the mappings what Arm does for the commands that it fetches from the ring, under the
-- conditions of each: decoding, effects and errors together.
-- Assumes nothing.
use Rattle.std.specs.Prelude.{None, Option, Some}
use Prim.Native.Nat.{ℕ, zero, suc}
use native.Mathlib.Omega.{arith}
use mathlib.Core.Path.{◌≡◌, refl, ap, ◌∙◌}
use mathlib.Core.Bool.{true, false}
use mathlib.Core.List.{List, [], ◌∷◌, ◌++◌}
use Rattle.model.specs.declared.ItsRegisters.{ItsRegisters}
use Rattle.model.specs.declared.ItsState.{ItsState}
use Rattle.model.specs.declared.ItsAction.{ItsAction}
use Rattle.model.specs.declared.Command.{Command}
use Rattle.model.specs.Choose.{when_found, list_of}
use Rattle.model.specs.Config.{sound_unit}
use Rattle.model.specs.Decode.{decode}
use Rattle.model.specs.Step.{accepts, stepped}
use Rattle.model.specs.With.{with_registers}
use Rattle.model.specs.Queue.{Window, command_at, carry_out}
use Rattle.model.specs.Passed.{if_known, command_of, commands_passed, CarriedOut, nothing, one_more}
use Rattle.model.specs.Entry.{Outcome, stores, write}
use Rattle.model.proofs.Cases.{cases, never}
use Rattle.model.proofs.Effects.{rest_effect}
use Rattle.arm_agreement.specs.Commands.{ArmCommand, command_in}
use Rattle.arm_agreement.specs.Seen.{as_command, as_decoded, unit_after_lem, arm_of, Tables, announced_by}
use Rattle.arm_agreement.specs.Conditions.{Decodable, WellMapped, Under, ARing}
use Rattle.arm_agreement.specs.Ring.{fetched, fetches, command_place, arm_after}
use Rattle.arm_agreement.specs.Runs.{unit_by, done_by, passed_by_lem, AllDecodable, WriteUnder, RunsAsArm, unit_past_lem, EachUnder, and_then}
use Rattle.arm_agreement.proofs.Decoding.{decode_as_arm}
use Rattle.arm_agreement.proofs.EveryWrite.{every_write}
use Rattle.arm_agreement.proofs.Keeping.{kept_next}
use Rattle.arm_agreement.proofs.AsArm.{step_as_arm}

-- What is fetched is what the model reads.

known_as : (opcode : ℕ) (o : Option Command) → if_known (as_decoded opcode o) ≡ o
known_as opcode None = refl
known_as opcode (Some x) = refl

read_as : (o : Option (List ℕ)) → ((ws : List ℕ) → o ≡ Some ws → Decodable ws) → when_found o (λ ws. if_known (decode ws)) ≡ when_found (when_found o command_in) as_command
read_as None c = refl
read_as (Some ws) c = ap if_known (decode_as_arm ws (c ws refl)) ∙ known_as _ (when_found (command_in ws) as_command)

-- the commands that the unit knows
abbrev commands_of : List ArmCommand → List Command
commands_of [] = []
commands_of (x ∷ xs) = list_of (as_command x) ++ commands_of xs

first_of : (o : Option ArmCommand) (xs : List ArmCommand) → list_of (when_found o as_command) ++ commands_of xs ≡ commands_of (list_of o ++ xs)
first_of None xs = refl
first_of (Some x) xs = refl

module _ (w : Window) (r : ItsRegisters) where
  passed_as : (n : ℕ) → AllDecodable w r n → commands_passed w r n ≡ commands_of (fetches (command_at w) r.cbaser r.creadr n)
  unfolding command_of
  passed_as zero c = refl
  passed_as (suc n) c =
      rw (read_as (command_at w (command_place r.cbaser r.creadr n)) (c n (omega arith)), passed_as n (λ m l. c m (omega arith)))
      (first_of (fetched (command_at w) r.cbaser r.creadr n) (fetches (command_at w) r.cbaser r.creadr n))

-- the last command that was carried out, and what was there before it
record Last (u : ItsState) (y : Command) (h : List Command) (v : ItsState) : Type 0 where
  before : ItsState
  handed : List ItsAction
  earlier : CarriedOut u h handed before
  accepted : accepts before y ≡ true
  led : v ≡ carry_out before y

last_of : (u : ItsState) {l : List Command} {handed : List ItsAction} {v : ItsState} → CarriedOut u l handed v → (y : Command) (h : List Command) → l ≡ y ∷ h → Last u y h v
last_of u nothing y h q = never true refl (cc)
last_of u (one_more {v = v} {h = h'} {handed = handed} c x ok) y h q =
    let xy : x ≡ y = cc in
    let hh : h' ≡ h = cc in
    record { before = v; handed = handed; earlier = rw hh at c; accepted = rw xy at ok; led = ap (carry_out v) xy }

none_of : (u : ItsState) {l : List Command} {handed : List ItsAction} {v : ItsState} → CarriedOut u l handed v → l ≡ [] → v ≡ u
none_of u nothing q = refl
none_of u (one_more c x ok) q = never true refl (cc)

-- CREADR passes a command: its mappings are those of the step
carried_step : (m : ItsState) (y : Command) → accepts m y ≡ true → (arm_of (carry_out m y) ≡ arm_of (stepped m y)) × ((carry_out m y).config ≡ m.config)
unfolding carry_out stepped
carried_step m y ok = rw ok (refl, (rest_effect m y ok).0)

module _ (t : Tables) (u : ItsState) (kept : WellMapped (arm_of u)) where
  -- what is known of the unit v, to which the commands xs led
  record Led (xs : List ArmCommand) (v : ItsState) : Type 0 where
    same : v ≡ unit_past_lem u xs
    config : v.config ≡ u.config
    mappings : arm_of v ≡ arm_after (announced_by u.config t) (arm_of u) xs
    keeps : WellMapped (arm_of v)

  -- one more command, after the unit m was led to: v has the mappings of m after it
  one_further : (xs : List ArmCommand) (m : ItsState) → Led xs m → (x : ArmCommand) → Under (unit_past_lem u xs) t x → (v : ItsState) →
      v ≡ unit_past_lem u (x ∷ xs) → v.config ≡ m.config → arm_of v ≡ arm_of (unit_after_lem m x) → Led (x ∷ xs) v
  one_further xs m l x k v q r s =
      let k' : Under m t x = rw l.same k in
      let z = s ∙ step_as_arm m t l.keeps x k' in
      record {
        same = q;
        config = r ∙ l.config;
        mappings = z ∙ rw (l.config, l.mappings);
        keeps = rw z (kept_next m t l.keeps x k');
      }

  carried_further : (xs : List ArmCommand) (m : ItsState) → Led xs m → (x : ArmCommand) → Under (unit_past_lem u xs) t x → (v : ItsState) (y : Command) →
      as_command x ≡ Some y → accepts m y ≡ true → v ≡ carry_out m y → Led (x ∷ xs) v
  carried_further xs m l x k v y q ok led =
      let (same-mappings, same_config) = carried_step m y ok in
      one_further xs m l x k v (rw (q, led, ← l.same)) (rw led same_config) (rw (q, led) same-mappings)

  further : (xs : List ArmCommand) → ((m : ItsState) (handed : List ItsAction) → CarriedOut u (commands_of xs) handed m → Led xs m) → (x : ArmCommand) → Under (unit_past_lem u xs) t x → (v : ItsState) →
      (o : Option Command) → as_command x ≡ o → (handed : List ItsAction) → CarriedOut u (list_of o ++ commands_of xs) handed v → Led (x ∷ xs) v
  further xs f x k v None q handed c = let l = f v handed c in one_further xs v l x k v (rw q l.same) refl (rw q)
  further xs f x k v (Some y) q handed c =
      let z = last_of u c y (commands_of xs) refl in
      carried_further xs z.before (f z.before z.handed z.earlier) x k v y q z.accepted z.led

  led_to : (xs : List ArmCommand) (v : ItsState) (handed : List ItsAction) → CarriedOut u (commands_of xs) handed v → EachUnder t u xs → Led xs v
  led_to [] v handed c e = let q = none_of u c refl in rw q (record { same = refl; config = refl; mappings = refl; keeps = kept })
  led_to (x ∷ xs) v handed c (and_then e _ k) = further xs (λ m g b. led_to xs m g b e) x k v (as_command x) refl handed c

-- ANY WRITE, and the commands that it lets run
module _ (t : Tables) (w : Window) (row : List ItsAction) (u : ItsState) (offset width value : ℕ) where
  abbrev stored : ItsRegisters
  stored = (stores row u offset width value).registers

  abbrev done_write : Outcome
  done_write = write w row u offset width value

  abbrev passed : List ArmCommand
  passed = passed_by_lem w row u offset width value

  abbrev count : ℕ
  count = done_by done_write

  -- what is fetched: all that was done, under R27
  fetched_all : ARing stored.enabled u.registers.cbaser → (stored.enabled ≡ false → count ≡ 0) → passed ≡ fetches (command_at w) u.registers.cbaser u.registers.creadr count
  fetched_all c off =
      cases stored.enabled (λ e. rw (e, c.R27_valid e)) (λ e. rw (e, off e))

  pub queue_as_arm : sound_unit u ≡ true → WellMapped (arm_of u) → WriteUnder t w row u offset width value → RunsAsArm t w row u offset width value
  queue_as_arm sound kept c =
      let k = every_write w row u offset width value sound in
      let h = rw (passed_as w u.registers count c.decodable) at k.carried in
      let f = fetched_all c.ring k.disabled in
      let l = led_to t (with_registers u stored) kept passed k.led k.handed (rw f h) c.commands in
      let same : arm_of (unit_by done_write) ≡ arm_of k.led = ap arm_of k.unit in
      record {
        mappings = same ∙ l.mappings;
        kept = rw same l.keeps;
        all_of_them = λ done actions t runs on. k.taken done actions t runs on (c.ring.R27_valid on) (c.R11_not_stalled on);
      }
