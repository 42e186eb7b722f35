-- 01's example is a run on which the profiles agree, and in strict a run of calls as demand 3 speaks of; every answer is computed from the definitions.
-- Assumes nothing.
use Rattle.std.specs.Prelude.{Ok, Some}
use Prim.Native.Nat.{ℕ, zero, suc, ◌<◌}
use native.Mathlib.Omega.{arith}
use mathlib.Core.Path.{◌≡◌, refl, sym, subst}
use mathlib.Core.Bool.{true, false}
use mathlib.Core.List.{[], ◌∷◌}
use Rattle.model.specs.declared.ItsDeviceId.{ItsDeviceId}
use Rattle.model.specs.declared.ItsState.{ItsState}
use Rattle.model.specs.declared.Command.{Command}
use Rattle.model.specs.declared.Command.TheVariants.{Mapd, Int}
use Rattle.model.specs.declared.Refusal.TheVariants.{OpcodeUnknown}
use Rattle.model.specs.Answer.{write_refused, write_taken}
use Rattle.model.specs.Arm.{GITS_CTLR, GITS_CBASER, GITS_CWRITER}
use Rattle.model.specs.With.{with_registers}
use Rattle.model.specs.Queue.{run}
use Rattle.model.specs.Entry.{configure, stores, write}
use Rattle.model.specs.Passed.{command_of, command_here}
use Rattle.model.specs.Step.{device_named, device_mapped}
use Rattle.model.specs.Common.{Common, CommonWrite}
use Rattle.model.specs.Corners.{configured, with_limit, mapd, mapc, mapti, example_met}
use Rattle.model.proofs.Cases.{never}
use Rattle.model.proofs.Computed.{shown}
use Rattle.its.specs.Promises.{Writes}
use Rattle.guarantees.specs.MappingsInForce.{Led, begins, a_write}
use Rattle.guarantees.specs.Profiles.{LedAlike, both_begin, both_write}
use Rattle.guarantees.specs.ExampleCalls.{window, row}
use Rattle.guarantees.specs.ExampleStrict.{again_window, stop_window, sync_window, ExampleStrict}

-- the units of a profile: configured, and after each of the writes
module _ (profile : ℕ) where
  abbrev begun : ItsState
  begun = (configure (configured 65535 profile)).unit

  abbrev based : ItsState
  based = (write window row begun GITS_CBASER 8 0x8000000040000000).written.unit

  abbrev switched : ItsState
  switched = (write window row based GITS_CTLR 4 1).written.unit

  abbrev done : ItsState
  done = (write window row switched GITS_CWRITER 8 128).written.unit

-- the base unit whose queue runs, with the writer stored
abbrev ready : ItsState
ready = with_registers (switched 0) (stores row (switched 0) GITS_CWRITER 8 128).registers

abbrev last : ItsState
last = (write again_window row (done 1) GITS_CWRITER 8 160).written.unit

-- a command of device 5, or of none, is one on which they agree, but for a MAPD of a mapped device
of_five : (u : ItsState) (x : Command) → ((d : ItsDeviceId) → device_named x ≡ Some d → d ≡ record { 0 = 5 }) →
    ((d : ItsDeviceId) (bits : ℕ) → x ≡ Mapd d bits true → device_mapped u d ≡ false) → Common u x
of_five u x five new = record { small = λ d e. rw (five d e) (omega arith); not_again = new }

mapd_common : Common ready (mapd 4)
unfolding shown
mapd_common = of_five ready (mapd 4) (λ d e. cc) (λ d bits e. refl)

mapc_common : (u : ItsState) → Common u mapc
mapc_common u = of_five u mapc (λ d e. never true refl (cc)) (λ d bits e. never true refl (cc))

mapti_common : (u : ItsState) → Common u (mapti 9 8200)
mapti_common u = of_five u (mapti 9 8200) (λ d e. cc) (λ d bits e. never true refl (cc))

int_common : (u : ItsState) → Common u (Int (record { 0 = 5 }) (record { 0 = 9 }))
int_common u = of_five u (Int (record { 0 = 5 }) (record { 0 = 9 })) (λ d e. cc) (λ d bits e. never true refl (cc))

-- the command met, when it is known which it is
met : (u : ItsState) (x y : Command) → ◌≡◌ {A = _} (Some x) (Some y) → Common u x → Common u y
met u x y e c = let same : x ≡ y = cc in subst (Common u) same c

-- the four commands that the last write meets
four : (i : ℕ) → i < 4 → (x : Command) → command_here window (run window i ready).unit.registers ≡ Some x → Common (run window i ready).unit x
unfolding shown command_here
four zero h x e = met _ (mapd 4) x e mapd_common
four (suc zero) h x e = met _ mapc x e (mapc_common _)
four (suc (suc zero)) h x e = met _ (mapti 9 8200) x e (mapti_common _)
four (suc (suc (suc zero))) h x e = met _ (Int (record { 0 = 5 }) (record { 0 = 9 })) x e (int_common _)
four (suc (suc (suc (suc i)))) h x e = absurd (omega arith)

-- each write is one on which they agree
common_cbaser : CommonWrite window row (begun 0) GITS_CBASER 8 0x8000000040000000
unfolding shown
common_cbaser =
    record {
      no_retry = λ e. absurd (omega (arith, e));
      queue = record { bit63 = λ on. never true refl (sym on); commands = λ on. never true refl (sym on); none_refused = λ on. never true refl (sym on) };
    }

common_ctlr : CommonWrite window row (based 0) GITS_CTLR 4 1
unfolding shown
common_ctlr =
    record {
      no_retry = λ e. absurd (omega (arith, e));
      queue = record { bit63 = λ on e w. refl; commands = λ on e w i h. absurd (omega arith); none_refused = λ on e w. refl };
    }

common_cwriter : CommonWrite window row (switched 0) GITS_CWRITER 8 128
unfolding shown command_here
common_cwriter = record { no_retry = λ e. refl; queue = record { bit63 = λ on e w. refl; commands = λ on e w. four; none_refused = λ on e w. refl } }

wrote : (u : ItsState) (offset width value : ℕ) → Writes window row u offset width value (write window row u offset width value).written (write window row u offset width value).row
wrote u offset width value = record { answer = refl; row_is = refl; numbers = refl }

accepted : (p : ℕ) → p < 2 → (configure (configured 65535 p)).verdict ≡ Ok tt
unfolding shown
accepted zero h = refl
accepted (suc zero) h = refl
accepted (suc (suc p)) h = absurd (omega arith)

both : LedAlike (with_limit 65535) (done 0) (done 1)
both =
    let to₀ : LedAlike (with_limit 65535) (begun 0) (begun 1) =
    both_begin (configure (configured 65535 0)) (configure (configured 65535 1)) (record { answer = refl; numbers = refl }) (record { answer = refl; numbers = refl }) (accepted 0 (omega arith)) in
    let to₁ : LedAlike (with_limit 65535) (based 0) (based 1) = both_write to₀ window row GITS_CBASER 8 0x8000000040000000 common_cbaser _ _ _ _ (wrote _ _ _ _) (wrote _ _ _ _) in
    let to₂ : LedAlike (with_limit 65535) (switched 0) (switched 1) = both_write to₁ window row GITS_CTLR 4 1 common_ctlr _ _ _ _ (wrote _ _ _ _) (wrote _ _ _ _) in
    both_write to₂ window row GITS_CWRITER 8 128 common_cwriter _ _ _ _ (wrote _ _ _ _) (wrote _ _ _ _)

-- in strict, and then the MAPD
strictly : Led (configured 65535 1) last (mapd 4 ∷ example_met)
unfolding shown command_of
strictly =
    let to₀ : Led (configured 65535 1) (begun 1) [] = begins (configure (configured 65535 1)) (record { answer = refl; numbers = refl }) (accepted 1 (omega arith)) in
    let to₁ : Led (configured 65535 1) (based 1) [] = a_write to₀ window row GITS_CBASER 8 0x8000000040000000 _ _ (wrote _ _ _ _) in
    let to₂ : Led (configured 65535 1) (switched 1) [] = a_write to₁ window row GITS_CTLR 4 1 _ _ (wrote _ _ _ _) in
    let to₃ : Led (configured 65535 1) (done 1) example_met = a_write to₂ window row GITS_CWRITER 8 128 _ _ (wrote _ _ _ _) in
    a_write to₃ again_window row GITS_CWRITER 8 160 (write again_window row (done 1) GITS_CWRITER 8 160).written _ (record { answer = refl; row_is = refl; numbers = refl })

mapped_again : Writes again_window row (done 1) GITS_CWRITER 8 160 (record { unit = last; answer = write_taken 1 0 }) row
unfolding shown
mapped_again = record { answer = refl; row_is = refl; numbers = refl }

-- the opcode 0E, and Retry
abbrev halted : ItsState
halted = (write stop_window row last GITS_CWRITER 8 192).written.unit

abbrev gone_on : ItsState
gone_on = (write sync_window row halted GITS_CWRITER 8 193).written.unit

halts : Writes stop_window row last GITS_CWRITER 8 192 (record { unit = halted; answer = write_refused OpcodeUnknown 14 160 0 0 }) row
unfolding shown
halts = record { answer = refl; row_is = refl; numbers = refl }

led_halted : Led (configured 65535 1) halted (mapd 4 ∷ example_met)
led_halted = a_write strictly stop_window row GITS_CWRITER 8 192 (record { unit = halted; answer = write_refused OpcodeUnknown 14 160 0 0 }) row halts

pub example_strict : ExampleStrict
unfolding shown
example_strict =
    record {
      ended = done 0;
      ended_strict = done 1;
      alike = both;
      tr_base = record { answer = refl; numbers = refl };
      tr_strict = record { answer = refl; numbers = refl };
      again = last;
      wr_again = mapped_again;
      led = strictly;
      tr_late = record { answer = refl; numbers = refl };
      stopped = halted;
      wr_stopped = halts;
      led_stopped = led_halted;
      stalled_there = refl;
      went_on = gone_on;
      wr_retry = record { answer = refl; row_is = refl; numbers = refl };
      is_clear = refl;
    }
