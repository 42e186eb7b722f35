-- One turn of the queue: a command that passes is the one that the window shows at CREADR, and the unit accepted it; to carry it out moves CREADR
-- on and touches no other register.
-- Assumes nothing.
use Rattle.std.specs.Prelude.{Err, None, Ok, Option, Some}
use Prim.Native.Nat.{ℕ, zero, suc, ◌+◌, ◌*◌, ◌%◌, ◌<◌}
use mathlib.Core.Path.{◌≡◌, refl, sym, ap, ap₂}
use mathlib.Core.Bool.{true}
use mathlib.Core.List.{List, ◌++◌, append-nil, append_assoc}
use Rattle.model.specs.declared.ItsRegisters.{ItsRegisters}
use Rattle.model.specs.declared.ItsState.{ItsState}
use Rattle.model.specs.declared.Command.{Command}
use Rattle.model.specs.declared.Refusal.TheVariants.{NotInWindow}
use Rattle.model.specs.Answer.{Decoded, Verdict}
use Rattle.model.specs.Choose.{when_found, if_found, list_of}
use Rattle.model.specs.Arm.{command_size}
use Rattle.model.specs.Config.{queue_base, queue_size}
use Rattle.model.specs.Decode.{opcode_of, decode}
use Rattle.model.specs.Step.{check, is_accepted, accepts}
use Rattle.model.specs.Queue.{Window, command_at, command_address, passes, stays, judged, turn_on, turn, past_command, carry_out}
use Rattle.model.specs.Passed.{ring_offset, if_known, command_of, commands_passed}
use Rattle.model.proofs.Cases.{never}
use Rattle.model.proofs.Effects.{rest_effect}
use Rattle.model.proofs.Ring.{offset_here, offset_next}

-- A command that passes.

module _ (u : ItsState) (x : Command) where
  -- what the window shows and the unit accepted
  pub record Passes (o : Option Command) : Type 0 where
    pub shown : o ≡ Some x
    pub accepted : accepts u x ≡ true

  on_verdict : (v : Verdict) (y : Command) (opcode : ℕ) → check u y ≡ v → judged v y opcode ≡ passes x → Passes (Some y)
  on_verdict (Ok _) y opcode c h = let same : y ≡ x = cc in record { shown = ap Some same; accepted = rw (← same) (ap is_accepted c) }
  on_verdict (Err r) y opcode c h = never true refl (cc)

  on_decoded : (k : Decoded) (opcode : ℕ) → turn_on u opcode k ≡ passes x → Passes (if_known k)
  on_decoded (Ok y) opcode h = on_verdict (check u y) y opcode refl h
  on_decoded (Err n) opcode h = never true refl (cc)

  pub on_words : (o : Option (List ℕ)) → if_found o (λ ws. turn_on u (opcode_of ws) (decode ws)) (stays NotInWindow 0) ≡ passes x → Passes (when_found o (λ ws. if_known (decode ws)))
  on_words None h = never true refl (cc)
  on_words (Some ws) h = on_decoded (decode ws) (opcode_of ws) h

  pub passing : (w : Window) → u.registers.creadr < queue_size u.registers.cbaser → turn w u ≡ passes x → Passes (command_of w u.registers 0)
  unfolding turn command_of
  passing w b h = rw (offset_here u.registers b) (on_words (command_at w (command_address u.registers u.registers.creadr)) h)

  -- to carry it out
  pub carried_registers : accepts u x ≡ true → (carry_out u x).registers ≡ past_command u.registers
  unfolding carry_out
  carried_registers ok = ap past_command (rest_effect u x ok).1

  pub carried_config : accepts u x ≡ true → (carry_out u x).config ≡ u.config
  unfolding carry_out
  carried_config ok = (rest_effect u x ok).0

-- The commands that the window shows, from the first one on.

module _ (w : Window) where
  shown_next : (r : ItsRegisters) (n : ℕ) → command_of w (past_command r) n ≡ command_of w r (suc n)
  unfolding command_of
  shown_next r n = rw (offset_next r n)

  pub passed_first : (r : ItsRegisters) (n : ℕ) → commands_passed w r (suc n) ≡ commands_passed w (past_command r) n ++ list_of (command_of w r 0)
  passed_first r zero = append-nil (list_of (command_of w r 0))
  passed_first r (suc n) = rw (passed_first r n, shown_next r n) (sym (append_assoc (list_of (command_of w r (suc n))) (commands_passed w (past_command r) n) (list_of (command_of w r 0))))

  -- they depend on CBASER and CREADR alone
  module _ (r r' : ItsRegisters) (base : r.cbaser ≡ r'.cbaser) (reader : r.creadr ≡ r'.creadr) where
    pub offset_same : (n : ℕ) → ring_offset r n ≡ ring_offset r' n
    offset_same n = ap₂ (λ b a. (a + command_size * n) % queue_size b) base reader

    shown_same : (n : ℕ) → command_of w r n ≡ command_of w r' n
    unfolding command_of
    shown_same n = ap₂ (λ b a. when_found (command_at w (queue_base b + a)) (λ ws. if_known (decode ws))) base (offset_same n)

    pub passed_same : (n : ℕ) → commands_passed w r n ≡ commands_passed w r' n
    passed_same zero = refl
    passed_same (suc n) = ap₂ (λ o l. list_of o ++ l) (shown_same n) (passed_same n)
