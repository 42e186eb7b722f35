-- The command at CREADR has the same turn whatever the other registers are.
-- Assumes nothing.
use Rattle.std.specs.Prelude.{Err, None, Ok, Option, Some}
use Prim.Native.Nat.{ℕ, ◌+◌}
use mathlib.Core.Path.{◌≡◌, refl, ap, ap₂, ◌∙◌}
use mathlib.Core.Bool.{true, false}
use mathlib.Core.List.{List}
use Rattle.model.specs.declared.ItsRegisters.{ItsRegisters}
use Rattle.model.specs.declared.ItsState.{ItsState}
use Rattle.model.specs.declared.Command.{Command}
use Rattle.model.specs.declared.Command.TheVariants.{Mapd, Mapc, Mapti, Mapi, Movi, Int, Clear, Discard, Inv, Invall, Sync}
use Rattle.model.specs.declared.Refusal.TheVariants.{NotInWindow}
use Rattle.model.specs.Answer.{Decoded}
use Rattle.model.specs.Choose.{if_found}
use Rattle.model.specs.Config.{queue_base}
use Rattle.model.specs.Decode.{opcode_of, decode}
use Rattle.model.specs.Step.{delivery_in, check_mapping, check}
use Rattle.model.specs.With.{with_registers}
use Rattle.model.specs.Queue.{Window, command_at, command_address, stays, judged, turn_on, turn}

module _ (u : ItsState) (s : ItsRegisters) where
  check_same : (x : Command) → check (with_registers u s) x ≡ check u x
  unfolding check_mapping delivery_in
  check_same (Mapd d bits true) = refl
  check_same (Mapd d bits false) = refl
  check_same (Mapc c p true) = refl
  check_same (Mapc c p false) = refl
  check_same (Mapti d e l c) = refl
  check_same (Mapi d e c) = refl
  check_same (Movi d e c) = refl
  check_same (Int d e) = refl
  check_same (Clear d e) = refl
  check_same (Discard d e) = refl
  check_same (Inv d e) = refl
  check_same (Invall c) = refl
  check_same Sync = refl

  decoded_same : (opcode : ℕ) (k : Decoded) → turn_on (with_registers u s) opcode k ≡ turn_on u opcode k
  decoded_same opcode (Ok x) = ap (λ v. judged v x opcode) (check_same x)
  decoded_same opcode (Err n) = refl

  words_same : (o : Option (List ℕ)) →
      if_found o (λ ws. turn_on (with_registers u s) (opcode_of ws) (decode ws)) (stays NotInWindow 0)
      ≡ if_found o (λ ws. turn_on u (opcode_of ws) (decode ws)) (stays NotInWindow 0)
  words_same None = refl
  words_same (Some ws) = decoded_same (opcode_of ws) (decode ws)

  pub turn_same : (w : Window) → s.cbaser ≡ u.registers.cbaser → s.creadr ≡ u.registers.creadr → turn w (with_registers u s) ≡ turn w u
  unfolding turn
  turn_same w base reader =
      words_same (command_at w (command_address s s.creadr))
      ∙ ap₂ (λ b a. if_found (command_at w (queue_base b + a)) (λ ws. turn_on u (opcode_of ws) (decode ws)) (stays NotInWindow 0)) base reader
