-- The words of the registers: where the command at CREADR stands, and that no sum which the code makes wraps.
-- Assumes nothing.
use Rattle.std.specs.Prelude.{Err, Ok, Option, Some, is_ok}
use Prim.Native.Nat.{ℕ, ◌+◌, ◌^◌, ◌<◌}
use native.Mathlib.Omega.{arith}
use mathlib.Core.Path.{◌≡◌, refl, ap, ◌∙◌}
use mathlib.Core.Bool.{true, false}
use mathlib.Core.List.{List}
use Rattle.model.specs.declared.ItsState.{ItsState}
use Rattle.model.specs.declared.Refusal.TheVariants.{OpcodeUnknown}
use Rattle.model.specs.Answer.{Decoded}
use Rattle.model.specs.Config.{queue_base}
use Rattle.model.specs.Decode.{opcode_of, decode}
use Rattle.model.specs.Queue.{Stands, Window, command_at, command_address, stays}
use Rattle.model.proofs.Cases.{never}
use Rattle.decoding.specs.Reading.{turn_read}
use Rattle.decoding.proofs.Turning.{unknown}
use Rattle.lent_tables.specs.Numbers.{CBASER, CREADR, word, registers_in, unit_in}

module _ (s : List ℕ) (h : Stands (unit_in s)) where
  pub reader_small : word s CREADR < 2 ^ 32
  unfolding registers_in
  reader_small = omega arith

  pub address_fits : queue_base (word s CBASER) + word s CREADR < 2 ^ 64
  unfolding registers_in
  address_fits = omega arith

pub read_here : (w : Window) (s : List ℕ) {base : ℕ} {c : Option (List ℕ)} → base ≡ queue_base (word s CBASER) → c ≡ command_at w (base + word s CREADR) →
    c ≡ command_at w (command_address (registers_in s) (registers_in s).creadr)
unfolding registers_in
read_here w s b r = r ∙ ap (λ k. command_at w (k + word s CREADR)) b

-- words that are no command's: whatever decoding says of them
unknown_as : (u : ItsState) {c : Option (List ℕ)} {ws : List ℕ} {opcode : ℕ} → c ≡ Some ws → opcode ≡ opcode_of ws → (d : Decoded) → decode ws ≡ d → is_ok d ≡ false →
    turn_read u c ≡ stays OpcodeUnknown opcode
unknown_as u k o (Ok x) d n = never true refl n
unknown_as u {c = c} k o (Err n) d r = unknown u c k o d

pub unknown_here : (u : ItsState) {c : Option (List ℕ)} {ws : List ℕ} {opcode : ℕ} → c ≡ Some ws → opcode ≡ opcode_of ws → is_ok (decode ws) ≡ false →
    turn_read u c ≡ stays OpcodeUnknown opcode
unknown_here u {ws = ws} k o n = unknown_as u k o (decode ws) refl n
