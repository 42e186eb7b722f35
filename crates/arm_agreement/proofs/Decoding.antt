-- Decoding is Arm's: for each opcode the model's `decode` gives the command with Arm's field values, and every other opcode is unknown.
-- Assumes nothing.
use Rattle.std.specs.Prelude.{Err, None}
use Prim.Native.Nat.{ℕ, ◌^◌, ◌<◌}
use native.Mathlib.Omega.{arith}
use mathlib.Core.Path.{◌≡◌, refl, ◌∙◌}
use mathlib.Core.Bool.{Bool, true, ◌&&◌, not}
use mathlib.Core.List.{List, [], ◌∷◌}
use lib.Dec.{eqb}
use Rattle.model.specs.Choose.{when_found, is_found}
use Rattle.model.specs.Arm.{◌from◌, Opcode, RDbase, op_MOVI, op_INT, op_CLEAR, op_SYNC, op_MAPD, op_MAPC, op_MAPTI, op_MAPI, op_INV, op_INVALL, op_DISCARD}
use Rattle.model.specs.Decode.{RDbase_low, decode}
use Rattle.model.proofs.Cases.{cases}
use Rattle.model.proofs.ArmFacts.{rdbase_low}
use Rattle.arm_agreement.specs.Commands.{command_in}
use Rattle.arm_agreement.specs.Conditions.{Decodable}
use Rattle.arm_agreement.specs.Seen.{as_command, as_decoded}

module _ (ws : List ℕ) where
  -- 01's processor is Arm's RDbase, under R21
  processor : RDbase from ws < 2 ^ 16 → RDbase from ws ≡ RDbase_low from ws
  processor small = omega (arith, rdbase_low ws)

  -- what the unit decodes is Arm's command, without what as_command leaves out
  pub decode_as_arm : Decodable ws → decode ws ≡ as_decoded (Opcode from ws) (when_found (command_in ws) as_command)
  unfolding decode command_in
  decode_as_arm c =
      cases (eqb (Opcode from ws) op_MAPD) (λ h. rw h)
      (λ h. rw h (cases (eqb (Opcode from ws) op_MAPC) (λ h. rw (h, processor (c.R21_processor_of_16_bits h)))
      (λ h. rw h (cases (eqb (Opcode from ws) op_MAPTI) (λ h. rw h)
      (λ h. rw h (cases (eqb (Opcode from ws) op_MAPI) (λ h. rw h)
      (λ h. rw h (cases (eqb (Opcode from ws) op_MOVI) (λ h. rw h)
      (λ h. rw h (cases (eqb (Opcode from ws) op_INT) (λ h. rw h)
      (λ h. rw h (cases (eqb (Opcode from ws) op_CLEAR) (λ h. rw h)
      (λ h. rw h (cases (eqb (Opcode from ws) op_DISCARD) (λ h. rw h)
      (λ h. rw h (cases (eqb (Opcode from ws) op_INV) (λ h. rw h)
      (λ h. rw h (cases (eqb (Opcode from ws) op_INVALL) (λ h. rw h)
      (λ h. rw h (cases (eqb (Opcode from ws) op_SYNC) (λ h. rw h)
      (λ h. rw (h, c.R36_no_MOVALL))))))))))))))))))))))

  -- an opcode that is no command's is unknown to both. R37: among them those of virtual interrupts
  pub unknown_as_arm : Decodable ws → command_in ws ≡ None → decode ws ≡ Err (record { 0 = Opcode from ws })
  unknown_as_arm c h = decode_as_arm c ∙ rw h

-- the opcodes of virtual interrupts, GICv4
abbrev virtual : List ℕ
virtual = 0x21 ∷ 0x22 ∷ 0x23 ∷ 0x25 ∷ 0x29 ∷ 0x2A ∷ 0x2B ∷ 0x2D ∷ 0x2E ∷ []

abbrev all_unknown : List ℕ → Bool
all_unknown [] = true
all_unknown (op ∷ ops) = not (is_found (command_in (op ∷ 0 ∷ 0 ∷ 0 ∷ []))) && all_unknown ops

pub virtual_unknown : all_unknown virtual ≡ true
unfolding command_in
virtual_unknown = refl
