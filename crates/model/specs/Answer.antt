-- Document 01, "Refusal numbers", and document 02, A2: the answers, each of which is a result: what was asked for, or why not. Refusal.antt has their numbers.
-- Assumes nothing.
use Rattle.std.specs.Prelude.{ℕ, Option, Result, Ok, Err, ⊤}
use Rattle.model.specs.declared.Refusal.{Refusal}
use Rattle.model.specs.declared.Delivery.{Delivery}
use Rattle.model.specs.declared.ItsAction.{ItsAction}
use Rattle.model.specs.declared.Command.{Command}
use Rattle.model.specs.declared.UnknownOpcode.{UnknownOpcode}
use Rattle.model.specs.declared.WriteDone.{WriteDone}
use Rattle.model.specs.declared.WriteRefusal.{WriteRefusal}

-- a command or a configuration: it is taken, or the first check that failed
abbrev pub Verdict : Type 0
Verdict = Result ⊤ Refusal

-- carrying out a command: an action for the host or none, or its refusal
abbrev pub Executed : Type 0
Executed = Result (Option ItsAction) Refusal

-- decoding: one of the kinds, or the opcode of none of them
abbrev pub Decoded : Type 0
Decoded = Result Command UnknownOpcode

-- a read: the value
abbrev pub ReadAnswer : Type 0
ReadAnswer = Result ℕ Refusal

-- a translation: where the message goes
abbrev pub TranslateAnswer : Type 0
TranslateAnswer = Result Delivery Refusal

-- a write: what was done
abbrev pub WriteAnswer : Type 0
WriteAnswer = Result WriteDone WriteRefusal

-- with so many commands done, and so many actions handed over
abbrev pub write_taken : ℕ → ℕ → WriteAnswer
write_taken done actions = Ok (record { done = done; actions = actions })

-- a refused one too hands over what the commands before the refused one made
abbrev pub write_refused : Refusal → ℕ → ℕ → ℕ → ℕ → WriteAnswer
write_refused r opcode offset done actions = Err (record { refusal = r; opcode = opcode; offset = offset; done = done; actions = actions })
