-- Document 01, "Refusal numbers", and document 02, A1 to A3: the number of each refusal, and for each answer that is an enum the paper's number and values in
-- every case.
-- Assumes nothing.
use Rattle.std.specs.Prelude.{ℕ, ◌&&◌, List, [], ◌∷◌, leb, if◌then◌else◌, Err, None, Ok, Some}
use Rattle.model.specs.declared.Refusal.{Refusal}
use Rattle.model.specs.declared.Refusal.TheVariants.{
  Unsound,
  RowTooShort,
  InvalidAccess,
  Identification,
  BaseZero,
  WriterRefused,
  BudgetExceeded,
  NotInWindow,
  OpcodeUnknown,
  LpiOutOfRange,
  DeviceUnmapped,
  EventBeyondBits,
  CollectionUnmapped,
  PairUnmapped,
  ProcessorUnlisted,
  DeviceTooLarge,
  ResourceNotFound,
  TableFull,
  LineDoesNotFit,
}
use Rattle.model.specs.Answer.{Executed, ReadAnswer, TranslateAnswer, Verdict, WriteAnswer}

-- the number of a refusal
abbrev pub number_of : Refusal → ℕ
-- configuration outside the sizes; or a call on a unit whose configuration or ring is unsound
number_of Unsound = 1
-- write with a row shorter than the budget
number_of RowTooShort = 10
-- width not 1, 2, 4, 8; past the frame; not aligned to the width; width not allowed there
number_of InvalidAccess = 2
-- access starts at 0xFFD0..0xFFFF
number_of Identification = 3
-- CBASER write to a disabled unit, merged base zero
number_of BaseZero = 4
-- CWRITER refused
number_of WriterRefused = 7
-- more commands wait than the budget
number_of BudgetExceeded = 5
-- command not in the window
number_of NotInWindow = 6
-- a command refused, in place of 01's 7 (02, A1): opcode unknown
number_of OpcodeUnknown = 20
-- LPI out of range
number_of LpiOutOfRange = 21
-- device unmapped
number_of DeviceUnmapped = 22
-- event beyond the device's bits
number_of EventBeyondBits = 23
-- collection unmapped
number_of CollectionUnmapped = 24
-- pair unmapped
number_of PairUnmapped = 25
-- processor not listed
number_of ProcessorUnlisted = 26
-- device too large, in strict (02, A3)
number_of DeviceTooLarge = 27
-- pair or its collection not mapped: translate, INT, CLEAR
number_of ResourceNotFound = 8
-- command needs a new record and its table is full
number_of TableFull = 9
-- C call: a line doesn't fit
number_of LineDoesNotFit = 11

-- the reasons for which a command fails its own checks: seven in the order in which A1 names them, and A3's
abbrev pub reasons : List Refusal
reasons =
    OpcodeUnknown ∷ LpiOutOfRange ∷ DeviceUnmapped ∷ EventBeyondBits ∷ CollectionUnmapped ∷ PairUnmapped ∷ ProcessorUnlisted ∷ DeviceTooLarge ∷ []

-- 01's own table, in which a refused command has one number for all its reasons (the last of the 7s is 02's: "device too large is 7")
abbrev pub number_in01 : Refusal → ℕ
number_in01 Unsound = 1
number_in01 RowTooShort = 10
number_in01 InvalidAccess = 2
number_in01 Identification = 3
number_in01 BaseZero = 4
number_in01 WriterRefused = 7
number_in01 BudgetExceeded = 5
number_in01 NotInWindow = 6
number_in01 OpcodeUnknown = 7
number_in01 LpiOutOfRange = 7
number_in01 DeviceUnmapped = 7
number_in01 EventBeyondBits = 7
number_in01 CollectionUnmapped = 7
number_in01 PairUnmapped = 7
number_in01 ProcessorUnlisted = 7
number_in01 DeviceTooLarge = 7
number_in01 ResourceNotFound = 8
number_in01 TableFull = 9
number_in01 LineDoesNotFit = 11

-- 02, A1: "folding the new numbers back into 7", and no other number (proofs/Numbers). A3: "device too large is 7 (27 under A1's list)"
unfoldable pub folded : ℕ → ℕ
folded n = if leb 20 n && leb n 27 then 7 else n

-- what was accepted has the number 0
abbrev pub verdict_number : Verdict → ℕ
verdict_number (Ok _) = 0
verdict_number (Err r) = number_of r

-- what carrying out a command comes to, with its refusal's number
abbrev pub executed_number : Executed → ℕ
executed_number (Err r) = number_of r
executed_number (Ok None) = 0
executed_number (Ok (Some a)) = 0

-- a read answers refusal and value: a refused read gives value 0
pub record ReadNumbers : Type 0 where
  pub refusal : ℕ
  pub value : ℕ

-- the numbers of a read, in each case
abbrev pub read_numbers : ReadAnswer → ReadNumbers
read_numbers (Ok v) = record { refusal = 0; value = v }
read_numbers (Err r) = record { refusal = number_of r; value = 0 }

-- a translation answers refusal, LPI and processor: a refused translate gives LPI 0, processor 0
pub record TranslateNumbers : Type 0 where
  pub refusal : ℕ
  pub lpi : ℕ
  pub processor : ℕ

-- the numbers of a translation, in each case
abbrev pub translate_numbers : TranslateAnswer → TranslateNumbers
translate_numbers (Ok a) = record { refusal = 0; lpi = a.lpi.0; processor = a.target.0 }
translate_numbers (Err r) = record { refusal = number_of r; lpi = 0; processor = 0 }

-- a write answers refusal, opcode, offset, done, actions: a refused one too hands over what the commands before the refused one made (02, A2)
pub record WriteNumbers : Type 0 where
  pub refusal : ℕ
  pub opcode : ℕ
  pub offset : ℕ
  pub done : ℕ
  pub actions : ℕ

-- the numbers of a write, in each case
abbrev pub write_numbers : WriteAnswer → WriteNumbers
write_numbers (Ok w) = record { refusal = 0; opcode = 0; offset = 0; done = w.done; actions = w.actions }
write_numbers (Err w) = record { refusal = number_of w.refusal; opcode = w.opcode; offset = w.offset; done = w.done; actions = w.actions }
