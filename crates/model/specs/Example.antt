-- Document 01, "The trace": the example, its records in bytes and the lines that it prints; 01's last corner; what a refused write hands over (02, A2);
-- the strict profile (02, A3); and Retry and Stalled there (02, A4).
-- Assumes nothing.
use Rattle.std.specs.Prelude.{ℕ, zero, suc, ◌/◌, ◌%◌, List, [], ◌∷◌, ◌++◌, length}
use Rattle.model.specs.Text.{ascii}

-- n bytes of a number, little-endian
abbrev pub bytes_of : ℕ → ℕ → List ℕ
bytes_of zero v = []
bytes_of (suc n) v = v % 256 ∷ bytes_of n (v / 256)

-- 64-bit words, one after the other
abbrev pub words : List ℕ → List ℕ
words [] = []
words (w ∷ ws) = bytes_of 8 w ++ words ws

-- the CF record of the example, in a profile
abbrev pub CFs : ℕ → List ℕ
CFs profile = (ascii "CF" ++ bytes_of 4 65535) ++ (bytes_of 4 64 ++ (bytes_of 4 65536 ++ (bytes_of 1 profile ++ (bytes_of 1 2 ++ (bytes_of 2 0 ++ bytes_of 2 1)))))

-- a GM record
abbrev pub GMs : ℕ → List ℕ → List ℕ
GMs address ws = (ascii "GM" ++ bytes_of 8 address) ++ (bytes_of 4 (length ws) ++ ws)

-- a WR record
abbrev pub WRs : ℕ → ℕ → ℕ → List ℕ
WRs offset width value = (ascii "WR" ++ bytes_of 8 offset) ++ (bytes_of 1 width ++ bytes_of 8 value)

-- an RD record
abbrev pub RDs : ℕ → ℕ → List ℕ
RDs offset width = (ascii "RD" ++ bytes_of 8 offset) ++ bytes_of 1 width

-- a TR record
abbrev pub TRs : ℕ → ℕ → List ℕ
TRs device event = (ascii "TR" ++ bytes_of 4 device) ++ bytes_of 4 event

-- w0 w1 w2 w3 of its four commands
abbrev pub example_commands : List ℕ
example_commands =
    words (
    0x500000008 ∷ 3 ∷ 0x8000000000000000 ∷ 0
    ∷ 9 ∷ 0 ∷ 0x8000000000010002 ∷ 0
    ∷ 0x50000000A ∷ 0x200800000009 ∷ 2 ∷ 0
    ∷ 0x500000003 ∷ 9 ∷ 0 ∷ 0
    ∷ [])

-- CF 65535, 64, 65536, base, processors 0 and 1. GM at 0x40000000, 128 bytes. WR 0x80 8 0x8000000040000000; RD 0x80 4; WR 0 4 1; WR 0x88 8 128;
-- RD 0x90 8; TR 5 9; TR 5 8
unfoldable pub example_trace : List ℕ
example_trace =
    CFs 0
    ++ (GMs 0x40000000 example_commands
    ++ (WRs 0x80 8 0x8000000040000000
    ++ (RDs 0x80 4
    ++ (WRs 0 4 1
    ++ (WRs 0x88 8 128
    ++ (RDs 0x90 8
    ++ (TRs 5 9
    ++ TRs 5 8)))))))

-- the lines that it prints
unfoldable pub example_lines : List ℕ
example_lines =
    ascii "CF 0\nGM 0\nWR 0 0 0 0 0\nRD 0 1073741824\nWR 0 0 0 0 0\nWR 0 0 0 4 1\nAC 1 8200 1\nRD 0 128\nTR 0 8200 1\nTR 8 0 0\n"

-- 01's last corner: INT (5, 9) and then opcode 0E
abbrev pub corner_commands : List ℕ
corner_commands = words (0x500000003 ∷ 9 ∷ 0 ∷ 0 ∷ 0x0E ∷ 0 ∷ 0 ∷ 0 ∷ [])

-- after the example, writer 192
unfoldable pub corner_trace : List ℕ
corner_trace = example_trace ++ (GMs 0x40000080 corner_commands ++ WRs 0x88 8 192)

-- gives refusal 20 (02, A1, for 01's 7), opcode 14, offset 160, done 1, and the INT's action (02, A2, for 01's 0)
unfoldable pub corner_lines : List ℕ
corner_lines = example_lines ++ ascii "GM 0\nWR 20 14 160 1 1\nAC 1 8200 1\n"

-- 02, A2. After the example, INT and CLEAR of (5, 9) and then INT of (5, 8), a pair that is not mapped, writer 224; CTLR, which tries that one again; and
-- a writer that is refused
unfoldable pub handed_trace : List ℕ
handed_trace =
    example_trace
    ++ (GMs 0x40000080 (words (0x500000003 ∷ 9 ∷ 0 ∷ 0 ∷ 0x500000004 ∷ 9 ∷ 0 ∷ 0 ∷ 0x500000003 ∷ 8 ∷ 0 ∷ 0 ∷ []))
    ++ (WRs 0x88 8 224 ++ (WRs 0 4 1 ++ WRs 0x88 8 33)))

-- the first write hands over the two actions made before the refused INT, and none of that one; the second hands over none of the first's; the third is
-- refused before a run
unfoldable pub handed_lines : List ℕ
handed_lines = example_lines ++ ascii "GM 0\nWR 8 3 192 2 2\nAC 1 8200 1\nAC 1 8200 0\nWR 8 3 192 0 0\nWR 7 0 33 0 0\n"

-- 02, A3. The example in strict, with CBASER's bit 63 clear first: CTLR and CWRITER are stored and CREADR stays, though 127 commands wait and the budget
-- is 64. Disabled, and with bit 63 set, the commands run. Then device 5 is mapped again, with commands that name no device though w0 63:32 is 65536:
-- MAPC, INVALL, SYNC, and last the opcode 0E, which is unknown. The pair (5, 9) is gone, and an INT of device 65536, tried with Retry (02, A4), is too large
unfoldable pub strict_trace : List ℕ
strict_trace =
    CFs 1
    ++ (GMs 0x40000000 example_commands
    ++ (WRs 0x80 8 0x40000000
    ++ (WRs 0 4 1
    ++ (WRs 0x88 8 4064
    ++ (WRs 0 4 1
    ++ (RDs 0x90 8
    ++ (RDs 0x88 8
    ++ (WRs 0 4 0
    ++ (WRs 0x80 8 0x8000000040000000
    ++ (WRs 0 4 1
    ++ (WRs 0x88 8 128
    ++ (TRs 5 9
    ++ (GMs 0x40000080
    (words (
    0x500000008 ∷ 3 ∷ 0x8000000000000000 ∷ 0
    ∷ 0x1000000000009 ∷ 0 ∷ 0x8000000000010002 ∷ 0
    ∷ 0x100000000000D ∷ 0 ∷ 2 ∷ 0
    ∷ 0x1000000000005 ∷ 0 ∷ 0 ∷ 0
    ∷ 0x100000000000E ∷ 0 ∷ 0 ∷ 0
    ∷ []))
    ++ (WRs 0x88 8 288
    ++ (TRs 5 9
    ++ (GMs 0x40000100 (words (0x1000000000003 ∷ 9 ∷ 0 ∷ 0 ∷ []))
    ++ WRs 0x88 8 289))))))))))))))))

-- the lines that it prints
unfoldable pub strict_lines : List ℕ
strict_lines =
    ascii "CF 0\nGM 0\nWR 0 0 0 0 0\nWR 0 0 0 0 0\nWR 0 0 0 0 0\nWR 0 0 0 0 0\nRD 0 0\nRD 0 4064\nWR 0 0 0 0 0\nWR 0 0 0 0 0\nWR 0 0 0 0 0\n"
    ++ ascii "WR 0 0 0 4 1\nAC 1 8200 1\nTR 0 8200 1\nGM 0\nWR 20 14 256 4 0\nTR 8 0 0\nGM 0\nWR 27 3 256 0 0\n"

-- 02, A4. Strict: the writers 1, which is 0 with Retry, and 33, which is 32 with it and refused, and one above 2^32, which counts whole. MAPD of device 5
-- and then the opcode 0E, which stops the ring: CREADR shows Stalled, at both widths and not in its high half, and CWRITER no Retry
abbrev pub stalling_trace : List ℕ
stalling_trace =
    CFs 1
    ++ (WRs 0x88 8 1
    ++ (WRs 0x88 8 33
    ++ (WRs 0x88 8 0x100000001
    ++ (GMs 0x40000000 (words (0x500000008 ∷ 3 ∷ 0x8000000000000000 ∷ 0 ∷ 0x0E ∷ 0 ∷ 0 ∷ 0 ∷ []))
    ++ (WRs 0x80 8 0x8000000040000000
    ++ (WRs 0 4 1
    ++ (WRs 0x88 8 64
    ++ (RDs 0x90 8
    ++ (RDs 0x90 4
    ++ (RDs 0x94 4
    ++ RDs 0x88 8))))))))))

abbrev pub stalling_lines : List ℕ
stalling_lines = ascii "CF 0\nWR 0 0 0 0 0\nWR 7 0 32 0 0\nWR 7 0 4294967296 0 0\nGM 0\nWR 0 0 0 0 0\nWR 0 0 0 0 0\nWR 20 14 32 1 0\nRD 0 33\nRD 0 33\nRD 0 0\nRD 0 64\n"

-- Then nothing runs and there is no 5, though the budget is 64: CTLR, off and on; CWRITER without Retry, which is stored, so that 126 wait; bit 0 of
-- CWRITER's high half; and Retry with a writer that is refused, beyond the ring or no multiple of 32. An accepted Retry clears Stalled: here more wait than
-- the budget, and Stalled stays clear. With fewer the opcode 0E stalls the unit again
abbrev pub stalled_trace : List ℕ
stalled_trace =
    WRs 0 4 0
    ++ (WRs 0 4 1
    ++ (RDs 0 4
    ++ (WRs 0x88 8 4064
    ++ (RDs 0x88 8
    ++ (WRs 0x8C 4 1
    ++ (RDs 0x90 8
    ++ (WRs 0x88 8 4097
    ++ (WRs 0x88 8 67
    ++ (RDs 0x90 8
    ++ (WRs 0x88 8 4065
    ++ (RDs 0x90 8
    ++ (WRs 0x88 4 65
    ++ RDs 0x90 4))))))))))))

abbrev pub stalled_lines : List ℕ
stalled_lines =
    ascii "WR 0 0 0 0 0\nWR 0 0 0 0 0\nRD 0 2147483649\nWR 0 0 0 0 0\nRD 0 4064\nWR 0 0 0 0 0\nRD 0 33\nWR 7 0 4096 0 0\nWR 7 0 66 0 0\nRD 0 33\nWR 5 0 32 0 0\nRD 0 32\nWR 20 14 32 0 0\nRD 0 33\n"

-- A SYNC stands in the place of the opcode 0E, and Retry goes on to the end. Then the ring stops again; a CBASER write is ignored while the unit is enabled,
-- and clears Stalled where it is stored. And base, where bit 0 of CWRITER is refused as before
unfoldable pub retry_trace : List ℕ
retry_trace =
    stalling_trace
    ++ (stalled_trace
    ++ (GMs 0x40000020 (words (5 ∷ 0 ∷ 0 ∷ 0 ∷ 0x0E ∷ 0 ∷ 0 ∷ 0 ∷ []))
    ++ (WRs 0x88 4 65
    ++ (RDs 0x90 8
    ++ (RDs 0x88 8
    ++ (WRs 0x88 8 96
    ++ (WRs 0x80 8 0x8000000040000000
    ++ (RDs 0x90 8
    ++ (WRs 0 4 0
    ++ (WRs 0x80 8 0x8000000040000000
    ++ (RDs 0x90 8
    ++ (CFs 0
    ++ WRs 0x88 8 1))))))))))))

-- the lines that it prints
unfoldable pub retry_lines : List ℕ
retry_lines =
    stalling_lines
    ++ (stalled_lines
    ++ ascii "GM 0\nWR 0 0 0 1 0\nRD 0 64\nRD 0 64\nWR 20 14 64 0 0\nWR 0 0 0 0 0\nRD 0 65\nWR 0 0 0 0 0\nWR 0 0 0 0 0\nRD 0 0\nCF 0\nWR 7 0 1 0 0\n")
