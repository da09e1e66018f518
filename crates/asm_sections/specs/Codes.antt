-- An operation's code.
-- Assumes nothing.
use Rattle.std.specs.Prelude.{ℕ}
use Rattle.language.specs.Operation.{Assembly, DAC, DBC, DIC, DRC, DTC, EJC, END, EQU, EXP, GLB, INP, INR, Operation, SEC, TTL, assembles, empty, malformed, operates, unknown}

-- the assembly operations by their numbers
abbrev pub assembly_code : Assembly → ℕ
assembly_code SEC = 0
assembly_code END = 1
assembly_code TTL = 2
assembly_code EJC = 3
assembly_code EXP = 4
assembly_code INP = 5
assembly_code INR = 6
assembly_code GLB = 7
assembly_code EQU = 8
assembly_code DAC = 9
assembly_code DIC = 10
assembly_code DRC = 11
assembly_code DBC = 12
assembly_code DTC = 13

-- an operation's code: the number of an assembly operation, or what else it is
unfoldable pub code_of : Operation → ℕ
code_of empty = 14
code_of malformed = 15
code_of unknown = 16
code_of (assembles a) = assembly_code a
code_of (operates i) = 17
