-- The assembly operations: the cards that are no operations of a table [S Cards] [M 11] [M 12] [M 13] [M 14].
-- A section is counted by the SEC cards above: `opened` is 0 before the first of them, k + 1 in section k.
-- Taken where 01 is open: TTL and EJC stand anywhere, END in any section and before the first; an eighth SEC is not of its section.
-- Assumes nothing.
use Rattle.std.specs.Prelude.{ℕ, ◌/◌, ◌%◌, List, [], ◌∷◌, get_or}
use Prim.Native.String.{String}
use Rattle.ops.specs.Class.{none, class_code}
use Rattle.ops.specs.Format.{Format, NONE, VAL, INT, PTYP, EQOP, ADDR, INTEGER, REAL, format_code}
use Rattle.ops.specs.Ops.{letter_of}

-- The assembly operations [M 11] [M 12] [M 13] [M 14].
pub data Assembly : Type 0 where
  SEC END TTL EJC EXP INP INR GLB EQU DAC DIC DRC DBC DTC : Assembly
  deriving Discrete as Assembly-discrete

-- A row: number as the operations have it, mnemonic, the first and the last value of `opened` at which it stands, the formats of its operands.
pub record AssemblyRow : Type 0 where
  pub number : ℕ
  pub mnemonic : String
  pub first : ℕ
  pub last : ℕ
  pub formats : List Format

abbrev row : ℕ → String → ℕ → ℕ → List Format → AssemblyRow
row n s i j fs = record { number = n; mnemonic = s; first = i; last = j; formats = fs }

-- the seventh SEC is the last [S Cards]
abbrev pub assembly_row : Assembly → AssemblyRow
assembly_row SEC = row 1401 "SEC" 0 6 []
assembly_row END = row 1402 "END" 0 7 []
assembly_row TTL = row 1302 "TTL" 0 7 []
assembly_row EJC = row 1301 "EJC" 0 7 []
assembly_row EXP = row 1202 "EXP" 1 1 (PTYP ∷ INT ∷ [])
assembly_row INP = row 1203 "INP" 1 1 (PTYP ∷ INT ∷ [])
assembly_row INR = row 1204 "INR" 1 1 []
assembly_row GLB = row 1205 "GLB" 1 1 []
assembly_row EQU = row 1201 "EQU" 2 2 (EQOP ∷ [])
assembly_row DAC = row 1101 "DAC" 3 4 (ADDR ∷ [])
assembly_row DIC = row 1102 "DIC" 3 4 (INTEGER ∷ [])
assembly_row DRC = row 1103 "DRC" 3 4 (REAL ∷ [])
assembly_row DBC = row 1105 "DBC" 3 4 (VAL ∷ [])
assembly_row DTC = row 1104 "DTC" 3 4 []

abbrev pub assemblies : List Assembly
assemblies = SEC ∷ END ∷ TTL ∷ EJC ∷ EXP ∷ INP ∷ INR ∷ GLB ∷ EQU ∷ DAC ∷ DIC ∷ DRC ∷ DBC ∷ DTC ∷ []

-- its row in the constant list, of the same form as an operation's: number, letters, operands, and no class
abbrev pub assembly_cells : Assembly → List ℕ
assembly_cells a =
    (assembly_row a).number / 100 ∷ (assembly_row a).number % 100 ∷ letter_of (assembly_row a).mnemonic 0 ∷ letter_of (assembly_row a).mnemonic 1
    ∷ letter_of (assembly_row a).mnemonic 2 ∷ format_code (get_or (assembly_row a).formats 0 NONE)
    ∷ format_code (get_or (assembly_row a).formats 1 NONE) ∷ format_code (get_or (assembly_row a).formats 2 NONE) ∷ class_code none ∷ []
