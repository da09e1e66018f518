-- An operation as numbers: its row, and the words of its formats as the code reads them.
-- Assumes nothing.
use Rattle.std.specs.Prelude.{ℕ, ◌+◌, ◌*◌, ◌-◌, Bool, List, eqb, leb, ltb, get_or}
use Rattle.base.specs.Test.{if}
use Rattle.ops.specs.Assembly.{assembly_cells}
use Rattle.ops.specs.Class.{PRC, class_code, marks}
use Rattle.ops.specs.Format.{NONE, PTYP, format_word, code_word}
use Rattle.ops.specs.Lookup.{no_row, row_at}
use Rattle.ops.specs.Ops.{Row, cells_of}
use Rattle.language.specs.Operation.{Operation, assembles, empty, malformed, operates, unknown}

-- the row of an operation; one that has none has the row past the last
unfoldable pub row_of : Operation → Row
row_of empty = no_row
row_of malformed = no_row
row_of unknown = no_row
row_of (assembles a) = no_row
row_of (operates i) = row_at i

-- the cells of an operation's row, of the operation table or of the list of assembly operations
unfoldable pub listed : Operation → List ℕ
listed empty = cells_of no_row
listed malformed = cells_of no_row
listed unknown = cells_of no_row
listed (assembles a) = assembly_cells a
listed (operates i) = cells_of (row_at i)

-- by these cells: the word of the format of operand i, that of format i of the card, and how many formats the card has
unfoldable pub operand_format : List ℕ → ℕ → ℕ
operand_format cells i = if (leb 3 i) (format_word NONE) (code_word (get_or cells (5 + i) 0))

abbrev is_typed : List ℕ → Bool
is_typed cells = eqb (get_or cells 8 0) (class_code (marks PRC))

unfoldable pub card_format : List ℕ → ℕ → ℕ
card_format cells i = if (is_typed cells) (if (eqb i 0) (format_word PTYP) (operand_format cells (i - 1))) (operand_format cells i)

unfoldable pub card_count : List ℕ → ℕ
card_count cells =
    if (eqb (get_or cells 5 0) 0) 0
    (if (is_typed cells) 2 (if (eqb (get_or cells 6 0) 0) 1 (if (eqb (get_or cells 7 0) 0) 2 3)))

-- where the look-up of a row with the first letter a begins, from C on four rows a letter of the alphabet, and eleven; and where one that begins there
-- ends: 24 rows on, or with the table
unfoldable pub begin : ℕ → ℕ
begin a = if (ltb a 67) 0 (if (ltb 90 a) 0 ((a - 67) * 4 + 11))

unfoldable pub end : ℕ → ℕ
end from = if (ltb 82 from) 106 (from + 24)
