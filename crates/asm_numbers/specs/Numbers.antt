-- The number of each answer of the assembler, as a host sees it, in the upper half, with the table's length or the fault's line in the lower.
-- Wrong answers that the equation rules out: a length or a line in the upper half, a line beside 8, 9 or 10.
-- Assumes nothing.
use Rattle.std.specs.Prelude.{ℕ, ◌+◌}
use Rattle.rules.specs.Number.{upper}
use Rattle.language.specs.Answer as Cards

-- the number of the assembler's answer, with the table's length or the line of the fault
abbrev pub assembled_number : Cards.Answer → ℕ
assembled_number (Cards.assembled n) = upper 0 + n
assembled_number (Cards.refused r) = upper (Cards.refusal_number r) + Cards.refusal_line r
