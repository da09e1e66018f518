-- Verdicts: the answer by one, and that of a line by its number.
-- Assumes nothing.
use Rattle.std.specs.Prelude.{ℕ, ◌≡◌, eqb, Result, Ok, Err}
use Rattle.base.specs.Test.{if}
use Rattle.language.specs.Answer.{Answer, faulty, refused}
use Rattle.asm_answers.specs.declared.verdict.Fault.{Fault}

-- no line has a fault, or the first that has one
abbrev pub Verdict : Type 0
Verdict = Result (Unit {0}) Fault

-- what follows where there is no fault, else the fault
abbrev pub verdict_view : Verdict → Answer → Answer
verdict_view (Ok u) a = a
verdict_view (Err f) a = refused (faulty f.number f.line)

-- v is the verdict of a line with this number: any but 0 is its fault, whatever follows [S Numbers the host sees]
abbrev pub VerdictOf : ℕ → ℕ → Verdict → Type 0
VerdictOf number line v = (a : Answer) → verdict_view v a ≡ if (eqb number 0) a (refused (faulty number line))
