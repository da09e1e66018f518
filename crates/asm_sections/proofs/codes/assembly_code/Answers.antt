-- `asm_sections::codes::assembly_code` meets its contract: past DTC there is none.
use Rattle.asm_sections.proofs.Laws.{code_at, code-last}
use native.Mathlib.Omega.{arith}
use Rattle.asm_sections.proofs.codes.assembly_code.Goals as goal

pub returns-then-a-lt-DTC : goal.returns-then-a-lt-DTC
returns-then-a-lt-DTC c = code_at c.args.a (omega arith)

pub returns : goal.returns
returns c = code-last c.args.a c.if-a-lt-DTC.false
