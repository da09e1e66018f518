-- `asm_operations::codes::row_index` meets its contract: an arm for each variant.
use Rattle.asm_operations.specs.Codes.{row_of}
use Rattle.asm_operations.proofs.Laws.{row-past}
use native.Mathlib.Omega.{arith}
use Rattle.asm_operations.proofs.codes.row_index.Goals as goal

pub returns-in-Empty : goal.returns-in-Empty
unfolding row_of
returns-in-Empty c = rw c.in-Empty.is (row-past 106 (omega arith))

pub returns-in-Malformed : goal.returns-in-Malformed
unfolding row_of
returns-in-Malformed c = rw c.in-Malformed.is (row-past 106 (omega arith))

pub returns-in-Unknown : goal.returns-in-Unknown
unfolding row_of
returns-in-Unknown c = rw c.in-Unknown.is (row-past 106 (omega arith))

pub returns-in-Assembles : goal.returns-in-Assembles
unfolding row_of
returns-in-Assembles c = rw c.in-Assembles.is (row-past 106 (omega arith))

pub returns-in-Operates : goal.returns-in-Operates
unfolding row_of
returns-in-Operates c = rw c.in-Operates.is
