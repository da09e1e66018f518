-- `asm_operations::names::operation_of` meets its contract: the line is empty, or the word of its operation field is read.
use Rattle.language.specs.Operation.{operation_of}
use Rattle.base.specs.Test.{if}
use Rattle.asm_operations.proofs.names.operation_of.Goals as goal

pub returns-then-is_empty : goal.returns-then-is_empty
unfolding operation_of if
returns-then-is_empty c = rw (← c.is_empty.ensures, c.if-is_empty.true)

pub returns : goal.returns
unfolding operation_of if
returns c = rw (← c.is_empty.ensures, c.if-is_empty.false, ← c.fields_of-f.ensures.operation_start_is, ← c.fields_of-f.ensures.operation_end_is) c.operation_in.ensures
