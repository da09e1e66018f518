-- `console::word::with_digit` meets its contract.
use Rattle.asm_names.proofs.Numbers.{digit-ge}
use Rattle.console.proofs.word.with_digit.Goals as goal

pub overflow_sub-result : goal.overflow_sub-result
overflow_sub-result c = digit-ge _ c.requires.1
