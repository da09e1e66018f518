-- `asm_numbers::number_assembled` meets its contract: the arms that the must-fail edits turn.
use Rattle.std.proofs.Common.{rules}
use Rattle.asm_numbers.proofs.number_assembled.Goals as goal

pub returns-in-Err-Faulty : goal.returns-in-Err-Faulty
returns-in-Err-Faulty c = search rules

pub returns-in-Err-Incomplete : goal.returns-in-Err-Incomplete
returns-in-Err-Incomplete c = search rules
