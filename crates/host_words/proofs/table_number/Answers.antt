-- `host_words::table_number` meets its contract: the table's check as a number.
use Rattle.host_words.proofs.Answers.{number_passed, number-failed}
use Rattle.host_words.proofs.table_number.Goals as goal

pub returns-then-check_table : goal.returns-then-check_table
returns-then-check_table c = number_passed _ _ c.check_table.ensures c.if-check_table.true

pub returns : goal.returns
returns c = number-failed _ _ c.check_table.ensures c.if-check_table.false
