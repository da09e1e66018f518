use mathlib.Core.Path.{sym, ◌∙◌}
use Rattle.base.specs.Test.{if}
use Rattle.host_claims.specs.Running.{unread_number}
use Rattle.host_words.proofs.unread.Goals as goal

pub returns-then-check_table : goal.returns-then-check_table
unfolding unread_number if
returns-then-check_table c = rw (sym c.check_table.ensures ∙ c.if-check_table.true)

pub returns : goal.returns
unfolding unread_number if
returns c = rw (sym c.check_table.ensures ∙ c.if-check_table.false)
