-- `asm_faults::lines::label_readable` meets its contract: each return rewrites with the tests that led there.
use mathlib.Core.Path.{sym, ◌∙◌}
use Rattle.base.specs.Test.{◌or◌}
use Rattle.language.specs.Fault.{label_readable}
use Rattle.asm_faults.proofs.lines.label_readable.Goals as goal

pub returns-then-is_empty : goal.returns-then-is_empty
unfolding label_readable ◌or◌
returns-then-is_empty c = λ k e. rw (e, sym c.is_empty.ensures ∙ c.if-is_empty.true)

pub returns : goal.returns
unfolding label_readable ◌or◌
returns c = λ k e. rw (e, sym c.is_empty.ensures ∙ c.if-is_empty.false) c.label_formed.ensures
