-- `asm_faults::labels::label_there` meets its contract: a label, or none wanted.
use borrow.Author.Tests.{eq-eqb, ne_eqb}
use Rattle.base.specs.Test.{◌or◌}
use Rattle.language.specs.Fault.{is_labelled, label_there}
use Rattle.asm_faults.proofs.labels.label_there.Goals as goal

pub returns-then-c-ne0 : goal.returns-then-c-ne0
unfolding label_there is_labelled ◌or◌
returns-then-c-ne0 c = λ l. rw (ne_eqb _ 0 c.if-c-ne0.true)

pub returns : goal.returns
unfolding label_there is_labelled ◌or◌
returns c = λ l. rw (eq-eqb _ 0 c.if-c-ne0.false, ← c.wants_label.ensures)
