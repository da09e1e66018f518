-- `asm_faults::labels::label_wanted` meets its contract: no label, or one that may be.
use borrow.Author.Tests.{eq-eqb, ne_eqb}
use Rattle.base.specs.Test.{◌or◌}
use Rattle.language.specs.Fault.{is_labelled, label_wanted}
use Rattle.asm_faults.proofs.labels.label_wanted.Goals as goal

pub returns-then-c-eq0 : goal.returns-then-c-eq0
unfolding label_wanted is_labelled ◌or◌
returns-then-c-eq0 c = λ l. rw (eq-eqb _ 0 c.if-c-eq0.true)

pub returns : goal.returns
unfolding label_wanted is_labelled ◌or◌
returns c = λ l. rw (ne_eqb _ 0 c.if-c-eq0.false, ← c.bars_label.ensures)
