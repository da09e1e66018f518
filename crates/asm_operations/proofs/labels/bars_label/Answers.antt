-- `asm_operations::labels::bars_label` meets its contract: a divider, or labelless.
use Rattle.language.specs.Operation.{bars_label}
use Rattle.base.specs.Test.{◌or◌}
use mathlib.Core.Path.{◌∙◌}
use Rattle.asm_operations.proofs.labels.bars_label.Goals as goal

pub returns-then-is_divider : goal.returns-then-is_divider
unfolding bars_label ◌or◌
returns-then-is_divider c = rw (← c.is_divider.ensures, c.if-is_divider.true)

pub returns : goal.returns
unfolding bars_label ◌or◌
returns c = c.is_labelless.ensures ∙ rw (← c.is_divider.ensures, c.if-is_divider.false)
