-- `asm_outcomes::value_at` meets its contract: the value of the outcome.
use mathlib.Core.Path.{ap, ◌∙◌}
use Rattle.language.specs.Operand.{value_in}
use Rattle.asm_outcomes.proofs.value_at.Goals as goal

pub returns : goal.returns
returns c = c.value_in.ensures ∙ ap value_in c.outcome_at.ensures
