-- `asm_operands::operands::plain_by`: each arm is the clause of its term.
use mathlib.Core.Path.{◌∙◌, refl}
use Rattle.asm_operands.proofs.operands.plain_by.Goals as goal

pub returns-in-Constant : goal.returns-in-Constant
returns-in-Constant c = c.value_within.ensures ∙ rw (c.largest.ensures.0, c.in-Constant.is) refl

pub returns-in-Named : goal.returns-in-Named
returns-in-Named c = c.symbol_by.ensures ∙ rw (c.meaning.ensures.0, c.in-Named.is) refl
