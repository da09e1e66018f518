-- `asm_operands::operands::indexed_by`: each arm is the clause of its term.
use mathlib.Core.Path.{◌∙◌, refl}
use Rattle.asm_operands.proofs.operands.indexed_by.Goals as goal

pub returns-in-Constant : goal.returns-in-Constant
returns-in-Constant c = c.displaced_words.ensures ∙ rw c.in-Constant.is refl

pub returns-in-Named : goal.returns-in-Named
returns-in-Named c = c.displaced_by.ensures ∙ rw (c.meaning.ensures.0, c.in-Named.is) refl
