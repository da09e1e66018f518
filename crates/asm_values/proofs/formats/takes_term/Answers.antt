-- `asm_values::formats::takes_term`: each arm is a term.
use mathlib.Core.Path.{◌∙◌, refl}
use Rattle.asm_values.proofs.formats.takes_term.Goals as goal

pub returns-in-Constant : goal.returns-in-Constant
returns-in-Constant c = c.takes_number.ensures ∙ rw c.in-Constant.is refl

pub returns-in-Named : goal.returns-in-Named
returns-in-Named c = c.takes_symbol.ensures ∙ rw c.in-Named.is refl
