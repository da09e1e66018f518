-- `asm_operands::operands::terms_by`: both terms, put together.
use mathlib.Core.Path.{◌∙◌, refl}
use Rattle.asm_operands.proofs.operands.terms_by.Goals as goal

pub returns : goal.returns
returns c = c.both.ensures ∙ rw (c.term_by.ensures, c.term_by-2.ensures) refl
