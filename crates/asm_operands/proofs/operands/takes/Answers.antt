-- `asm_operands::operands::takes`: each arm is the clause of its form.
use mathlib.Core.Path.{◌∙◌, refl, sym}
use Rattle.language.specs.Operand.{takes}
use Rattle.base.proofs.Bool.{or-false}
use Rattle.asm_operands.proofs.operands.takes.Goals as goal

pub returns-in-Formless : goal.returns-in-Formless
unfolding takes
returns-in-Formless c = rw c.in-Formless.is refl

pub returns-in-Omitted : goal.returns-in-Omitted
unfolding takes
returns-in-Omitted c = c.takes_kind.ensures ∙ rw c.in-Omitted.is refl

pub returns-in-Star : goal.returns-in-Star
unfolding takes
returns-in-Star c = c.is_tag.ensures ∙ rw c.in-Star.is (sym (or-false _))

pub returns-in-Plain : goal.returns-in-Plain
unfolding takes
returns-in-Plain c = c.takes_term.ensures ∙ rw c.in-Plain.is refl

pub returns-in-Register : goal.returns-in-Register
unfolding takes
returns-in-Register c = c.takes_kind-in-Register.ensures ∙ rw (c.register_kind.ensures.0, c.in-Register.is) refl

pub returns-in-Literal : goal.returns-in-Literal
unfolding takes
returns-in-Literal c = c.is_tag-in-Literal.ensures ∙ rw c.in-Literal.is (sym (or-false _))

pub returns-in-Multiple : goal.returns-in-Multiple
unfolding takes
returns-in-Multiple c = c.is_tag-in-Multiple.ensures ∙ rw c.in-Multiple.is (sym (or-false _))

pub returns-in-Indirect : goal.returns-in-Indirect
unfolding takes
returns-in-Indirect c = c.takes_x.ensures ∙ rw c.in-Indirect.is refl

pub returns-in-Rising : goal.returns-in-Rising
unfolding takes
returns-in-Rising c = c.takes_x-in-Rising.ensures ∙ rw c.in-Rising.is refl

pub returns-in-Falling : goal.returns-in-Falling
unfolding takes
returns-in-Falling c = c.takes_x-in-Falling.ensures ∙ rw c.in-Falling.is refl

pub returns-in-ProcedureType : goal.returns-in-ProcedureType
unfolding takes
returns-in-ProcedureType c = c.is_tag-in-ProcedureType.ensures ∙ rw c.in-ProcedureType.is (sym (or-false _))

pub returns-in-Indexed : goal.returns-in-Indexed
unfolding takes
returns-in-Indexed c = c.takes_kind-in-Indexed.ensures ∙ rw c.in-Indexed.is refl

pub returns-in-Sum : goal.returns-in-Sum
unfolding takes
returns-in-Sum c = c.is_tag-in-Sum.ensures ∙ rw c.in-Sum.is (sym (or-false _))

pub returns-in-Difference : goal.returns-in-Difference
unfolding takes
returns-in-Difference c = c.is_tag-in-Difference.ensures ∙ rw c.in-Difference.is (sym (or-false _))

pub returns-in-Positive : goal.returns-in-Positive
unfolding takes
returns-in-Positive c = c.is_tag-in-Positive.ensures ∙ rw c.in-Positive.is (sym (or-false _))

pub returns-in-Negative : goal.returns-in-Negative
unfolding takes
returns-in-Negative c = c.is_tag-in-Negative.ensures ∙ rw c.in-Negative.is (sym (or-false _))

pub returns-in-Real : goal.returns-in-Real
unfolding takes
returns-in-Real c = c.is_tag-in-Real.ensures ∙ rw c.in-Real.is (sym (or-false _))
