-- `asm_operands::operands::resolved`: each arm is the clause of its form.
use mathlib.Core.Path.{◌∙◌, refl}
use mathlib.Core.Bool.{false, true}
use Rattle.base.specs.Test.{if}
use Rattle.language.specs.Operand.{signed_within, subtracted, summed, term_by}
use Rattle.asm_types.specs.Views.{symbols_in, term_view}
use Rattle.asm_operands.specs.LineCard.{combined_by, star_of}
use Rattle.asm_operands.proofs.Laws.{both_by}
use Rattle.asm_operands.proofs.operands.resolved.Goals as goal

pub returns-in-Formless : goal.returns-in-Formless
returns-in-Formless c = rw c.in-Formless.is refl

pub returns-in-Omitted : goal.returns-in-Omitted
returns-in-Omitted c = c.gives_register.ensures ∙ rw c.in-Omitted.is refl

pub returns-in-Star : goal.returns-in-Star
unfolding star_of
returns-in-Star c = c.star_by.ensures ∙ rw c.in-Star.is refl

pub returns-in-Plain : goal.returns-in-Plain
returns-in-Plain c = c.plain_by.ensures ∙ rw c.in-Plain.is refl

pub returns-in-Register : goal.returns-in-Register
returns-in-Register c = c.gives_register-in-Register.ensures ∙ rw (c.register_kind.ensures.0, c.in-Register.is) refl

pub returns-in-Literal : goal.returns-in-Literal
returns-in-Literal c = c.literal_by.ensures ∙ rw (c.meaning.ensures.0, c.in-Literal.is) refl

pub returns-in-Multiple : goal.returns-in-Multiple
returns-in-Multiple c = c.multiple_by.ensures ∙ rw (c.meaning-in-Multiple.ensures.0, c.in-Multiple.is) refl

pub returns-in-Indirect : goal.returns-in-Indirect
returns-in-Indirect c = c.gives_register-in-Indirect.ensures ∙ rw c.in-Indirect.is refl

pub returns-in-Rising : goal.returns-in-Rising
returns-in-Rising c = c.gives_register-in-Rising.ensures ∙ rw c.in-Rising.is refl

pub returns-in-Falling : goal.returns-in-Falling
returns-in-Falling c = c.gives_register-in-Falling.ensures ∙ rw c.in-Falling.is refl

pub returns-in-ProcedureType : goal.returns-in-ProcedureType
returns-in-ProcedureType c = c.value_of.ensures ∙ rw c.in-ProcedureType.is refl

pub returns-in-Indexed : goal.returns-in-Indexed
returns-in-Indexed c = c.indexed_by.ensures ∙ rw c.in-Indexed.is refl

pub returns-in-Sum : goal.returns-in-Sum
unfolding combined_by if
returns-in-Sum c = c.terms_by.ensures ∙ rw c.in-Sum.is (both_by (term_by (symbols_in c.args.symbols.now.words.now c.args.symbols.now.n) c.args.line (term_view c.in-Sum.p.first)) (term_by (symbols_in c.args.symbols.now.words.now c.args.symbols.now.n) c.args.line (term_view c.in-Sum.p.second)) (combined_by false) summed (λ v w. refl))

pub returns-in-Difference : goal.returns-in-Difference
unfolding combined_by if
returns-in-Difference c = c.terms_by-in-Difference.ensures ∙ rw c.in-Difference.is (both_by (term_by (symbols_in c.args.symbols.now.words.now c.args.symbols.now.n) c.args.line (term_view c.in-Difference.p.first)) (term_by (symbols_in c.args.symbols.now.words.now c.args.symbols.now.n) c.args.line (term_view c.in-Difference.p.second)) (combined_by true) subtracted (λ v w. refl))

pub returns-in-Positive : goal.returns-in-Positive
unfolding signed_within if
returns-in-Positive c = c.value_within.ensures ∙ rw c.in-Positive.is refl

pub returns-in-Negative : goal.returns-in-Negative
returns-in-Negative c = c.negative.ensures ∙ rw c.in-Negative.is refl

pub returns-in-Real : goal.returns-in-Real
returns-in-Real c = c.value_of-in-Real.ensures ∙ rw c.in-Real.is refl
