-- `asm_operands::operands::star_by`: the five bytes are looked up.
use mathlib.Core.Path.{◌∙◌, ◌≡◌, ap, refl, sym}
use Rattle.base.specs.Lists.{◌at◌}
use Rattle.language.specs.Operand.{supplied_by}
use Rattle.asm_operands.specs.LineCard.{star_of}
use Rattle.supplied.specs.Supplied.{supplied_of}
use Rattle.asm_operands.proofs.operands.star_by.Goals as goal

pub returns-in_default : goal.returns-in_default
unfolding star_of
returns-in_default c = let s = c.args.s.now in let q : supplied_of (s at 0) (s at 1) (s at 2) (s at 3) (s at 4) ≡ c.supplied_value-found.result = sym (c.supplied_value-found.ensures ∙ rw (c.byte_at.ensures, c.byte_at-2.ensures, c.byte_at-3.ensures, c.byte_at-4.ensures, c.byte_at-5.ensures) refl) in sym (ap supplied_by (q ∙ c.in_default.is))

pub returns : goal.returns
unfolding star_of
returns c = let s = c.args.s.now in let q : supplied_of (s at 0) (s at 1) (s at 2) (s at 3) (s at 4) ≡ c.supplied_value-found.result = sym (c.supplied_value-found.ensures ∙ rw (c.byte_at.ensures, c.byte_at-2.ensures, c.byte_at-3.ensures, c.byte_at-4.ensures, c.byte_at-5.ensures) refl) in c.value_of.ensures ∙ sym (ap supplied_by (q ∙ c.in-Some.is))
