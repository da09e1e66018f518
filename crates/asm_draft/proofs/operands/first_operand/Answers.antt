-- `asm_draft::operands::first_operand` meets its contract: the declared count, if there is one.
use Rattle.asm_symbols.specs.Symbolic.{FitsCount}
use Rattle.asm_draft.proofs.Rows.{first_by_lem}
use Rattle.asm_types.specs.Views.{parsed_view}
use mathlib.Core.Path.{refl, sym, ap, subst, ◌∙◌}
use Rattle.asm_draft.proofs.operands.first_operand.Goals as goal

pub returns-in_default : goal.returns-in_default
returns-in_default c = rw (first_by_lem _ _ _, sym c.declared-count.ensures.0 ∙ ap parsed_view c.in_default.is, ← c.outcome_at.ensures) c.given_of.ensures

pub narrow-requires : goal.narrow-requires
narrow-requires c = subst FitsCount c.in-Some.is c.declared-count.ensures.1

pub returns : goal.returns
returns c = rw (first_by_lem _ _ _, sym c.declared-count.ensures.0 ∙ ap parsed_view c.in-Some.is) (record { kind_is = refl; reg_is = refl; val_is = c.narrow.ensures })
