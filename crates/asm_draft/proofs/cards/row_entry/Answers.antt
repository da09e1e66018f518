-- `asm_draft::cards::row_entry` meets its contract: the cells of its row and three operands.
use Rattle.asm_draft.proofs.PlaceValues.{outcomes-fit}
use Rattle.asm_draft.proofs.Rows.{entry-is}
use Rattle.asm_draft.specs.Operands.{FieldsOf, PlaceFits}
use Rattle.language.specs.Image.{third_of}
use Rattle.language.specs.Operand.{Outcome}
use Prim.Native.Nat.{◌+◌}
use Rattle.asm_types.specs.Views.{card_view}
use mathlib.Core.Path.{sym, ap, subst, ◌∙◌}
use Rattle.asm_draft.proofs.cards.row_entry.Goals as goal

pub third_of-three-requires : goal.third_of-three-requires
third_of-three-requires c = subst PlaceFits (sym c.outcome_at-2.ensures) (outcomes-fit c.args.symbols.now.words.now c.args.symbols.now.n c.args.symbols.now.symbolic (card_view c.args.c c.args.s.now) (c.type_count-i.result + 2))

pub returns : goal.returns
returns c = entry-is _ _ _ _ _ _ _ _ _ c.number_of-number.ensures c.type_count-i.ensures.0 c.first_operand-one.ensures (subst (λ (o : Outcome). FieldsOf o c.given_of-two.result) c.outcome_at.ensures c.given_of-two.ensures) (c.third_of-three.ensures ∙ ap third_of c.outcome_at-2.ensures)
