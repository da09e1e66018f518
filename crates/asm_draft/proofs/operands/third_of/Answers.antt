-- `asm_draft::operands::third_of` meets its contract: a place is below the largest word.
use Rattle.asm_draft.proofs.PlaceValues.{place_le}
use Rattle.asm_types.specs.Views.{outcome_view}
use Rattle.base.specs.Test.{if}
use borrow.Author.Tests.{eq-eqb, ne_eqb}
use native.Mathlib.Omega.{arith}
use Rattle.asm_draft.proofs.operands.third_of.Goals as goal

pub returns-then-g-ne-PLACE_KIND : goal.returns-then-g-ne-PLACE_KIND
unfolding if
returns-then-g-ne-PLACE_KIND c = rw (← c.given_of-g.ensures.kind_is, ne_eqb _ 6 c.if-g-ne-PLACE_KIND.true)

pub overflow_add-result : goal.overflow_add-result
overflow_add-result c = omega (arith, place_le (outcome_view c.args.o) c.requires _ _ c.given_of-g.ensures.kind_is c.given_of-g.ensures.val_is c.if-g-ne-PLACE_KIND.false)

pub returns : goal.returns
unfolding if
returns c = rw (← c.given_of-g.ensures.kind_is, ← c.given_of-g.ensures.val_is, eq-eqb _ 6 c.if-g-ne-PLACE_KIND.false)
