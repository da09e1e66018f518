-- `asm_cards::is_external` meets its contract: the section, then the operation.
use Rattle.language.specs.Card.{is_external}
use Rattle.base.specs.Test.{◌and◌}
use borrow.Author.Tests.{eq-eqb, ne_eqb}
use Rattle.asm_cards.proofs.is_external.Goals as goal

pub returns-then-c-ne-SECTION_0 : goal.returns-then-c-ne-SECTION_0
unfolding is_external ◌and◌
returns-then-c-ne-SECTION_0 c = λ l. rw (ne_eqb _ 1 c.if-c-ne-SECTION_0.true)

pub returns : goal.returns
unfolding is_external ◌and◌
returns c = λ l. rw (eq-eqb _ 1 c.if-c-ne-SECTION_0.false) c.is_assembly.ensures
