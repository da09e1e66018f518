-- `asm_cards::of_words` meets its contract: each return rewrites with the test that led there.
use Rattle.language.specs.Card.{of_words}
use Rattle.base.specs.Test.{◌or◌}
use borrow.Author.Tests.{eq-eqb, ne_eqb}
use Rattle.asm_cards.proofs.of_words.Goals as goal

pub returns-then-c-eq-SECTION_2 : goal.returns-then-c-eq-SECTION_2
unfolding of_words ◌or◌
returns-then-c-eq-SECTION_2 c = λ l. rw (eq-eqb _ 3 c.if-c-eq-SECTION_2.true)

pub returns : goal.returns
unfolding of_words ◌or◌
returns c = λ l. rw (ne_eqb _ 3 c.if-c-eq-SECTION_2.false)
