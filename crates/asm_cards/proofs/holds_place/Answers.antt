-- `asm_cards::holds_place` meets its contract: each return rewrites with the tests that led there.
use Rattle.language.specs.Card.{holds_place}
use Rattle.base.specs.Test.{◌and◌}
use borrow.Author.Tests.{le-leb, lt-leb}
use Rattle.asm_cards.proofs.holds_place.Goals as goal

pub returns-then-c-lt-SECTION_4 : goal.returns-then-c-lt-SECTION_4
unfolding holds_place ◌and◌
returns-then-c-lt-SECTION_4 c = λ l. rw (lt-leb 5 _ c.if-c-lt-SECTION_4.true)

pub returns-then-is_skipped : goal.returns-then-is_skipped
unfolding holds_place ◌and◌
returns-then-is_skipped c = λ l. rw (le-leb 5 _ c.if-c-lt-SECTION_4.false, ← c.is_skipped.ensures, c.if-is_skipped.true)

pub returns : goal.returns
unfolding holds_place ◌and◌
returns c = λ l. rw (le-leb 5 _ c.if-c-lt-SECTION_4.false, ← c.is_skipped.ensures, c.if-is_skipped.false, ← c.is_divider.ensures)
