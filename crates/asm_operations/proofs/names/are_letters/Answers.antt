-- `asm_operations::names::are_letters` meets its contract: each return rewrites with the tests that led there.
use Rattle.base.specs.Test.{◌and◌}
use Rattle.asm_operations.proofs.names.are_letters.Goals as goal

pub returns-then-not-is_letter : goal.returns-then-not-is_letter
unfolding ◌and◌
returns-then-not-is_letter c = rw (← c.is_letter.ensures, c.if-not-is_letter.true)

pub returns-then-not-is_letter-2 : goal.returns-then-not-is_letter-2
unfolding ◌and◌
returns-then-not-is_letter-2 c = rw (← c.is_letter.ensures, c.if-not-is_letter.false, ← c.is_letter-2.ensures, c.if-not-is_letter-2.true)

pub returns : goal.returns
unfolding ◌and◌
returns c = rw (← c.is_letter.ensures, c.if-not-is_letter.false, ← c.is_letter-2.ensures, c.if-not-is_letter-2.false) c.is_letter-3.ensures
