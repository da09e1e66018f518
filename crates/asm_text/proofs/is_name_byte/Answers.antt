-- `asm_text::is_name_byte` meets its contract: each return rewrites with the tests that led there.
use mathlib.Core.Path.{refl}
use Rattle.base.specs.Test.{◌or◌}
use Rattle.asm_text.proofs.is_name_byte.Goals as goal

pub returns-then-is_letter : goal.returns-then-is_letter
unfolding ◌or◌
returns-then-is_letter c = rw (← c.is_letter.ensures, c.if-is_letter.true) refl

pub returns-then-is_digit : goal.returns-then-is_digit
unfolding ◌or◌
returns-then-is_digit c = rw (← c.is_letter.ensures, c.if-is_letter.false, ← c.is_digit.ensures, c.if-is_digit.true) refl

pub returns : goal.returns
unfolding ◌or◌
returns c = rw (← c.is_letter.ensures, c.if-is_letter.false, ← c.is_digit.ensures, c.if-is_digit.false) refl
