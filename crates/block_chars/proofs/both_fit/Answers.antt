use Rattle.base.specs.Test.{◌and◌}
use mathlib.Core.Path.{◌∙◌}
use Rattle.block_chars.proofs.both_fit.Goals as goal

pub returns-then-chars_fit : goal.returns-then-chars_fit
unfolding ◌and◌
returns-then-chars_fit c = c.chars_fit-then-chars_fit.ensures ∙ rw (← c.chars_fit.ensures, c.if-chars_fit.true)

pub returns : goal.returns
unfolding ◌and◌
returns c = rw (← c.chars_fit.ensures, c.if-chars_fit.false)
