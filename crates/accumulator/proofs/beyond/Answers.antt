use mathlib.Core.Path.{◌∙◌, ap}
use mir.Facts.{to_z-of_z}
use mir.Syntax.{w64}
use Rattle.base.specs.Test.{if}
use Rattle.words.specs.Words.{fits}
use Rattle.accumulator.proofs.beyond.Goals as goal

pub returns-then-fits : goal.returns-then-fits
unfolding if
returns-then-fits c = rw (← (c.fits.ensures ∙ ap fits (to_z-of_z {w = w64} c.ranges.n)), c.if-fits.true)

pub returns-else-fits : goal.returns-else-fits
unfolding if
returns-else-fits c = rw (← (c.fits.ensures ∙ ap fits (to_z-of_z {w = w64} c.ranges.n)), c.if-fits.false)
