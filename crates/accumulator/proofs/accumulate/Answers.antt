use mathlib.Core.Path.{◌∙◌, ap}
use lib.IntN.{ℤ}
use mir.Facts.{to_z-of_z}
use mir.Syntax.{w64}
use Rattle.base.specs.Test.{if}
use Rattle.words.specs.Words.{low, fits}
use Rattle.rules.specs.Exec.{accumulated}
use Rattle.accumulator.proofs.accumulate.Goals as goal

pub returns : goal.returns
unfolding accumulated
returns c = let e = to_z-of_z {w = w64} c.ranges.n in rw (c.low.ensures ∙ ap low e, c.beyond.ensures ∙ ap (λ (x : ℤ). if (fits x) 0 1) e)
