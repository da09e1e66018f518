use mathlib.Core.Path.{sym, ap, ◌∙◌}
use mir.Facts.{to_z-of_z}
use mir.Syntax.{w64}
use Rattle.base.specs.Test.{if}
use Rattle.words.specs.Words.{low}
use Rattle.rules.specs.Exec.{cvd_of}
use Rattle.accumulator.proofs.Laws.{quot-ten}
use Rattle.exec_integers.proofs.cvd.Goals as goal

pub returns-then-positive : goal.returns-then-positive
unfolding cvd_of if
returns-then-positive c m = rw (← c.positive.ensures, c.if-positive.true)

pub last_digit-requires : goal.last_digit-requires
last_digit-requires c = sym c.positive.ensures ∙ c.if-positive.false

pub returns : goal.returns
unfolding cvd_of if
returns c m = rw (← c.positive.ensures, c.if-positive.false, c.low.ensures ∙ ap low (to_z-of_z {w = w64} (record { sfits = c.quotient.type_inv }) ∙ c.quotient.ensures ∙ quot-ten _), c.last_digit.ensures)
