use mathlib.Core.Path.{sym, ap, ◌∙◌}
use mir.Facts.{to_z-of_z}
use mir.Syntax.{w64}
use Rattle.base.specs.Test.{if}
use Rattle.words.specs.Words.{low, fits}
use Rattle.rules.specs.Exec.{cvm_of, cvm_by}
use Rattle.exec_core.proofs.Laws.{place-kind}
use Rattle.exec_core.specs.Views.{way_of}
use Rattle.accumulator.proofs.Laws.{digit-from}
use Rattle.exec_integers.proofs.cvm.Goals as goal

pub returns-then-no_digit : goal.returns-then-no_digit
unfolding cvm_of if
returns-then-no_digit c m = rw (← c.no_digit.ensures, c.if-no_digit.true)

pub shifted-n-requires : goal.shifted-n-requires
shifted-n-requires c = digit-from _ _ (sym c.no_digit.ensures ∙ c.if-no_digit.false)

pub returns-then-fits : goal.returns-then-fits
unfolding cvm_of cvm_by if way_of
returns-then-fits c m = let q = to_z-of_z {w = w64} (record { sfits = c.shifted-n.type_inv }) ∙ c.shifted-n.ensures in rw (← c.no_digit.ensures, c.if-no_digit.false, ← (c.fits.ensures ∙ ap fits q), c.if-fits.true, c.low.ensures ∙ ap low q)

pub to_first-requires : goal.to_first-requires
to_first-requires c = (c.requires.inside, place-kind c.requires.one)

pub returns : goal.returns
unfolding cvm_of cvm_by if
returns c m = let q = to_z-of_z {w = w64} (record { sfits = c.shifted-n.type_inv }) ∙ c.shifted-n.ensures in rw (c.to_first.ensures, ← c.no_digit.ensures, c.if-no_digit.false, ← (c.fits.ensures ∙ ap fits q), c.if-fits.false)
