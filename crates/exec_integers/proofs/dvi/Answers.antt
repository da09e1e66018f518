use mathlib.Core.Path.{◌∙◌}
use lib.Signed.{quot_z}
use mir.Facts.{to_z-of_z}
use mir.Syntax.{w64}
use Rattle.exec_integers.proofs.Laws.{steady-still, load-missing, load-got}
use Rattle.exec_integers.proofs.dvi.Goals as goal

pub returns-in_default : goal.returns-in_default
returns-in_default c = load-missing _ _ _ _ _ c.load.ensures c.in_default.is

pub returns : goal.returns
returns c = load-got _ _ _ _ _ c.load.ensures c.in-Some.is (steady-still _ _ _ c.requires.one) (c.divide.ensures quot_z (to_z-of_z {w = w64} (record { sfits = c.quotient-n.type_inv }) ∙ c.quotient-n.ensures))
