use mathlib.Core.Path.{refl}
use Rattle.exec_integers.proofs.Laws.{steady-still, load-missing, load-got}
use Rattle.exec_integers.proofs.ldi.Goals as goal

pub returns-in_default : goal.returns-in_default
returns-in_default c = load-missing _ _ _ _ _ c.load.ensures c.in_default.is

pub returns : goal.returns
returns c = load-got _ _ _ _ _ c.load.ensures c.in-Some.is (steady-still _ _ _ c.requires.one) refl
