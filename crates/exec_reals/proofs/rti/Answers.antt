-- `exec_reals::rti` meets its contract: in range IA takes the whole part; beyond it operand one is taken, where there is one.
use mathlib.Core.Path.{ap}
use Rattle.exec_core.specs.Views.{way_of}
use Rattle.reals.specs.Views.{whole_view}
use Rattle.exec_reals.proofs.Laws.{rti-within, rti-beyond, way_on, way-none}
use Rattle.exec_reals.proofs.rti.Goals as goal

pub returns-then-t-b-eq-PLACE_KIND : goal.returns-then-t-b-eq-PLACE_KIND
returns-then-t-b-eq-PLACE_KIND c = λ m. rti-beyond (way_of _ _) _ m c.to_first.ensures c.whole_of.ensures (ap whole_view c.in_default.is)

pub returns-in-Some : goal.returns-in-Some
returns-in-Some c = λ m. rti-within (way_of _ _) _ m (way_on _ _) c.whole_of.ensures (ap whole_view c.in-Some.is)

pub returns : goal.returns
returns c = λ m. rti-beyond (way_of _ _) _ m (way-none _ _ c.if-t-b-eq-PLACE_KIND.false) c.whole_of.ensures (ap whole_view c.in_default.is)
