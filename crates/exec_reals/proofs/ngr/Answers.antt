use mathlib.Core.Path.{◌∙◌, ap}
use Rattle.real_rules.specs.Real.{negated}
use Rattle.real_rules.proofs.Laws.{proper-real, proper-negated}
use Rattle.exec_reals.proofs.Laws.{settles, proper-is}
use Rattle.reals.specs.Views.{real_view}
use Rattle.exec_reals.proofs.ngr.Goals as goal

pub settle-requires : goal.settle-requires
settle-requires c = proper-is c.negate-x.ensures (proper-negated (real_view c.ra.result) (proper-is c.ra.ensures (proper-real _ _)))

pub returns : goal.returns
returns c = λ m. settles _ _ m c.settle.ensures (c.negate-x.ensures ∙ ap negated c.ra.ensures)
