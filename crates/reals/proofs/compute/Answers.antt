-- `reals::compute` meets its contract: the answer of an operation on two values.
use mathlib.Core.Path.{ap, ◌∙◌}
use Rattle.real_rules.specs.Real.{answer}
use Rattle.reals.specs.Views.{on_values}
use Rattle.reals.proofs.Views.{both_by}
use Rattle.reals.proofs.compute.Goals as goal

pub returns : goal.returns
returns c = both_by (on_values c.args.o) (c.answer.ensures ∙ ap answer c.computed.ensures) c.in-Finite.is c.in-Finite-b.is
