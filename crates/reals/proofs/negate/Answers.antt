use mathlib.Core.Path.{sym, ap}
use Rattle.reals.specs.declared.Real.{Real}
use Rattle.reals.specs.Views.{real_view}
use Rattle.real_rules.specs.Real.{negated}
use Rattle.reals.proofs.negate.Goals as goal

pub returns-in-Finite : goal.returns-in-Finite
returns-in-Finite c = sym (ap (λ (a : Real). negated (real_view a)) c.in-Finite.is)
