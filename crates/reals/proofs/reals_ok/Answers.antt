-- `reals::reals_ok` meets its contract: the two tests in turn.
use mathlib.Core.Path.{refl}
use Rattle.base.specs.Test.{◌and◌}
use Rattle.reals.proofs.reals_ok.Goals as goal

pub returns-then-not-finite_high : goal.returns-then-not-finite_high
unfolding ◌and◌
returns-then-not-finite_high c = rw (← c.finite_high.ensures, c.if-not-finite_high.true) refl

pub returns : goal.returns
unfolding ◌and◌
returns c = rw (← c.finite_high.ensures, c.if-not-finite_high.false) refl
