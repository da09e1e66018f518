use mathlib.Core.Path.{refl}
use Rattle.rules.specs.Table.{section6}
use Rattle.exec_calls.proofs.to_errors.Goals as goal

pub returns : goal.returns
unfolding section6
returns c = rw c.to_place.ensures refl
