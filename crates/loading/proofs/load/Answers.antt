-- `loading::load` meets its contract.
use mathlib.Core.Path.{◌∙◌}
use Rattle.rules.specs.Start.{loaded}
use Rattle.loading.proofs.load.Goals as goal

pub returns : goal.returns
unfolding loaded
returns c = c.supply.ensures ∙ rw c.fill.ensures
