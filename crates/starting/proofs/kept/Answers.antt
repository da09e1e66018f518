-- `starting::kept` meets its contract.
use mathlib.Core.Path.{refl}
use Rattle.starting.proofs.kept.Goals as goal

pub returns-in-Plain : goal.returns-in-Plain
returns-in-Plain c = rw c.in-Plain.is c.own_count.ensures

pub returns-in-Warm : goal.returns-in-Warm
returns-in-Warm c = rw c.in-Warm.is refl
