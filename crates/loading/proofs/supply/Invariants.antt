use mathlib.Core.Path.{◌≡◌}
use Rattle.rules.specs.Start.{supplied}
use lib.ListN.{length}
use Rattle.loading.proofs.supply.Given as goal

abbrev pub invariant-loop-i : goal.invariant-loop-i
invariant-loop-i l = (length l.memory ≡ length l.initial.memory) × (l.memory ≡ supplied l.table l.fresh l.i l.initial.memory)
