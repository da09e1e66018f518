use Prim.Native.Nat.{ℕ, ◌+◌}
use mathlib.Core.List.{List}
use mathlib.Core.Path.{ap}
use Rattle.rules.specs.Effect.{shown}
use Rattle.accumulator.proofs.Laws.{accumulated-by}
use Rattle.exec_integers.proofs.ngi.Goals as goal

pub returns : goal.returns
returns c m = ap (λ (l : List ℕ). shown (c.args.b + 72) l m) (accumulated-by _ c.accumulate.ensures (record { sfits = c.negation-n.type_inv }) c.negation-n.ensures)
