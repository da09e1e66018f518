use Prim.Native.Nat.{◌≤◌}
use Rattle.op_lookup.proofs.Index.{IndexTo}
use Rattle.op_lookup.proofs.numbers.number_index.Given as goal

abbrev pub invariant-loop-k : goal.invariant-loop-k
invariant-loop-k l = (l.k ≤ 106) × IndexTo l.k l.index
