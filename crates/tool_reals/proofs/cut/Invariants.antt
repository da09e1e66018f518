use Prim.Native.Nat.{◌<◌}
use Rattle.tool_reals.proofs.cut.Given as goal

abbrev pub invariant-loop-j : goal.invariant-loop-j
invariant-loop-j l = l.n < 1000000000000000
