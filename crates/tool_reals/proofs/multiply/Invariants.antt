use Prim.Native.Nat.{◌<◌}
use Rattle.tool_reals.proofs.multiply.Given as goal

abbrev pub invariant-loop-digit : goal.invariant-loop-digit
invariant-loop-digit l = l.carry < 1000
