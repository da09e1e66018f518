use Rattle.shape_distinct.proofs.Rising.{Apart}
use Rattle.shape_distinct.proofs.rise.rise.Given as goal

abbrev pub invariant-loop-j : goal.invariant-loop-j
invariant-loop-j l = Apart l.table l.seen l.limit l.p l.low
