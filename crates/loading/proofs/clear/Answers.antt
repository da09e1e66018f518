-- `loading::clear` meets its contract. The loop's invariant: the words from from to i are 0, and those in front are as they were.
use native.Mathlib.Omega.{arith}
use Rattle.loading.proofs.Loads.{clear-last, clear_next, clear_none}
use Rattle.loading.proofs.clear.Goals as goal

pub loop-i-init : goal.loop-i-init
loop-i-init c = (omega arith, omega arith, clear_none _ _ _ (omega arith))

pub offset_bounds-memory-i : goal.offset_bounds-memory-i
offset_bounds-memory-i c = omega (arith, c.loop-i.invariant.2.same_length)

pub bounds-memory-i : goal.bounds-memory-i
bounds-memory-i c = omega (arith, c.loop-i.invariant.2.same_length)

pub loop-i-preserved : goal.loop-i-preserved
loop-i-preserved c = let v = c.loop-i.invariant in (v.0, omega arith, clear_next _ _ _ _ v.1 (omega (arith, v.2.same_length)) v.2)

pub shape_of-memory : goal.shape_of-memory
shape_of-memory c = c.loop-i.invariant.2.same_length

pub returns : goal.returns
returns c = let v = c.loop-i.invariant in clear-last _ _ _ _ (omega arith) v.2
