-- `loading::fill` meets its contract. The loop's invariant: the first i words are the table's.
use Prim.Native.Nat.{◌+◌}
use mathlib.Core.Path.{◌≡◌, refl, ◌∙◌}
use native.Mathlib.Omega.{arith}
use lib.ListN.{length-set}
use Rattle.rules.specs.Start.{filled}
use Rattle.rules.specs.Table.{constants, externals, fresh_count, size, workings}
use Rattle.loading.proofs.Sizes.{sizes}
use Rattle.loading.proofs.Loads.{fill-next}
use Rattle.loading.proofs.fill.Goals as goal

pub start_base-from-requires : goal.start_base-from-requires
start_base-from-requires c = c.requires.0

pub own_count-n-requires : goal.own_count-n-requires
own_count-n-requires c = c.requires.0

pub loop-i-init : goal.loop-i-init
unfolding filled
loop-i-init c = (c.own_count-n.ensures, c.start_base-from.ensures, refl, omega arith, refl)

pub overflow_add-memory : goal.overflow_add-memory
unfolding constants workings size fresh_count externals
overflow_add-memory c = omega (arith, c.loop-i.invariant, sizes _ c.requires.0)

pub offset_bounds-table-from : goal.offset_bounds-table-from
unfolding constants workings size fresh_count externals
offset_bounds-table-from c = omega (arith, c.loop-i.invariant, sizes _ c.requires.0)

pub bounds-table-from : goal.bounds-table-from
unfolding constants workings size fresh_count externals
bounds-table-from c = omega (arith, c.loop-i.invariant, sizes _ c.requires.0)

pub offset_bounds-memory-i : goal.offset_bounds-memory-i
offset_bounds-memory-i c = omega (arith, c.loop-i.invariant, c.requires.1)

pub bounds-memory-i : goal.bounds-memory-i
bounds-memory-i c = omega (arith, c.loop-i.invariant, c.requires.1)

pub loop-i-preserved : goal.loop-i-preserved
loop-i-preserved c = let v = c.loop-i.invariant in (v.0, v.1, simp length-set v.2, omega arith, fill-next _ _ _ _ _ v.1 v.4)

pub shape_of-memory : goal.shape_of-memory
shape_of-memory c = c.loop-i.invariant.2

pub returns : goal.returns
returns c = let v = c.loop-i.invariant in let e : c.loop-i.i ≡ constants c.args.table.now + workings c.args.table.now = omega arith in v.4 ∙ rw e
