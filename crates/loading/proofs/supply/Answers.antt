-- `loading::supply` meets its contract. The loop's invariant: the first i fresh words are supplied.
use mathlib.Core.Path.{◌≡◌, refl, ◌∙◌}
use native.Mathlib.Omega.{arith}
use Rattle.rules.proofs.Memory.{fresh_index-inside}
use Rattle.rules.specs.Start.{refreshed, supplied}
use Rattle.rules.specs.Table.{fresh_count}
use lib.ListN.{length-set}
use Rattle.loading.proofs.Loads.{supply-next}
use Rattle.loading.proofs.supply.Goals as goal

pub loop-i-init : goal.loop-i-init
unfolding supplied
loop-i-init c = (refl, refl)

pub fresh_index-at-requires : goal.fresh_index-at-requires
fresh_index-at-requires c = (c.requires.0, omega arith)

pub offset_bounds-fresh-i : goal.offset_bounds-fresh-i
offset_bounds-fresh-i c = omega arith

pub bounds-fresh-i : goal.bounds-fresh-i
bounds-fresh-i c = omega arith

pub offset_bounds-memory-at : goal.offset_bounds-memory-at
offset_bounds-memory-at c = omega (arith, c.requires.1, c.fresh_index-at.ensures, fresh_index-inside _ c.requires.0 c.loop-i.i (omega arith))

pub bounds-memory-at : goal.bounds-memory-at
bounds-memory-at c = omega (arith, c.requires.1, c.fresh_index-at.ensures, fresh_index-inside _ c.requires.0 c.loop-i.i (omega arith))

pub loop-i-preserved : goal.loop-i-preserved
loop-i-preserved c = let v = c.loop-i.invariant in (simp length-set v.0, supply-next _ _ _ _ _ _ c.fresh_index-at.ensures v.1)

pub shape_of-memory : goal.shape_of-memory
shape_of-memory c = omega arith

pub returns : goal.returns
unfolding refreshed
returns c = let v = c.loop-i.invariant in let e : c.loop-i.i ≡ fresh_count c.args.table.now = omega arith in v.1 ∙ rw e
