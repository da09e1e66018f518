-- `snap_core::fresh::fresh_hidden` meets its contract. The loop's invariant: the first i fresh words are 0.
use mathlib.Core.Path.{◌≡◌, sym}
use native.Mathlib.Omega.{arith}
use Rattle.rules.proofs.Memory.{fresh_index-inside}
use Rattle.rules.specs.Table.{fresh_count}
use Rattle.rules.specs.Snapshot.{fresh_hidden}
use Rattle.base.proofs.Bool.{passed, test-true}
use Rattle.snap_core.proofs.Freshening.{hidden-next, hidden-not}
use Rattle.snap_core.proofs.fresh.fresh_hidden.Goals as goal

pub fresh_count-i-end-requires : goal.fresh_count-i-end-requires
fresh_count-i-end-requires c = c.requires.0

pub loop-i-init : goal.loop-i-init
unfolding fresh_hidden
loop-i-init c = (c.fresh_count-i-end.ensures, passed)

pub fresh_index-requires : goal.fresh_index-requires
fresh_index-requires c = (c.requires.0, omega arith)

pub overflow_mul-fresh_index : goal.overflow_mul-fresh_index
overflow_mul-fresh_index c = omega (arith, c.requires.1, c.fresh_index.ensures, fresh_index-inside _ c.requires.0 c.loop-i.i (omega arith))

pub overflow_add-at : goal.overflow_add-at
overflow_add-at c = omega (arith, c.requires.1, c.fresh_index.ensures, fresh_index-inside _ c.requires.0 c.loop-i.i (omega arith))

pub read_word-requires : goal.read_word-requires
read_word-requires c = omega (arith, c.requires.1, c.fresh_index.ensures, fresh_index-inside _ c.requires.0 c.loop-i.i (omega arith))

pub returns-then-read_word-ne0 : goal.returns-then-read_word-ne0
returns-then-read_word-ne0 c = sym (hidden-not _ _ _ _ c.loop-i.i _ c.fresh_index.ensures (omega (arith, c.requires.1, c.fresh_index.ensures, fresh_index-inside _ c.requires.0 c.loop-i.i (omega arith))) (omega arith) (rw c.read_word.ensures at c.if-read_word-ne0.true))

pub loop-i-preserved : goal.loop-i-preserved
loop-i-preserved c = let v = c.loop-i.invariant in (v.0, hidden-next _ _ _ _ c.loop-i.i _ c.fresh_index.ensures (omega (arith, c.requires.1, c.fresh_index.ensures, fresh_index-inside _ c.requires.0 c.loop-i.i (omega arith))) (rw c.read_word.ensures at c.if-read_word-ne0.false) v.1)

pub returns : goal.returns
returns c = let v = c.loop-i.invariant in let e : c.loop-i.i ≡ fresh_count c.args.table.now = omega arith in sym (test-true _ (rw e at v.1))
