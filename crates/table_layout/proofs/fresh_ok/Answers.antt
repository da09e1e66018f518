-- `table_layout::fresh_ok_lem` meets its contract: the rule on all addresses is the rule on those that are left, from the last one on.
use Rattle.table_layout.proofs.Sizes.{fresh-next, fresh-done}
use Rattle.base.specs.Test.{◌and◌}
use borrow.Author.Tests.{eq-eqb, ne_eqb, le-leb, lt-leb, lt-ltb, le-ltb}
use native.Mathlib.Omega.{arith}
use mathlib.Core.Path.{◌≡◌, refl, sym, ◌∙◌}
use Prim.Native.Nat.{◌-◌}
use Rattle.table_layout.proofs.fresh_ok.Goals as goal

pub loop-i-init : goal.loop-i-init
loop-i-init c = let z : c.index-f.result - 0 ≡ c.index-f.result = omega arith in (omega arith, rw z refl)

pub returns-then-a-low : goal.returns-then-a-low
unfolding ◌and◌
returns-then-a-low c = rw (← c.index-c.ensures, ← c.index-f.ensures) (sym (c.loop-i.invariant.1 ∙ fresh-next c.args.table.now c.loop-i.low c.loop-i.i c.index-f.result c.index-2.result c.index-3.result c.index-c.result c.index.result c.index-a.result c.loop-i-test.true c.index-f.ensures c.index-2.ensures c.index-3.ensures c.index-c.ensures c.index.ensures c.index-a.ensures ∙ rw (lt-leb _ _ c.if-a-low.true) refl))

pub returns-then-limit-a : goal.returns-then-limit-a
unfolding ◌and◌
returns-then-limit-a c = rw (← c.index-c.ensures, ← c.index-f.ensures) (sym (c.loop-i.invariant.1 ∙ fresh-next c.args.table.now c.loop-i.low c.loop-i.i c.index-f.result c.index-2.result c.index-3.result c.index-c.result c.index.result c.index-a.result c.loop-i-test.true c.index-f.ensures c.index-2.ensures c.index-3.ensures c.index-c.ensures c.index.ensures c.index-a.ensures ∙ rw (le-leb _ _ c.if-a-low.false, le-ltb _ _ c.if-limit-a.true) refl))

pub returns-then-a-ne0 : goal.returns-then-a-ne0
unfolding ◌and◌
returns-then-a-ne0 c = rw (← c.index-c.ensures, ← c.index-f.ensures) (sym (c.loop-i.invariant.1 ∙ fresh-next c.args.table.now c.loop-i.low c.loop-i.i c.index-f.result c.index-2.result c.index-3.result c.index-c.result c.index.result c.index-a.result c.loop-i-test.true c.index-f.ensures c.index-2.ensures c.index-3.ensures c.index-c.ensures c.index.ensures c.index-a.ensures ∙ rw (le-leb _ _ c.if-a-low.false, lt-ltb _ _ c.if-limit-a.false, ne_eqb _ _ c.if-a-ne0.true) refl))

pub returns-then-table-words-ne0 : goal.returns-then-table-words-ne0
unfolding ◌and◌
returns-then-table-words-ne0 c = rw (← c.index-c.ensures, ← c.index-f.ensures) (sym (c.loop-i.invariant.1 ∙ fresh-next c.args.table.now c.loop-i.low c.loop-i.i c.index-f.result c.index-2.result c.index-3.result c.index-c.result c.index.result c.index-a.result c.loop-i-test.true c.index-f.ensures c.index-2.ensures c.index-3.ensures c.index-c.ensures c.index.ensures c.index-a.ensures ∙ rw (le-leb _ _ c.if-a-low.false, lt-ltb _ _ c.if-limit-a.false, eq-eqb _ _ c.if-a-ne0.false, ne_eqb _ _ c.if-table-words-ne0.true) refl))

pub loop-i-preserved : goal.loop-i-preserved
unfolding ◌and◌
loop-i-preserved c = (omega arith, c.loop-i.invariant.1 ∙ fresh-next c.args.table.now c.loop-i.low c.loop-i.i c.index-f.result c.index-2.result c.index-3.result c.index-c.result c.index.result c.index-a.result c.loop-i-test.true c.index-f.ensures c.index-2.ensures c.index-3.ensures c.index-c.ensures c.index.ensures c.index-a.ensures ∙ rw (le-leb _ _ c.if-a-low.false, lt-ltb _ _ c.if-limit-a.false, eq-eqb _ _ c.if-a-ne0.false, eq-eqb _ _ c.if-table-words-ne0.false) refl)

pub returns : goal.returns
returns c = rw (← c.index-c.ensures, ← c.index-f.ensures) (sym (c.loop-i.invariant.1 ∙ sym (fresh-done c.args.table.now c.loop-i.low c.loop-i.i c.index-f.result (omega arith))))
