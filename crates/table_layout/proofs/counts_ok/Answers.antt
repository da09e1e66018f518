-- `table_layout::counts_ok` meets its contract: the counts before i are within their limit.
use Rattle.table_layout.proofs.Sizes.{count_ok, counts-below, count-is}
use Rattle.table_layout.proofs.Belows.{below-zero, below_more, below_fails}
use borrow.Author.Tests.{le-leb, lt-leb}
use native.Mathlib.Omega.{arith}
use mathlib.Core.Path.{◌≡◌, sym, ◌∙◌}
use Rattle.table_layout.proofs.counts_ok.Goals as goal

pub loop-i-init : goal.loop-i-init
loop-i-init c = below-zero _

pub returns-then-table-at-gt-CFP_M : goal.returns-then-table-at-gt-CFP_M
returns-then-table-at-gt-CFP_M c = rw (← c.index-e.ensures, counts-below) (sym (below_fails (count_ok c.args.table.now) c.index-e.result c.loop-i.i c.loop-i-test.true (count-is c.args.table.now c.loop-i.i c.index.result c.index-2.result c.index.ensures c.index-2.ensures ∙ lt-leb _ _ c.if-table-at-gt-CFP_M.true)))

pub loop-i-preserved : goal.loop-i-preserved
loop-i-preserved c = below_more _ c.loop-i.i c.loop-i.invariant (count-is c.args.table.now c.loop-i.i c.index.result c.index-2.result c.index.ensures c.index-2.ensures ∙ le-leb _ _ c.if-table-at-gt-CFP_M.false)

pub returns : goal.returns
returns c = let z : c.loop-i.i ≡ c.index-e.result = omega arith in rw (← c.index-e.ensures, counts-below, ← z) (sym c.loop-i.invariant)
