-- `shape_values::pairs::by_pairs` meets its contract: the last `left` of the IFFs are passed.
use Rattle.std.proofs.Common.{sym, ◌∙◌, arith}
use Rattle.shape_values.proofs.Values.{distinct-start, distinct-front, distinct-back, distinct-end}
use Rattle.shape_values.proofs.pairs.by_pairs.Goals as goal

pub loop-left-init : goal.loop-left-init
loop-left-init c = (omega arith, distinct-start _ _ _ _ 0)

pub returns-then-not-is_fresh : goal.returns-then-not-is_fresh
returns-then-not-is_fresh c = distinct-front c.args.table.now c.args.limit c.args.p c.args.k c.loop-left.left c.loop-left-test.true (sym c.is_fresh.ensures ∙ c.if-not-is_fresh.true)

pub loop-left-preserved : goal.loop-left-preserved
loop-left-preserved c = (omega arith, distinct-back c.args.table.now c.args.limit c.args.p c.args.k c.loop-left.left c.loop-left-test.true (sym c.is_fresh.ensures ∙ c.if-not-is_fresh.false) c.loop-left.invariant.1)

pub returns : goal.returns
returns c = distinct-end c.args.table.now c.args.limit c.args.p c.args.k c.loop-left.left (omega arith) c.loop-left.invariant.0 c.loop-left.invariant.1
