-- `shape_values::pairs::unlike` meets its contract: each return rewrites with the tests that led there.
use Rattle.shape_core.proofs.Tests.{and_no, and_yes}
use Rattle.shape_values.proofs.Values.{unlike-start, unlike-next, unlike-done}
use Rattle.std.proofs.Common.{sym, ◌∙◌, arith}
use Rattle.shape_values.proofs.pairs.unlike.Goals as goal

pub loop-i-init : goal.loop-i-init
loop-i-init c = (omega arith, unlike-start _ _ _ _)

pub returns-then-not-differs : goal.returns-then-not-differs
returns-then-not-differs c = sym (c.loop-i.invariant.1 ∙ unlike-next c.args.table.now c.args.v c.args.p c.args.k c.loop-i.i c.loop-i-test.true ∙ and_no _ _ (sym c.differs.ensures ∙ c.if-not-differs.true))

pub loop-i-preserved : goal.loop-i-preserved
loop-i-preserved c = (omega arith, c.loop-i.invariant.1 ∙ unlike-next c.args.table.now c.args.v c.args.p c.args.k c.loop-i.i c.loop-i-test.true ∙ and_yes _ _ (sym c.differs.ensures ∙ c.if-not-differs.false))

pub returns : goal.returns
returns c = sym (c.loop-i.invariant.1 ∙ unlike-done c.args.table.now c.args.v c.args.p c.args.k c.loop-i.i (omega arith))
