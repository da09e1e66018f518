-- `shape_values::pairs::differs` meets its contract: each return rewrites with the tests that led there.
use Rattle.shape_values.proofs.Values.{differs-unknown, differs-known}
use Rattle.shape_values.proofs.pairs.differs.Goals as goal

pub returns-then-word-ne-VALUE_KIND : goal.returns-then-word-ne-VALUE_KIND
returns-then-word-ne-VALUE_KIND c = differs-unknown c.args.table.now c.args.q c.word.ensures c.args.v c.if-word-ne-VALUE_KIND.true

pub returns : goal.returns
returns c = differs-known c.args.table.now c.args.q c.word.ensures c.word-2.ensures c.args.v c.if-word-ne-VALUE_KIND.false
