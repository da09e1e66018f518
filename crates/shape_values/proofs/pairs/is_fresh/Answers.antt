-- `shape_values::pairs::is_fresh` meets its contract: each return cites the law of its case.
use Rattle.std.proofs.Common.{◌∙◌}
use Rattle.shape_values.proofs.Values.{fresh-unknown, fresh-past, fresh-known}
use Rattle.shape_values.proofs.pairs.is_fresh.Goals as goal

pub returns-then-word-ne-VALUE_KIND : goal.returns-then-word-ne-VALUE_KIND
returns-then-word-ne-VALUE_KIND c = fresh-unknown c.args.table.now c.args.q c.word.ensures c.args.limit c.args.k c.if-word-ne-VALUE_KIND.true

pub returns-then-limit-v : goal.returns-then-limit-v
returns-then-limit-v c = fresh-past c.args.table.now c.args.q c.word.ensures c.word-v.ensures c.args.limit c.args.k c.if-word-ne-VALUE_KIND.false c.if-limit-v.true

pub returns : goal.returns
returns c = c.unlike.ensures ∙ fresh-known c.args.table.now c.args.q c.word.ensures c.word-v.ensures c.args.limit c.args.k c.if-word-ne-VALUE_KIND.false c.if-limit-v.false
