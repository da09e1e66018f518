-- `shape_distinct::rise::doubled` meets its contract: two IFFs with one known value are not distinct, whatever the limit.
use mathlib.Core.Path.{sym, ◌∙◌}
use Rattle.shape_distinct.proofs.Rising.{not-distinct}
use Rattle.shape_distinct.proofs.rise.doubled.Goals as goal

pub returns : goal.returns
returns c = λ limit. not-distinct c.args.table.now limit c.args.p c.args.k c.args.i c.args.j c.if-k-i.false c.requires.2 c.if-i-j.false (sym c.word.ensures ∙ c.if-word-ne-VALUE_KIND.false) c.requires.3.kind (sym c.word-2.ensures ∙ c.if-word-v.false ∙ c.requires.3.same)
