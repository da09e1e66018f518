-- `shape_values::marks::mark` meets its contract: a value that is not known marks nothing, another its remainder.
use Rattle.std.proofs.Common.{ℕ, ◌%◌, ap, ◌∙◌, arith}
use Rattle.shape_values.proofs.Values.{mark-unknown, mark-known}
use Rattle.shape_values.proofs.marks.mark.Goals as goal

pub returns-then-word-ne-VALUE_KIND : goal.returns-then-word-ne-VALUE_KIND
returns-then-word-ne-VALUE_KIND c = mark-unknown c.args.table.now c.args.marks.now c.args.q c.args.k c.requires.2 c.word.ensures c.if-word-ne-VALUE_KIND.true

pub returns-then-was-eq0 : goal.returns-then-was-eq0
returns-then-was-eq0 c =
    mark-known c.args.table.now c.args.marks.now c.args.q c.args.k c.requires.2 c.word.ensures (c.index-i.result % 1024)
    (ap (λ (x : ℕ). x % 1024) (c.index-i.ensures ∙ c.word-2.ensures)) (omega arith) c.if-word-ne-VALUE_KIND.false

pub returns : goal.returns
returns c =
    mark-known c.args.table.now c.args.marks.now c.args.q c.args.k c.requires.2 c.word.ensures (c.index-i.result % 1024)
    (ap (λ (x : ℕ). x % 1024) (c.index-i.ensures ∙ c.word-2.ensures)) (omega arith) c.if-word-ne-VALUE_KIND.false
