-- `shape_values::marks::look` meets its contract: an unmarked remainder tells that no IFF has the value, a marked one asks them all.
use Rattle.std.proofs.Common.{◌≡◌, ℕ, ◌%◌, get_or, sym, ◌∙◌, subst}
use Rattle.shape_values.proofs.Values.{fresh-unknown, fresh-past, fresh-known}
use Rattle.shape_values.proofs.marks.look.Goals as goal

pub returns-then-word-ne-VALUE_KIND : goal.returns-then-word-ne-VALUE_KIND
returns-then-word-ne-VALUE_KIND c = sym (fresh-unknown c.args.table.now c.args.q c.word.ensures c.args.limit c.args.k c.if-word-ne-VALUE_KIND.true)

pub returns-then-limit-v : goal.returns-then-limit-v
returns-then-limit-v c = sym (fresh-past c.args.table.now c.args.q c.word.ensures c.word-v.ensures c.args.limit c.args.k c.if-word-ne-VALUE_KIND.false c.if-limit-v.true)

pub returns-then-marks-i-eq0 : goal.returns-then-marks-i-eq0
returns-then-marks-i-eq0 c =
    sym (fresh-known c.args.table.now c.args.q c.word.ensures c.word-v.ensures c.args.limit c.args.k c.if-word-ne-VALUE_KIND.false c.if-limit-v.false)
    ∙ c.requires.2.clear _ (subst (λ (x : ℕ). get_or c.args.marks.now (x % 1024) 0 ≡ 0) c.index-i.ensures c.if-marks-i-eq0.true)

pub returns : goal.returns
returns c = sym (fresh-known c.args.table.now c.args.q c.word.ensures c.word-v.ensures c.args.limit c.args.k c.if-word-ne-VALUE_KIND.false c.if-limit-v.false) ∙ sym c.unlike.ensures
