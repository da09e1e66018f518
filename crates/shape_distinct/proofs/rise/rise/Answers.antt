-- `shape_distinct::rise::rise` meets its contract: what is marked as seen has distinct values below `low`, and at the end all are marked.
use mathlib.Core.Path.{refl, sym, ◌∙◌}
use native.Mathlib.Omega.{arith}
use Rattle.shape_distinct.proofs.Rising.{apart-start, apart_more, all_apart, all_set, past}
use Rattle.shape_distinct.proofs.rise.rise.Goals as goal

pub loop-j-init : goal.loop-j-init
loop-j-init c = apart-start _ _ _ _ _ refl

pub returns-then-limit-v : goal.returns-then-limit-v
returns-then-limit-v c = past c.args.table.now c.args.limit c.args.p c.args.k c.from-q.result c.if-k-q.false (sym c.word.ensures ∙ c.if-word-ne-VALUE_KIND.false) c.word-v.ensures c.if-limit-v.true

pub doubled-requires : goal.doubled-requires
doubled-requires c = (c.requires.1, c.requires.2, c.if-k-q.false, record { kind = sym c.word.ensures ∙ c.if-word-ne-VALUE_KIND.false; same = c.word-v.ensures })

pub returns-then-v-low : goal.returns-then-v-low
returns-then-v-low c = c.doubled.ensures c.args.limit

pub loop-j-preserved : goal.loop-j-preserved
loop-j-preserved c = apart_more c.args.table.now c.loop-j.seen c.args.limit c.args.p c.loop-j.low c.from-q.result c.loop-j.invariant (omega (arith, c.if-k-q.false, c.requires.0)) (sym c.word.ensures ∙ c.if-word-ne-VALUE_KIND.false) c.word-v.ensures c.if-v-low.false c.if-limit-v.false

pub returns-then-all_seen : goal.returns-then-all_seen
returns-then-all_seen c = all_apart c.args.table.now c.loop-j.seen c.args.limit c.args.p c.loop-j.low c.args.k c.loop-j.invariant c.requires.0 (all_set c.all_seen.result c.loop-j.seen c.args.k c.if-all_seen.true c.all_seen.ensures)
