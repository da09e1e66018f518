-- `shape_values::marks::by_marks` meets its contract: the last `left` of the IFFs are passed, and their remainders are marked.
use Rattle.std.proofs.Common.{sym, refl, ◌∙◌, arith}
use Rattle.shape_values.proofs.Values.{marked_start, marked-at, marked-back, distinct-start, distinct-front, distinct-back, distinct-end}
use Rattle.shape_values.proofs.marks.by_marks.Goals as goal

pub overflow_mul-spare : goal.overflow_mul-spare
overflow_mul-spare c = omega arith

pub overflow_add-spare : goal.overflow_add-spare
overflow_add-spare c = omega arith

pub loop-left-init : goal.loop-left-init
loop-left-init c = (omega arith, refl, distinct-start _ _ _ _ 0, marked_start _ _ _ (omega arith))

pub look-requires : goal.look-requires
look-requires c = (omega arith, omega arith, marked-at c.args.table.now c.args.limit c.args.p c.args.k c.loop-left.left c.loop-left.marks c.loop-left-test.true c.loop-left.invariant.3)

pub returns-then-not-branch : goal.returns-then-not-branch
returns-then-not-branch c = sym (distinct-front c.args.table.now c.args.limit c.args.p c.args.k c.loop-left.left c.loop-left-test.true (c.in_ok-look.ensures ∙ c.if-not-branch.true))

pub mark-spent-requires : goal.mark-spent-requires
mark-spent-requires c = (omega arith, omega arith, marked-at c.args.table.now c.args.limit c.args.p c.args.k c.loop-left.left c.loop-left.marks c.loop-left-test.true c.loop-left.invariant.3)

pub loop-left-preserved : goal.loop-left-preserved
loop-left-preserved c = (
  omega arith,
  c.mark-spent.auto.marks ∙ c.loop-left.invariant.1,
  distinct-back c.args.table.now c.args.limit c.args.p c.args.k c.loop-left.left c.loop-left-test.true (c.in_ok-look.ensures ∙ c.if-not-branch.false) c.loop-left.invariant.2,
  marked-back c.args.table.now c.args.limit c.args.p c.args.k c.loop-left.left c.mark-spent.new.marks c.loop-left-test.true c.mark-spent.ensures,
)

pub returns : goal.returns
returns c = sym (distinct-end c.args.table.now c.args.limit c.args.p c.args.k c.loop-left.left (omega arith) c.loop-left.invariant.0 c.loop-left.invariant.2)
