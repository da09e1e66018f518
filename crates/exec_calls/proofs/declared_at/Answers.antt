use mathlib.Core.Path.{sym}
use native.Mathlib.Omega.{arith}
use Rattle.exec_calls.proofs.Places.{header}
use Rattle.exec_calls.proofs.Called.{declared-external, declared-procedure, external-few, procedure-few}
use Rattle.exec_calls.proofs.declared_at.Goals as goal

pub overflow_mul-result : goal.overflow_mul-result
overflow_mul-result c = omega (arith, c.index.ensures, (header c.args.t.now c.requires.checked).few)

pub overflow_add-result : goal.overflow_add-result
overflow_add-result c = omega (arith, c.index.ensures, (header c.args.t.now c.requires.checked).few)

pub overflow_add-result-then-t-i-eq-EXTERNAL_KIND : goal.overflow_add-result-then-t-i-eq-EXTERNAL_KIND
overflow_add-result-then-t-i-eq-EXTERNAL_KIND c = omega (arith, c.index.ensures, c.index-then-t-i-eq-EXTERNAL_KIND.ensures, (header c.args.t.now c.requires.checked).few, (header c.args.t.now c.requires.checked).fresh)

pub overflow_add-result-then-t-i-eq-EXTERNAL_KIND-2 : goal.overflow_add-result-then-t-i-eq-EXTERNAL_KIND-2
overflow_add-result-then-t-i-eq-EXTERNAL_KIND-2 c = omega (arith, c.index-v.ensures, c.index.ensures, c.index-then-t-i-eq-EXTERNAL_KIND.ensures, (header c.args.t.now c.requires.checked).few, (header c.args.t.now c.requires.checked).fresh, (header c.args.t.now c.requires.checked).externals, external-few c.requires c.if-t-i-eq-EXTERNAL_KIND.true)

pub offset_bounds-t-index : goal.offset_bounds-t-index
offset_bounds-t-index c = omega (arith, c.index-v.ensures, c.index.ensures, c.index-then-t-i-eq-EXTERNAL_KIND.ensures, (header c.args.t.now c.requires.checked).few, (header c.args.t.now c.requires.checked).fresh, (header c.args.t.now c.requires.checked).externals, external-few c.requires c.if-t-i-eq-EXTERNAL_KIND.true)

pub bounds-t-index : goal.bounds-t-index
bounds-t-index c = omega (arith, c.index-v.ensures, c.index.ensures, c.index-then-t-i-eq-EXTERNAL_KIND.ensures, (header c.args.t.now c.requires.checked).long, external-few c.requires c.if-t-i-eq-EXTERNAL_KIND.true)

pub returns-then-t-i-eq-EXTERNAL_KIND : goal.returns-then-t-i-eq-EXTERNAL_KIND
returns-then-t-i-eq-EXTERNAL_KIND c = rw (c.index.ensures, c.index-then-t-i-eq-EXTERNAL_KIND.ensures, c.index-v.ensures) (sym (declared-external c.requires c.if-t-i-eq-EXTERNAL_KIND.true))

pub overflow_mul-result-2 : goal.overflow_mul-result-2
overflow_mul-result-2 c = omega (arith, c.index-v.ensures, (header c.args.t.now c.requires.checked).few, procedure-few c.requires c.if-t-i-eq-EXTERNAL_KIND.false)

pub overflow_add-result-2 : goal.overflow_add-result-2
overflow_add-result-2 c = omega (arith, c.index-v.ensures, (header c.args.t.now c.requires.checked).few, procedure-few c.requires c.if-t-i-eq-EXTERNAL_KIND.false)

pub overflow_add-result-3 : goal.overflow_add-result-3
overflow_add-result-3 c = omega (arith, c.index-v.ensures, (header c.args.t.now c.requires.checked).few, procedure-few c.requires c.if-t-i-eq-EXTERNAL_KIND.false)

pub offset_bounds-t-v : goal.offset_bounds-t-v
offset_bounds-t-v c = omega (arith, c.index-v.ensures, (header c.args.t.now c.requires.checked).few, procedure-few c.requires c.if-t-i-eq-EXTERNAL_KIND.false)

pub bounds-t-v : goal.bounds-t-v
bounds-t-v c = omega (arith, c.index-v.ensures, (header c.args.t.now c.requires.checked).long, procedure-few c.requires c.if-t-i-eq-EXTERNAL_KIND.false)

pub returns : goal.returns
returns c = rw c.index-v.ensures (sym (declared-procedure c.requires c.if-t-i-eq-EXTERNAL_KIND.false))
