use mathlib.Core.Path.{◌∙◌}
use native.Mathlib.Omega.{arith}
use Rattle.exec_calls.proofs.Called.{takes-past, takes-label, takes-impossible, takes-errors, exit-inside}
use Rattle.exec_calls.proofs.take_exit.Goals as goal

pub returns-then-k-eq0 : goal.returns-then-k-eq0
returns-then-k-eq0 c = takes-past c.requires.0 _ c.requires.1 _ c.if-k-eq0.true _ (c.index.ensures ∙ c.declared_at.ensures)

pub bounds-t-i : goal.bounds-t-i
bounds-t-i c = omega (arith, (exit-inside c.requires.0 _ c.requires.1 c.args.z.now _ c.index-2.ensures c.if-k-eq0.false).0)

pub bounds-t-i-then-t-i-eq-PPM : goal.bounds-t-i-then-t-i-eq-PPM
bounds-t-i-then-t-i-eq-PPM c = omega (arith, (exit-inside c.requires.0 _ c.requires.1 c.args.z.now _ c.index-2.ensures c.if-k-eq0.false).0)

pub bounds-t-i-then-t-i-eq-PLACE_KIND : goal.bounds-t-i-then-t-i-eq-PLACE_KIND
bounds-t-i-then-t-i-eq-PLACE_KIND c = omega (arith, (exit-inside c.requires.0 _ c.requires.1 c.args.z.now _ c.index-2.ensures c.if-k-eq0.false).0)

pub returns-then-t-i-eq-PLACE_KIND : goal.returns-then-t-i-eq-PLACE_KIND
returns-then-t-i-eq-PLACE_KIND c = takes-label c.requires.0 _ c.requires.1 _ _ c.index-2.ensures c.if-k-eq0.false c.if-t-i-eq-PPM.true c.if-t-i-eq-PLACE_KIND.true _ c.to_place.ensures

pub returns-then-t-i-eq-PPM : goal.returns-then-t-i-eq-PPM
returns-then-t-i-eq-PPM c = takes-impossible c.requires.0 _ c.requires.1 _ _ c.index-2.ensures c.if-k-eq0.false c.if-t-i-eq-PPM.true c.if-t-i-eq-PLACE_KIND.false

pub bounds-t-i-2 : goal.bounds-t-i-2
bounds-t-i-2 c = omega (arith, (exit-inside c.requires.0 _ c.requires.1 c.args.z.now _ c.index-2.ensures c.if-k-eq0.false).0)

pub returns : goal.returns
returns c = takes-errors c.requires.0 _ c.requires.1 _ _ c.index-2.ensures c.if-k-eq0.false c.if-t-i-eq-PPM.false _ c.to_errors.ensures
