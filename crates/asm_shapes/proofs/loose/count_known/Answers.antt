-- `asm_shapes::loose::count_known` meets its contract: each return rewrites with the tests that led there.
use Rattle.asm_shapes.proofs.ByClass.{known-kind, known-other, known-procedure, known-unnamed}
use Rattle.shape_core.proofs.Lists.{prc-inside}
use native.Mathlib.Omega.{arith}
use mathlib.Core.Path.{refl}
use Rattle.asm_shapes.proofs.loose.count_known.Goals as goal

pub returns-then-places-p-ne-JSR : goal.returns-then-places-p-ne-JSR
returns-then-places-p-ne-JSR c = known-other c.args.places.now.table.now c.args.p _ (c.args.places.now.known.classes c.args.p (omega arith)) c.if-places-p-ne-JSR.true

pub returns-then-places-p-ne-PLACE_KIND : goal.returns-then-places-p-ne-PLACE_KIND
returns-then-places-p-ne-PLACE_KIND c = known-kind c.args.places.now.table.now c.args.p _ (c.args.places.now.known.classes c.args.p (omega arith)) _ refl c.if-places-p-ne-PLACE_KIND.true

pub returns-then-class_at-ne-PRC : goal.returns-then-class_at-ne-PRC
returns-then-class_at-ne-PRC c = known-unnamed c.args.places.now.table.now c.args.p _ (c.args.places.now.known.classes c.args.p (omega arith)) c.index-v.result c.index-v.ensures c.class_at.result c.class_at.ensures c.if-places-p-ne-PLACE_KIND.false c.if-class_at-ne-PRC.true

pub overflow_mul-result : goal.overflow_mul-result
overflow_mul-result c = omega (arith, prc-inside c.args.places.now.table.now c.index-v.result c.class_at.result c.class_at.ensures c.if-class_at-ne-PRC.false)

pub overflow_add-result : goal.overflow_add-result
overflow_add-result c = omega (arith, prc-inside c.args.places.now.table.now c.index-v.result c.class_at.result c.class_at.ensures c.if-class_at-ne-PRC.false)

pub overflow_add-result-2 : goal.overflow_add-result-2
overflow_add-result-2 c = omega (arith, prc-inside c.args.places.now.table.now c.index-v.result c.class_at.result c.class_at.ensures c.if-class_at-ne-PRC.false)

pub offset_bounds-places-v : goal.offset_bounds-places-v
offset_bounds-places-v c = omega (arith, prc-inside c.args.places.now.table.now c.index-v.result c.class_at.result c.class_at.ensures c.if-class_at-ne-PRC.false)

pub bounds-places-v : goal.bounds-places-v
bounds-places-v c = omega (arith, prc-inside c.args.places.now.table.now c.index-v.result c.class_at.result c.class_at.ensures c.if-class_at-ne-PRC.false)

pub returns : goal.returns
returns c = known-procedure c.args.places.now.table.now c.args.p _ (c.args.places.now.known.classes c.args.p (omega arith)) c.index-v.result c.index-v.ensures c.class_at.result c.class_at.ensures c.if-places-p-ne-PLACE_KIND.false c.if-places-p-ne-JSR.false c.if-class_at-ne-PRC.false
