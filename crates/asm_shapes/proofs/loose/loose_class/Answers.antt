-- `asm_shapes::loose::loose_class` meets its contract: each arm is the fault of its class.
use Rattle.asm_shapes.proofs.ByClass.{iff-lawful, iff-stray, loose-by, loose-class}
use Rattle.asm_types.specs.Views.{parsed_view}
use Rattle.ops.specs.Class.{executes, marks, none, BRN, IFF, JMG, JSR}
use native.Mathlib.Omega.{arith}
use mathlib.Core.Path.{sym, ◌∙◌}
use Rattle.asm_shapes.proofs.loose.loose_class.Goals as goal

pub returns-then-k-eq-JSR : goal.returns-then-k-eq-JSR
returns-then-k-eq-JSR c = c.counted_fault.ensures ∙ loose-by c.args.places.now.table.now c.args.p (parsed_view c.args.count) _ (c.args.places.now.known.classes c.args.p (omega arith)) (executes JSR) c.if-k-eq-JSR.true

pub returns-then-k-eq-BRN : goal.returns-then-k-eq-BRN
returns-then-k-eq-BRN c = loose-by c.args.places.now.table.now c.args.p (parsed_view c.args.count) _ (c.args.places.now.known.classes c.args.p (omega arith)) (executes BRN) c.if-k-eq-BRN.true

pub returns-then-k-eq-JMG : goal.returns-then-k-eq-JMG
returns-then-k-eq-JMG c = loose-by c.args.places.now.table.now c.args.p (parsed_view c.args.count) _ (c.args.places.now.known.classes c.args.p (omega arith)) (executes JMG) c.if-k-eq-JMG.true

pub returns-then-k-eq-NO_CLASS : goal.returns-then-k-eq-NO_CLASS
returns-then-k-eq-NO_CLASS c = loose-by c.args.places.now.table.now c.args.p (parsed_view c.args.count) _ (c.args.places.now.known.classes c.args.p (omega arith)) none c.if-k-eq-NO_CLASS.true

pub returns-then-k-ne-IFF : goal.returns-then-k-ne-IFF
returns-then-k-ne-IFF c = c.class_fault.ensures ∙ loose-class c.args.places.now.table.now c.args.p (parsed_view c.args.count) _ (c.args.places.now.known.classes c.args.p (omega arith)) c.if-k-eq-JSR.false c.if-k-eq-BRN.false c.if-k-eq-JMG.false c.if-k-eq-NO_CLASS.false c.if-k-ne-IFF.true

pub returns-then-below_iff : goal.returns-then-below_iff
returns-then-below_iff c = iff-lawful c.args.places.now.table.now c.args.p (parsed_view c.args.count) (sym c.below_iff.ensures ∙ c.if-below_iff.true) ∙ loose-by c.args.places.now.table.now c.args.p (parsed_view c.args.count) _ (c.args.places.now.known.classes c.args.p (omega arith)) (marks IFF) c.if-k-ne-IFF.false

pub returns : goal.returns
returns c = iff-stray c.args.places.now.table.now c.args.p (parsed_view c.args.count) (sym c.below_iff.ensures ∙ c.if-below_iff.false) ∙ loose-by c.args.places.now.table.now c.args.p (parsed_view c.args.count) _ (c.args.places.now.known.classes c.args.p (omega arith)) (marks IFF) c.if-k-ne-IFF.false
