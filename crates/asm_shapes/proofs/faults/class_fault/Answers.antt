-- `asm_shapes::faults::class_fault` meets its contract: each arm is the fault of its class.
use Rattle.asm_shapes.proofs.ByClass.{alone-broken, alone-lawful, faults-by}
use Rattle.ops.specs.Class.{executes, none, BSW, EXI, JSR}
use Rattle.rules.specs.Check.{smaller}
use Rattle.base.specs.Test.{if}
use native.Mathlib.Omega.{arith}
use mathlib.Core.Path.{sym, ◌∙◌}
use Rattle.asm_shapes.proofs.faults.class_fault.Goals as goal

pub returns-then-k-eq-JSR : goal.returns-then-k-eq-JSR
returns-then-k-eq-JSR c = c.jsr_fault.ensures ∙ faults-by c.args.places.now.table.now c.args.p _ (c.args.places.now.known.classes c.args.p (omega arith)) (executes JSR) c.if-k-eq-JSR.true

pub returns-then-k-eq-BSW : goal.returns-then-k-eq-BSW
returns-then-k-eq-BSW c = c.bsw_fault.ensures ∙ faults-by c.args.places.now.table.now c.args.p _ (c.args.places.now.known.classes c.args.p (omega arith)) (executes BSW) c.if-k-eq-BSW.true

pub returns-then-k-eq-EXI : goal.returns-then-k-eq-EXI
returns-then-k-eq-EXI c = c.exi_fault.ensures ∙ faults-by c.args.places.now.table.now c.args.p _ (c.args.places.now.known.classes c.args.p (omega arith)) (executes EXI) c.if-k-eq-EXI.true

pub returns-then-k-eq-NO_CLASS : goal.returns-then-k-eq-NO_CLASS
unfolding smaller if
returns-then-k-eq-NO_CLASS c = faults-by c.args.places.now.table.now c.args.p _ (c.args.places.now.known.classes c.args.p (omega arith)) none c.if-k-eq-NO_CLASS.true

pub returns-then-class_ok : goal.returns-then-class_ok
returns-then-class_ok c = alone-lawful c.args.places.now.table.now c.args.p _ (c.args.places.now.known.classes c.args.p (omega arith)) c.if-k-eq-JSR.false c.if-k-eq-BSW.false c.if-k-eq-EXI.false c.if-k-eq-NO_CLASS.false (sym c.class_ok.ensures ∙ c.if-class_ok.true)

pub returns : goal.returns
returns c = alone-broken c.args.places.now.table.now c.args.p _ (c.args.places.now.known.classes c.args.p (omega arith)) c.if-k-eq-JSR.false c.if-k-eq-BSW.false c.if-k-eq-EXI.false c.if-k-eq-NO_CLASS.false (sym c.class_ok.ensures ∙ c.if-class_ok.false)
