-- `asm_shapes::faults::exi_fault` meets its contract: the number is judged before the body.
use Rattle.asm_shapes.proofs.ByClass.{exi-lawful, exi-left-out, exi-numbered, exi-outer, exi-zero}
use native.Mathlib.Omega.{arith}
use mathlib.Core.Path.{sym, ◌∙◌}
use Rattle.asm_shapes.proofs.faults.exi_fault.Goals as goal

pub returns-then-exi_ok : goal.returns-then-exi_ok
returns-then-exi_ok c = exi-lawful c.args.places.now.table.now c.args.p (sym c.exi_ok.ensures ∙ c.if-exi_ok.true)

pub returns-then-places-p-ne0 : goal.returns-then-places-p-ne0
returns-then-places-p-ne0 c = exi-numbered c.args.places.now.table.now c.args.p _ (c.args.places.now.known.bodies c.args.p (omega arith)) (sym c.exi_ok.ensures ∙ c.if-exi_ok.false) c.if-places-p-ne0.true

pub returns-then-places-p-eq-NO_KIND : goal.returns-then-places-p-eq-NO_KIND
returns-then-places-p-eq-NO_KIND c = exi-left-out c.args.places.now.table.now c.args.p _ (c.args.places.now.known.bodies c.args.p (omega arith)) c.if-places-p-ne0.false c.if-places-p-eq-NO_KIND.true

pub returns-then-places-p-gt0 : goal.returns-then-places-p-gt0
returns-then-places-p-gt0 c = exi-outer c.args.places.now.table.now c.args.p _ (c.args.places.now.known.bodies c.args.p (omega arith)) c.if-places-p-ne0.false c.if-places-p-eq-NO_KIND.false c.if-places-p-gt0.true

pub returns : goal.returns
returns c = exi-zero c.args.places.now.table.now c.args.p _ (c.args.places.now.known.bodies c.args.p (omega arith)) c.if-places-p-ne0.false c.if-places-p-eq-NO_KIND.false c.if-places-p-gt0.false
