-- `asm_shapes::faults::shared_fault` meets its contract: a fault by the class is never above 7.
use Rattle.asm_shapes.proofs.Smallest.{shared-given, shared-near, shared-none, shared_start}
use mathlib.Core.Path.{sym, ◌∙◌}
use Rattle.asm_shapes.proofs.faults.shared_fault.Goals as goal

pub returns-then-fault-ne0 : goal.returns-then-fault-ne0
returns-then-fault-ne0 c = shared-given c.args.places.now.table.now c.args.p c.args.fault c.requires.1 c.if-fault-ne0.true

pub returns-then-not-apart_at : goal.returns-then-not-apart_at
returns-then-not-apart_at c = shared-near c.args.places.now.table.now c.args.p c.args.fault c.if-fault-ne0.false (sym c.apart_at.ensures ∙ c.if-not-apart_at.true)

pub returns-then-not-start_ok : goal.returns-then-not-start_ok
returns-then-not-start_ok c = shared_start c.args.places.now.table.now c.args.p c.args.fault c.if-fault-ne0.false (sym c.apart_at.ensures ∙ c.if-not-apart_at.false) (sym c.start_ok.ensures ∙ c.if-not-start_ok.true)

pub returns : goal.returns
returns c = shared-none c.args.places.now.table.now c.args.p c.args.fault c.if-fault-ne0.false (sym c.apart_at.ensures ∙ c.if-not-apart_at.false) (sym c.start_ok.ensures ∙ c.if-not-start_ok.false)
