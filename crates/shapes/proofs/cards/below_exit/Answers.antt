-- `shapes::cards::below_exit` meets its contract: each return rewrites with the tests that led there.
use Prim.Native.Nat.{◌-◌}
use Rattle.shape_core.proofs.Tests.{or_no, or_yes}
use Rattle.shapes.proofs.Rules.{exit-top, exit-under}
use Rattle.shape_core.proofs.Codes.{is_code}
use Rattle.rules.specs.Table.{class_at}
use Rattle.ops.specs.Class.{executes, JSR}
use borrow.Author.Tests.{eq-eqb, ne_eqb}
use mathlib.Core.Path.{sym, ◌∙◌}
use Rattle.shapes.proofs.cards.below_exit.Goals as goal

pub returns-then-p-eq0 : goal.returns-then-p-eq0
returns-then-p-eq0 c = exit-top c.args.places.now.table.now c.args.p c.if-p-eq0.true

pub returns-then-class_at-eq-JSR : goal.returns-then-class_at-eq-JSR
returns-then-class_at-eq-JSR c = sym (or_yes _ _ (is_code (class_at c.args.places.now.table.now (c.args.p - 1)) (executes JSR) c.class_at.result c.class_at.ensures ∙ eq-eqb _ _ c.if-class_at-eq-JSR.true)) ∙ exit-under c.args.places.now.table.now c.args.p c.if-p-eq0.false

pub returns : goal.returns
returns c = c.is_exit.ensures ∙ sym (or_no _ _ (is_code (class_at c.args.places.now.table.now (c.args.p - 1)) (executes JSR) c.class_at.result c.class_at.ensures ∙ ne_eqb _ _ c.if-class_at-eq-JSR.false)) ∙ exit-under c.args.places.now.table.now c.args.p c.if-p-eq0.false
