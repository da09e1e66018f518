-- `shapes::cards::below_iff` meets its contract: each return rewrites with the tests that led there.
use Rattle.shape_core.proofs.Tests.{or_no, or_yes}
use Rattle.shapes.proofs.Rules.{iff-top, iff-under}
use borrow.Author.Tests.{eq-eqb, ne_eqb}
use mathlib.Core.Path.{sym, ◌∙◌}
use Rattle.shapes.proofs.cards.below_iff.Goals as goal

pub returns-then-p-eq0 : goal.returns-then-p-eq0
returns-then-p-eq0 c = iff-top c.args.places.now.table.now c.args.p c.if-p-eq0.true

pub returns-then-k-eq-BSW : goal.returns-then-k-eq-BSW
returns-then-k-eq-BSW c = sym (or_yes _ _ (eq-eqb _ _ c.if-k-eq-BSW.true)) ∙ iff-under c.args.places.now.table.now c.args.p c.class_at-k.result c.if-p-eq0.false c.class_at-k.ensures

pub returns : goal.returns
returns c = sym (or_no _ _ (ne_eqb _ _ c.if-k-eq-BSW.false)) ∙ iff-under c.args.places.now.table.now c.args.p c.class_at-k.result c.if-p-eq0.false c.class_at-k.ensures
