-- `shape_core::exits::is_exit` meets its contract: each return rewrites with the tests that led there.
use Rattle.shape_core.proofs.Tests.{or_no, or_yes}
use Rattle.shape_core.proofs.Lists.{exit-code}
use borrow.Author.Tests.{eq-eqb, ne_eqb}
use mathlib.Core.Path.{sym, ◌∙◌}
use Rattle.shape_core.proofs.reach.Places.is_exit.Goals as goal

pub returns-then-k-eq-PPM : goal.returns-then-k-eq-PPM
returns-then-k-eq-PPM c = sym (exit-code c.args.self.now.table.now c.args.q c.class_at-k.result c.class_at-k.ensures ∙ or_yes _ _ (eq-eqb _ _ c.if-k-eq-PPM.true))

pub returns : goal.returns
returns c = sym (exit-code c.args.self.now.table.now c.args.q c.class_at-k.result c.class_at-k.ensures ∙ or_no _ _ (ne_eqb _ _ c.if-k-eq-PPM.false))
