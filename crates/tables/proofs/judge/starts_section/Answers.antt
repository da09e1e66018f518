-- `tables::judge::starts_section` meets its contract: each return rewrites with the tests that led there.
use Rattle.rules.specs.Table.{section4, section5, section6}
use Rattle.rules.specs.Check.{starts_section}
use lib.Dec.{eqb}
use Rattle.shape_core.proofs.Tests.{or_no, or_yes}
use borrow.Author.Tests.{eq-eqb, ne_eqb}
use mathlib.Core.Path.{sym, ap, ◌∙◌}
use Rattle.tables.proofs.judge.starts_section.Goals as goal

pub returns-then-p-index : goal.returns-then-p-index
unfolding starts_section section4
returns-then-p-index c = sym (or_yes _ _ (eq-eqb _ _ (c.if-p-index.true ∙ c.index.ensures)))

pub returns-then-p-index-2 : goal.returns-then-p-index-2
unfolding starts_section section4 section5
returns-then-p-index-2 c = sym (or_no _ _ (ne_eqb _ _ (λ e. c.if-p-index.false (e ∙ sym c.index.ensures))) ∙ or_yes _ _ (eq-eqb _ _ (c.if-p-index-2.true ∙ c.index-2.ensures)))

pub returns : goal.returns
unfolding starts_section section4 section5 section6
returns c = ap (eqb c.args.p) c.index-3.ensures ∙ sym (or_no _ _ (ne_eqb _ _ (λ e. c.if-p-index.false (e ∙ sym c.index.ensures))) ∙ or_no _ _ (ne_eqb _ _ (λ e. c.if-p-index-2.false (e ∙ sym c.index-2.ensures))))
