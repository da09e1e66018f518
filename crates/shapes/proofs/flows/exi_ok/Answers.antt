-- `shapes::flows::exi_ok` meets its contract: each return rewrites with the tests that led there.
use Rattle.shape_core.proofs.Tests.{and_no, and_yes, or_no, or_yes}
use Rattle.shapes.proofs.Rules.{body_below, exi-outside, exi-inside}
use borrow.Author.Tests.{eq-eqb, ne_eqb, le-leb, lt-leb}
use native.Mathlib.Omega.{arith}
use mathlib.Core.Path.{refl, sym, ◌∙◌}
use Rattle.shapes.proofs.flows.exi_ok.Goals as goal

pub returns-then-b-eq0 : goal.returns-then-b-eq0
returns-then-b-eq0 c = exi-outside c.args.places.now.table.now c.args.p c.index-b.result (c.index-b.ensures ∙ c.args.places.now.known.bodies c.args.p (omega arith)) c.if-b-eq0.true

pub word-requires : goal.word-requires
word-requires c = omega (arith, c.index-b.ensures, c.args.places.now.known.bodies c.args.p (omega arith), body_below c.args.places.now.table.now c.args.p)

pub returns-then-word-v : goal.returns-then-word-v
returns-then-word-v c = sym (and_no _ _ (lt-leb _ _ c.if-word-v.true)) ∙ exi-inside c.args.places.now.table.now c.args.p c.index-b.result (c.index-b.ensures ∙ c.args.places.now.known.bodies c.args.p (omega arith)) c.if-b-eq0.false c.word-v.ensures c.word.ensures refl

pub returns-then-word-eq-NO_KIND : goal.returns-then-word-eq-NO_KIND
returns-then-word-eq-NO_KIND c = sym (and_yes _ _ (le-leb _ _ c.if-word-v.false) ∙ or_yes _ _ (eq-eqb _ _ c.if-word-eq-NO_KIND.true)) ∙ exi-inside c.args.places.now.table.now c.args.p c.index-b.result (c.index-b.ensures ∙ c.args.places.now.known.bodies c.args.p (omega arith)) c.if-b-eq0.false c.word-v.ensures c.word.ensures c.word-2.ensures

pub returns : goal.returns
returns c = sym (and_yes _ _ (le-leb _ _ c.if-word-v.false) ∙ or_no _ _ (ne_eqb _ _ c.if-word-eq-NO_KIND.false)) ∙ exi-inside c.args.places.now.table.now c.args.p c.index-b.result (c.index-b.ensures ∙ c.args.places.now.known.bodies c.args.p (omega arith)) c.if-b-eq0.false c.word-v.ensures c.word.ensures c.word-2.ensures
