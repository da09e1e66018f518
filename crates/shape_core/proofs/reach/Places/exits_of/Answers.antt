-- `shape_core::exits::exits_of` meets its contract: each return rewrites with the tests that led there.
use Rattle.std.specs.Prelude.{Some}
use Rattle.shape_core.proofs.Lists.{prc-inside, exits-procedure, exits-no-procedure, exits-no-kind, exits-far, exits-external}
use native.Mathlib.Omega.{arith}
use mathlib.Core.Path.{sym, ap, ◌∙◌}
use Rattle.shape_core.proofs.reach.Places.exits_of.Goals as goal

pub returns-then-class_at-ne-PRC : goal.returns-then-class_at-ne-PRC
returns-then-class_at-ne-PRC c = exits-no-procedure c.args.self.now.table.now c.args.p c.index-v.result (c.index-v.ensures ∙ c.word.ensures) c.class_at.result c.class_at.ensures (sym c.word-kind.ensures ∙ c.if-kind-eq-PLACE_KIND.true) c.if-class_at-ne-PRC.true

pub word-requires-then-kind-eq-PLACE_KIND : goal.word-requires-then-kind-eq-PLACE_KIND
word-requires-then-kind-eq-PLACE_KIND c = omega (arith, prc-inside c.args.self.now.table.now c.index-v.result c.class_at.result c.class_at.ensures c.if-class_at-ne-PRC.false)

pub returns-then-kind-eq-PLACE_KIND : goal.returns-then-kind-eq-PLACE_KIND
returns-then-kind-eq-PLACE_KIND c = ap Some c.word-then-kind-eq-PLACE_KIND.ensures ∙ exits-procedure c.args.self.now.table.now c.args.p c.index-v.result (c.index-v.ensures ∙ c.word.ensures) c.class_at.result c.class_at.ensures (sym c.word-kind.ensures ∙ c.if-kind-eq-PLACE_KIND.true) c.if-class_at-ne-PRC.false

pub returns-then-kind-ne-EXTERNAL_KIND : goal.returns-then-kind-ne-EXTERNAL_KIND
returns-then-kind-ne-EXTERNAL_KIND c = exits-no-kind c.args.self.now.table.now c.args.p c.index-v.result (c.index-v.ensures ∙ c.word.ensures) (λ z. c.if-kind-eq-PLACE_KIND.false (c.word-kind.ensures ∙ z)) (λ z. c.if-kind-ne-EXTERNAL_KIND.true (c.word-kind.ensures ∙ z))

pub returns-then-index-v : goal.returns-then-index-v
returns-then-index-v c = exits-far c.args.self.now.table.now c.args.p c.index-v.result (c.index-v.ensures ∙ c.word.ensures) (λ z. c.if-kind-eq-PLACE_KIND.false (c.word-kind.ensures ∙ z)) (omega arith)

pub returns : goal.returns
returns c = exits-external c.args.self.now.table.now c.args.p c.index-v.result (c.index-v.ensures ∙ c.word.ensures) c.args.self.now.n c.index-2.result c.args.self.now.known.count c.index-2.ensures (λ z. c.if-kind-eq-PLACE_KIND.false (c.word-kind.ensures ∙ z)) (sym c.word-kind.ensures ∙ c.if-kind-ne-EXTERNAL_KIND.false) (omega arith)
