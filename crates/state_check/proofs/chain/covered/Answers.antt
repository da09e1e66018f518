-- `state_check::chain::covered` meets its contract: outside procedures, above no link, above the youngest. Assumes nothing.
use Rattle.rules.specs.Table.{calls}
use Rattle.state_check.proofs.Chained.{covered-bare, covered-by, covered-outside}
use mathlib.Core.Path.{ap, ◌∙◌}
use native.Mathlib.Omega.{arith}
use Rattle.state_check.proofs.chain.covered.Goals as goal

pub returns-then-b-eq0 : goal.returns-then-b-eq0
returns-then-b-eq0 c =
    let pre = c.requires in
    let args = c.args in
    rw (← (c.index-b.ensures ∙ pre.1.found args.p (omega arith)))
    (covered-outside args.t.now args.links.now args.k c.index-b.result c.if-b-eq0.true)

pub returns-then-k-eq0 : goal.returns-then-k-eq0
returns-then-k-eq0 c =
    let index = c.index-b in
    let pre = c.requires in
    let args = c.args in
    rw (← (index.ensures ∙ pre.1.found args.p (omega arith)))
    (covered-bare args.t.now args.links.now args.k index.result c.if-b-eq0.false c.if-k-eq0.true)

pub returns : goal.returns
returns c =
    let index = c.index-b in
    let pre = c.requires in
    let args = c.args in
    let if1 = c.if-b-eq0 in
    let if2 = c.if-k-eq0 in
    rw (← (index.ensures ∙ pre.1.found args.p (omega arith)))
    (covered-by args.t.now args.links.now args.k index.result if1.false if2.false (omega arith)
    c.callee_of.result
    (c.callee_of.ensures ∙ ap (calls args.t.now) c.index.ensures))
