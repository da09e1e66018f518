-- `state_check::chain::chained` meets its contract. The loop's invariant: the chain of the links from i on, above what the link just
-- beneath opened, is the chain of all. Assumes nothing.
use Prim.Native.Nat.{◌<◌}
use Rattle.rules.specs.Table.{body_at, size}
use Rattle.state_check.proofs.Called.{calls-inside}
use Rattle.state_check.proofs.Chained.{chain-done, chain-on, chain-over, chain-uncalled, chain-unheld}
use lib.ListN.{take}
use mathlib.Core.Logic.{◌⊎◌, inl, inr}
use mathlib.Core.Path.{◌≡◌, refl, sym, ◌∙◌}
use native.Mathlib.Omega.{arith}
use borrow.Author.Rules.{rules}
use Rattle.state_check.proofs.chain.chained.Goals.{then-b-ne0+else-beneath-b, else-b-ne0}
use Rattle.state_check.proofs.chain.chained.Goals as goal

pub loop-link-init : goal.loop-link-init
loop-link-init c = (search rules, refl)

pub returns-then-to-eq0 : goal.returns-then-to-eq0
returns-then-to-eq0 c =
    let args = c.args in
    let loop = c.loop-link in
    let index = c.index-j in
    let t = args.t.now in
    let l = args.links.now in
    sym (chain-over t 0 (take args.k l) ∙ loop.invariant.1 ∙ chain-uncalled t loop.beneath args.k loop.link-index
    index.result c.callee_of-to.result l (omega arith) index.ensures
    c.callee_of-to.ensures c.if-to-eq0.true)

pub offset_bounds-body-j : goal.offset_bounds-body-j
offset_bounds-body-j c =
    let args = c.args in
    let index = c.index-j in
    omega (
      arith,
      calls-inside args.t.now index.result c.callee_of-to.result c.callee_of-to.ensures
          c.if-to-eq0.false,
    )

pub bounds-body-j : goal.bounds-body-j
bounds-body-j c =
    let args = c.args in
    let index = c.index-j in
    let Callee-of = c.callee_of-to in
    omega (arith, calls-inside args.t.now index.result Callee-of.result Callee-of.ensures c.if-to-eq0.false)

pub returns-then-beneath-b : goal.returns-then-beneath-b
returns-then-beneath-b c =
    let args = c.args in
    let index = c.index-j in
    let Callee-of = c.callee_of-to in
    let if1 = c.if-to-eq0 in
    let index2 = c.index-b in
    let pre = c.requires in
    let loop = c.loop-link in
    let t = args.t.now in
    let l = args.links.now in
    let inside : index.result < size t = calls-inside args.t.now index.result Callee-of.result
    Callee-of.ensures if1.false in
    let body : index2.result ≡ body_at t index.result = index2.ensures ∙ pre.1.found index.result (omega arith) in
    sym
    (chain-over t 0 (take args.k l) ∙ loop.invariant.1
    ∙ chain-unheld t loop.beneath args.k loop.link-index index.result Callee-of.result l (omega arith)
    index.ensures Callee-of.ensures index2.result body c.if-b-ne0.true c.if-beneath-b.true)

pub loop-link-preserved : goal.loop-link-preserved
loop-link-preserved c =
    let args = c.args in
    let index = c.index-j in
    let Callee-of = c.callee_of-to in
    let if1 = c.if-to-eq0 in
    let pre = c.requires in
    let loop = c.loop-link in
    let t = args.t.now in
    let l = args.links.now in
    let inside : index.result < size t = calls-inside args.t.now index.result Callee-of.result
    Callee-of.ensures if1.false in
    let b = c.index-b.result in
    let body : b ≡ body_at t index.result = c.index-b.ensures ∙ pre.1.found index.result (omega arith) in
    let held : (b ≡ 0) ⊎ (loop.beneath ≡ b) = elim c.if-b-ne0.branch [ then-b-ne0+else-beneath-b w ↦ inr w.if-beneath-b.false | else-b-ne0 w ↦ inl w.if-b-ne0.false ] in
    let opens : c.if-b-ne0.beneath ≡ Callee-of.result = elim c.if-b-ne0.branch [ then-b-ne0+else-beneath-b w ↦ w.beneath-is | else-b-ne0 w ↦ w.beneath-is ] in (
      omega arith,
      rw opens (loop.invariant.1 ∙ chain-on t loop.beneath args.k loop.link-index index.result Callee-of.result l
          (omega arith) index.ensures Callee-of.ensures if1.false b body held),
    )

pub returns : goal.returns
returns c =
    let args = c.args in
    let t = args.t.now in
    let l = args.links.now in
    sym (chain-over t 0 (take args.k l) ∙ c.loop-link.invariant.1 ∙ chain-done t c.loop-link.beneath args.k
    c.loop-link.link-index l (omega arith))
