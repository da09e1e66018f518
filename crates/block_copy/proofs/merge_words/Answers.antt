-- The invariant: what is copied from here is what is copied from the start.
use mathlib.Core.Path.{refl, sym, ◌∙◌}
use native.Mathlib.Omega.{arith}
use lib.ListN.{length-set}
use Rattle.block_copy.proofs.Four.{same-counts}
use Rattle.block_copy.proofs.Whole.{copied-chars-none}
use Rattle.block_copy.proofs.Merge.{merged-step}
use Rattle.block_copy.proofs.merge_words.Goals as goal

pub loop-i-init : goal.loop-i-init
loop-i-init c = (same-counts c.args.m.now (omega arith) (omega arith) (omega arith), refl)

pub loop-i-preserved : goal.loop-i-preserved
loop-i-preserved c =
    let l = c.loop-i in
    let a = c.args in
    let p = c.requires in
    (l.invariant.0 ∙ merged-step a.n l.i a.from a.to a.r l.m (omega arith) p.2 p.3 (omega arith) (λ e. p.4 (omega (arith, e))) (λ j. (c.slice_known-in-loop-i-1.given j).fits) ∙ rw c.merged.ensures, simp length-set l.invariant.1)

pub returns : goal.returns
returns c = sym (copied-chars-none _ _ _ _ (omega arith)) ∙ sym c.loop-i.invariant.0
