-- The invariant: what is copied from here is what is copied from the start.
use mathlib.Core.Path.{refl, sym, ◌∙◌}
use native.Mathlib.Omega.{arith}
use lib.ListN.{length-set}
use Rattle.block_copy.proofs.Whole.{copied-word, copied-words-none, same-word-counts}
use Rattle.block_copy.proofs.copy_words.Goals as goal

pub loop-i-init : goal.loop-i-init
loop-i-init c = (same-word-counts c.args.m.now (omega arith) (omega arith) (omega arith), refl)

pub loop-i-preserved : goal.loop-i-preserved
loop-i-preserved c =
    let i = c.loop-i.invariant in
    (i.0 ∙ copied-word c.args.n c.loop-i.i c.args.from c.args.to c.loop-i.m (omega arith), simp length-set i.1)

pub returns : goal.returns
returns c = sym (copied-words-none _ _ _ _ (omega arith)) ∙ sym c.loop-i.invariant.0
