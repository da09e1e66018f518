-- The invariant: what is translated from here is what is translated from the start.
use Prim.Native.Nat.{◌+◌}
use mathlib.Core.Path.{refl, sym, ◌∙◌}
use native.Mathlib.Omega.{arith}
use lib.ListN.{length-set}
use Rattle.rules.specs.Operand.{char_in}
use Rattle.block_table.proofs.Table.{same-counts, translated-none, table_step}
use Rattle.block_table.proofs.translate_short.Goals as goal

pub loop-f-init : goal.loop-f-init
loop-f-init c = (same-counts c.args.to c.args.m.now (omega arith) refl, refl)

pub mapped_word-requires : goal.mapped_word-requires
mapped_word-requires c = (rw c.loop-f.invariant.1 c.requires.1, rw c.loop-f.invariant.1 c.requires.2)

pub loop-f-preserved : goal.loop-f-preserved
loop-f-preserved c =
    let l = c.loop-f in
    let a = c.args in
    (l.invariant.0 ∙ table_step (a.from + a.n) l.f a.to l.m (λ b. char_in l.m (a.to + b)) (omega arith) (λ z e. omega (arith, c.requires.3 (omega (arith, z)) (omega (arith, e)))) (λ b h. refl) (omega arith) (c.slice_known-in-loop-f-1.given l.f).fits ∙ rw c.mapped_word.ensures, simp length-set l.invariant.1)

pub returns : goal.returns
returns c = sym (translated-none _ _ _ _ (omega arith)) ∙ sym c.loop-f.invariant.0
