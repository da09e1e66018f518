-- The invariant: what is translated from here is what is translated from the start, and the list has the table, which is elsewhere.
use Prim.Native.Nat.{ℕ, ◌+◌}
use mathlib.Core.Path.{refl, sym, ◌∙◌}
use native.Mathlib.Omega.{arith}
use lib.ListN.{length-set}
use Rattle.base.specs.Lists.{◌at◌}
use Rattle.block_table.proofs.Table.{same-counts, translated-none, table_step, has_kept}
use Rattle.block_table.proofs.translate_by.Goals as goal

pub loop-f-init : goal.loop-f-init
loop-f-init c = (same-counts c.args.to c.args.m.now (omega arith) refl, refl, c.requires.5)

pub loop-f-preserved : goal.loop-f-preserved
loop-f-preserved c =
    let l = c.loop-f in
    let i = l.invariant in
    let a = c.args in
    let has : ℕ → ℕ = λ b. a.lists.now.ones at b in (
      i.0 ∙ table_step (a.from + a.n) l.f a.to l.m has (omega arith) (λ z e. omega (arith, c.requires.3 (omega (arith, z)) (omega (arith, e)))) i.2 (omega arith) (c.slice_known-in-loop-f-1.given l.f).fits ∙ rw c.listed_word.ensures,
      simp length-set i.1,
      has_kept (a.from + a.n) l.f a.to l.m has (omega arith) (λ z e. omega (arith, c.requires.3 (omega (arith, z)) (omega (arith, e)))) i.2 _,
    )

pub returns : goal.returns
returns c = sym (translated-none _ _ _ _ (omega arith)) ∙ sym c.loop-f.invariant.0
