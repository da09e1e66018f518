use Rattle.exec_calls.proofs.Called.{leaving, exi-keeps, exi-drops}
use Prim.Native.Nat.{ℕ, ◌+◌}
use Rattle.base.specs.Lists.{◌at◌}
use mathlib.Core.Path.{refl, ap, ◌∙◌}
use native.Mathlib.Omega.{arith}
use Rattle.exec_calls.proofs.exi.Goals as goal

pub overflow_sub-left : goal.overflow_sub-left
overflow_sub-left c = omega (arith, (leaving c.requires.0 c.requires.1 c.requires.2).some)

pub take_exit-r-requires : goal.take_exit-r-requires
take_exit-r-requires c = let g = leaving c.requires.0 c.requires.1 c.requires.2 in rw (c.index-j.ensures, c.index.ensures) (g.calls, g.number)

pub returns-then-r-ne-IMPOSSIBLE_EXIT : goal.returns-then-r-ne-IMPOSSIBLE_EXIT
returns-then-r-ne-IMPOSSIBLE_EXIT c = exi-drops c.requires.0 c.requires.1 c.requires.2 _ _ _ _ (c.args.t.now at (c.args.b + 3)) (c.index-j.ensures ∙ ap (λ (i : ℕ). c.args.links.now at i) c.index.ensures) refl c.take_exit-r.ensures _ refl c.if-r-ne-IMPOSSIBLE_EXIT.true

pub returns-else-r-ne-IMPOSSIBLE_EXIT : goal.returns-else-r-ne-IMPOSSIBLE_EXIT
returns-else-r-ne-IMPOSSIBLE_EXIT c = exi-keeps c.requires.0 c.requires.1 c.requires.2 _ _ _ _ (c.args.t.now at (c.args.b + 3)) (c.index-j.ensures ∙ ap (λ (i : ℕ). c.args.links.now at i) c.index.ensures) refl c.take_exit-r.ensures c.if-r-ne-IMPOSSIBLE_EXIT.false
