-- `tables::judge::shapes_ok` meets its contract: each return rewrites with the tests that led there.
use Rattle.tables.specs.Shape.{shape_ok}
use Rattle.table_layout.proofs.Belows.{below-zero, below_more, below_fails}
use native.Mathlib.Omega.{arith}
use mathlib.Core.Path.{◌≡◌, sym, ◌∙◌}
use Rattle.tables.proofs.judge.shapes_ok.Goals as goal

pub loop-p-init : goal.loop-p-init
loop-p-init c = below-zero _

pub returns-then-not-shape_ok : goal.returns-then-not-shape_ok
returns-then-not-shape_ok c = sym (below_fails (shape_ok c.args.places.now.table.now) c.args.places.now.n c.loop-p.p c.loop-p-test.true (sym c.shape_ok.ensures ∙ c.if-not-shape_ok.true))

pub loop-p-preserved : goal.loop-p-preserved
loop-p-preserved c = below_more (shape_ok c.args.places.now.table.now) c.loop-p.p c.loop-p.invariant (sym c.shape_ok.ensures ∙ c.if-not-shape_ok.false)

pub returns : goal.returns
returns c = let z : c.loop-p.p ≡ c.args.places.now.n = omega arith in rw (← z) (sym c.loop-p.invariant)
