-- `asm_shapes::loose::counted_fault` meets its contract: a list longer than the table is none.
use Rattle.asm_shapes.proofs.ByClass.{list-long}
use Rattle.rules.specs.Table.{size}
use native.Mathlib.Omega.{arith}
use mathlib.Core.Path.{refl, ◌∙◌}
use Rattle.asm_shapes.proofs.loose.counted_fault.Goals as goal

pub returns-then-places-k : goal.returns-then-places-k
unfolding size
returns-then-places-k c = rw c.in-Some.is (list-long c.args.places.now.table.now c.args.p c.in-Some.k (omega (arith, c.args.places.now.known.count)))

pub returns : goal.returns
returns c = c.list_fault.ensures ∙ rw c.in-Some.is refl
