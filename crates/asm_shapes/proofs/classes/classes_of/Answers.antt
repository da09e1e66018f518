-- `asm_shapes::classes::classes_of` meets its contract: the classes of the entries before p are written.
use Rattle.entries.proofs.Filled.{filled-last, filled_more}
use Rattle.entries.proofs.Formats.{class-past}
use Rattle.rules.specs.Table.{class_at}
use Rattle.ops.specs.Class.{class_code}
use lib.ListN.{length-set}
use Prim.Native.Nat.{ℕ}
use native.Mathlib.Omega.{arith}
use mathlib.Core.Path.{refl, sym, ap, ◌∙◌}
use Rattle.asm_shapes.proofs.classes.classes_of.Goals as goal

pub loop-p-init : goal.loop-p-init
loop-p-init c = (omega arith, refl, λ q h. absurd (omega arith))

pub class_of-requires : goal.class_of-requires
class_of-requires c = (c.requires.0, c.requires.1, omega (arith, c.requires.2), c.requires.4)

pub loop-p-preserved : goal.loop-p-preserved
loop-p-preserved c = (omega arith, length-set c.loop-p.classes c.loop-p.p _ ∙ c.loop-p.invariant.1, filled_more (λ (x : ℕ). class_code (class_at c.args.table.now x)) c.loop-p.classes c.loop-p.p _ (omega (arith, c.loop-p.invariant.1)) c.class_of.ensures c.loop-p.invariant.2)

pub returns : goal.returns
returns c = λ q h. filled-last (λ (x : ℕ). class_code (class_at c.args.table.now x)) c.loop-p.classes c.args.n _ (omega (arith, c.loop-p.invariant.1)) (class-past c.args.table.now ∙ ap (λ (x : ℕ). class_code (class_at c.args.table.now x)) (sym c.requires.2)) (λ j g. c.loop-p.invariant.2 j (omega arith)) q (omega (arith, c.requires.2))
