-- `asm_shapes::loose::loose_fault` meets its contract: the class, the rules that all classes share.
use Rattle.asm_shapes.proofs.Smallest.{faults-small, loose-shared}
use Rattle.asm_shapes.specs.Shared.{shared}
use Rattle.asm_types.specs.Views.{parsed_view}
use Rattle.language.specs.Fault.{loose_class}
use Rattle.rules.specs.Table.{class_at}
use native.Mathlib.Omega.{arith}
use mathlib.Core.Path.{ap, ◌∙◌}
use Rattle.asm_shapes.proofs.loose.loose_fault.Goals as goal

pub shared_fault-requires : goal.shared_fault-requires
shared_fault-requires c = (c.requires, omega (arith, c.loose_class-f.ensures, faults-small (loose_class c.args.places.now.table.now c.args.p (parsed_view c.args.count) (class_at c.args.places.now.table.now c.args.p))))

pub returns : goal.returns
returns c = c.shared_fault.ensures ∙ ap (shared c.args.places.now.table.now c.args.p) c.loose_class-f.ensures ∙ loose-shared c.args.places.now.table.now c.args.p (parsed_view c.args.count)
