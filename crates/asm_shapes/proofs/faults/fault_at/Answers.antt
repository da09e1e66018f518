-- `asm_shapes::faults::fault_at` meets its contract: the fields, the class, the rules that all classes share.
use Rattle.asm_shapes.proofs.Smallest.{faults-small, fields-broken, fields-lawful}
use Rattle.asm_shapes.specs.Shared.{shared}
use Rattle.rules.specs.Check.{class_rules}
use Rattle.rules.specs.Table.{class_at}
use native.Mathlib.Omega.{arith}
use mathlib.Core.Path.{sym, ap, ◌∙◌}
use Rattle.asm_shapes.proofs.faults.fault_at.Goals as goal

pub returns-then-not-fields_ok : goal.returns-then-not-fields_ok
returns-then-not-fields_ok c = fields-broken c.args.places.now.table.now c.args.p (sym c.fields_ok.ensures ∙ c.if-not-fields_ok.true)

pub shared_fault-requires : goal.shared_fault-requires
shared_fault-requires c = (c.requires.0, omega (arith, c.class_fault-f.ensures, faults-small (class_rules c.args.places.now.table.now c.args.p (class_at c.args.places.now.table.now c.args.p))))

pub returns : goal.returns
returns c = c.shared_fault.ensures ∙ ap (shared c.args.places.now.table.now c.args.p) c.class_fault-f.ensures ∙ fields-lawful c.args.places.now.table.now c.args.p (sym c.fields_ok.ensures ∙ c.if-not-fields_ok.false)
