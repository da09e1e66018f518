-- `asm_shapes::faults::jsr_fault` meets its contract: an unnamed callee is the smallest fault.
use Rattle.asm_shapes.proofs.ByClass.{jsr-named, jsr-unnamed}
use mathlib.Core.Path.{sym, ◌∙◌}
use Rattle.asm_shapes.proofs.faults.jsr_fault.Goals as goal

pub returns-in_default : goal.returns-in_default
returns-in_default c = jsr-unnamed c.args.places.now.table.now c.args.p (sym c.exits_of.ensures ∙ c.in_default.is)

pub returns : goal.returns
returns c = c.list_fault.ensures ∙ jsr-named c.args.places.now.table.now c.args.p c.in-Some.k (sym c.exits_of.ensures ∙ c.in-Some.is)
