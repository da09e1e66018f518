-- `asm_operations::names::named` meets its contract: a row, or an assembly operation.
use native.Mathlib.Omega.{arith}
use mathlib.Core.Path.{◌∙◌}
use Rattle.language.specs.Operation.{operation_named}
use Rattle.asm_operations.proofs.Begins.{row_from, unknown-from, inside-from}
use Rattle.asm_operations.proofs.names.named.Goals as goal

pub returns-in_default : goal.returns-in_default
unfolding operation_named
returns-in_default c =
    let f = c in
    let e = f in
    let g = e.begins-from.ensures in
    let a = e in
    c.assembly_named.ensures
    ∙ rw (← unknown-from a.args.list.now a.requires a.args.a a.args.b a.args.c _ _ g.0 e.ends-to.ensures.0 e.ends-to.ensures.1 e.ends-to.ensures.2 _ f.find_within-found.ensures (omega arith) (omega arith) c.in_default.is)

pub overflow_add-row : goal.overflow_add-row
overflow_add-row c =
    let f = c in
    let e = f in
    let g = e.begins-from.ensures in
    let a = e in
    omega (arith, inside-from a.args.list.now a.requires a.args.a a.args.b a.args.c _ _ g.0 e.ends-to.ensures.0 e.ends-to.ensures.1 e.ends-to.ensures.2 _ f.find_within-found.ensures _ c.in-Some.is)

pub returns : goal.returns
unfolding operation_named
returns c =
    let f = c in
    let e = f in
    let g = e.begins-from.ensures in
    let a = e in
    rw (← row_from a.args.list.now a.requires a.args.a a.args.b a.args.c _ _ g.0 e.ends-to.ensures.0 e.ends-to.ensures.1 e.ends-to.ensures.2 _ f.find_within-found.ensures _ c.in-Some.is)
