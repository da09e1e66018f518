-- `asm_shapes::classes::class_of` meets its contract: the class is that of the row found.
use Rattle.entries.proofs.Formats.{class-cells, class-unknown, row_inside}
use Rattle.ops.proofs.Rows.{table-row}
use mathlib.Core.List.{[]}
use lib.ListN.{get_or}
use native.Mathlib.Omega.{arith}
use mathlib.Core.Path.{sym, ◌∙◌}
use Rattle.asm_shapes.proofs.classes.class_of.Goals as goal

pub returns-in_default : goal.returns-in_default
returns-in_default c =
    let a = c in
    class-unknown a.args.table.now a.args.p (sym c.row_at.ensures ∙ c.in_default.is) a.requires.2

pub offset_bounds-list-i : goal.offset_bounds-list-i
offset_bounds-list-i c = omega (arith, row_inside _ (sym c.row_at.ensures ∙ c.in-Some.is))

pub bounds-list-i : goal.bounds-list-i
bounds-list-i c = omega (arith, row_inside _ (sym c.row_at.ensures ∙ c.in-Some.is))

pub returns : goal.returns
returns c =
    let a = c in
    let t = a.args.table.now in
    let p = a.args.p in
    let i = c.in-Some.i in
    let e = sym c.row_at.ensures ∙ c.in-Some.is in
    c.class_of.ensures
    ∙ class-cells t p i e (get_or a.args.list.now i []) (table-row a.args.list.now a.requires.1 i (row_inside _ e)) a.requires.2
