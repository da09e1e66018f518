-- `asm_shapes::faults::fields_ok` meets its contract: the rules are those of the row found.
use Rattle.entries.proofs.Formats.{fields-cells, fields-unknown, row_inside}
use Rattle.ops.proofs.Rows.{table-row}
use lib.ListN.{get_or}
use mathlib.Core.List.{[]}
use native.Mathlib.Omega.{arith}
use mathlib.Core.Path.{sym, ◌∙◌}
use Rattle.asm_shapes.proofs.faults.fields_ok.Goals as goal

pub returns-in_default : goal.returns-in_default
returns-in_default c =
    let a = c in
    sym (fields-unknown a.args.table.now a.args.p (sym c.row_at.ensures ∙ c.in_default.is))

pub offset_bounds-list-i : goal.offset_bounds-list-i
offset_bounds-list-i c = omega (arith, row_inside _ (sym c.row_at.ensures ∙ c.in-Some.is))

pub bounds-list-i : goal.bounds-list-i
bounds-list-i c = omega (arith, row_inside _ (sym c.row_at.ensures ∙ c.in-Some.is))

pub returns : goal.returns
returns c =
    let a = c in
    let t = a.args.table.now in
    let p = a.args.p in
    let i = c.in-Some.i in
    let e = sym c.row_at.ensures ∙ c.in-Some.is in
    c.row_ok.ensures
    ∙ sym (fields-cells t p i e (get_or a.args.list.now i []) (table-row a.args.list.now a.requires.1 i (row_inside _ e)))
