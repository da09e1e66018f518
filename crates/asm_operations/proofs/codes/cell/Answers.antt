-- `asm_operations::codes::cell` meets its contract: the row is in the table, or past its end.
use Rattle.asm_operations.proofs.Laws.{row-past}
use Rattle.ops.specs.Ops.{Row, cells_of}
use Rattle.ops.proofs.Rows.{table-row}
use lib.ListN.{get_or}
use mathlib.Core.Path.{sym, ap, ◌∙◌}
use mathlib.Core.List.{List}
use Prim.Native.Nat.{ℕ}
use Rattle.asm_operations.proofs.codes.cell.Goals as goal

pub returns-then-i-lt-COUNT : goal.returns-then-i-lt-COUNT
returns-then-i-lt-COUNT c =
    let j = c.args.j in
    ap (λ (l : List ℕ). get_or l j 0) (table-row c.args.list.now c.requires.0 c.row_index-i.result c.if-i-lt-COUNT.true)
    ∙ ap (λ (r : Row). get_or (cells_of r) j 0) c.row_index-i.ensures

pub returns : goal.returns
returns c =
    let j = c.args.j in
    c.requires.2 ∙ ap (λ (r : Row). get_or (cells_of r) j 0) (sym (row-past c.row_index-i.result c.if-i-lt-COUNT.false) ∙ c.row_index-i.ensures)
