-- A row that is found is in the table.
use Rattle.ops.proofs.Rows.{rows-count}
use Rattle.tool_operations.proofs.show_row.Goals as goal

pub show_at-requires : goal.show_at-requires
show_at-requires g c =
    rw (← rows-count) ((c.find_letters-found.ensures.row c.in-Some.i).0 c.in-Some.is).0
