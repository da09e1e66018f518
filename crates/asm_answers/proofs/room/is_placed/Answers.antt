-- `asm_answers::room::is_placed` meets its contract: the table's words are asked for, and only where they fit is anything written.
use Rattle.asm_answers.proofs.Places.{no_room, placed}
use native.Mathlib.Omega.{arith}
use Rattle.asm_answers.proofs.room.is_placed.Goals as goal

pub returns-then-table-draft : goal.returns-then-table-draft
returns-then-table-draft c =
    let t = c.args.draft.now in
    let old = c.args.table.now in
    no_room t old (omega (arith, c.if-table-draft.true))

pub copy-requires : goal.copy-requires
copy-requires c = c.if-table-draft.false

pub returns : goal.returns
returns c = placed _ _ _ c.if-table-draft.false c.copy.ensures
