-- `asm_reader::line_end` meets its contract. Its parameters are plain, so the borrow checker's part walks the code: who calls `line_at` needs no walk by hand.
-- Each arm is given which step `line_at` returned, and that step says where the line ends.
use mathlib.Core.Path.{sym, ◌∙◌}
use native.Mathlib.Omega.{arith}
use Rattle.asm_reader.proofs.Laws.{end_le, end_none, end-stepped}
use Rattle.asm_reader.proofs.line_end.Goals as goal

pub returns-in-Some : goal.returns-in-Some
returns-in-Some c =
    let at-start = c in
    let s = at-start.args.text.now in
    let i = at-start.args.at in
    let e = end-stepped s i _ _ (sym c.line_at.ensures ∙ c.in-Some.is) in
    (e, omega (arith, e, end_le s i at-start.requires))

pub returns-in-None : goal.returns-in-None
returns-in-None c =
    let at-start = c in
    let e = end_none at-start.args.text.now at-start.args.at (sym c.line_at.ensures ∙ c.in-None.is) in
    (e, at-start.requires)
