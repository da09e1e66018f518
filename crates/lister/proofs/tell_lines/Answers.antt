-- `lister::tell_lines` meets its contract. Invariant: the lines told and those left are the text's; no more lines are told than bytes are passed.
-- The measure is what is left of the text. Assumes nothing.
use mathlib.Core.Path.{◌≡◌, refl, sym, ◌∙◌}
use native.Mathlib.Omega.{arith}
use borrow.Author.Rules.{rules}
use lib.ListN.{length, drop}
use Rattle.language.specs.Text.{lines}
use Rattle.asm_reader.specs.Line.{line_behind}
use Rattle.asm_reader.proofs.Laws.{behind-past, lines_more, lines_none, step-inside}
use Rattle.lister.proofs.tell_lines.Goals as goal

pub loop-line-init : goal.loop-line-init
loop-line-init c = (omega arith, search rules, search rules)

pub returns-in_default : goal.returns-in_default
returns-in_default c =
    let in-loop = c in
    let s = in-loop.args.text.now in
    omega (arith, in-loop.loop-line.invariant.0, lines_none s in-loop.loop-line.at (sym c.line_at.ensures ∙ c.in_default.is))

pub overflow_add-number : goal.overflow_add-number
overflow_add-number c =
    let in-loop = c in
    let s = in-loop.args.text.now in
    let h = step-inside s in-loop.loop-line.at _ _ (sym c.line_at.ensures ∙ c.in-Some.is) in
    omega (arith, h, in-loop.loop-line.invariant.1)

pub loop-line-smaller : goal.loop-line-smaller
loop-line-smaller c =
    let in-loop = c in
    let s = in-loop.args.text.now in
    let i = in-loop.loop-line.at in
    let h = step-inside s i _ _ (sym c.line_at.ensures ∙ c.in-Some.is) in
    let b = behind-past s i h in
    omega (arith, h, b.0, b.1, c.line_behind-at.ensures)

pub loop-line-preserved : goal.loop-line-preserved
loop-line-preserved c =
    let in-loop = c in
    let s = in-loop.args.text.now in
    let i = in-loop.loop-line.at in
    let p = sym c.line_at.ensures ∙ c.in-Some.is in
    let h = step-inside s i _ _ p in
    let b = behind-past s i h in
    let n : length (lines (drop c.line_behind-at.result s)) ≡ length (lines (drop (line_behind s i) s)) = rw c.line_behind-at.ensures refl in (
      omega (arith, in-loop.loop-line.invariant.0, lines_more s i _ _ p, n),
      omega (arith, b.0, c.line_behind-at.ensures, in-loop.loop-line.invariant.1),
      omega (arith, b.1, c.line_behind-at.ensures),
    )
