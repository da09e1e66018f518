-- `asm_draft::deck::pass` meets its contract: each turn stores the words of one line (proofs/Passing).
use Rattle.asm_draft.proofs.Passing.{line-long, passing-done, passing-end, passing-more, passing-over, passing-room, passing-start, spot-counted}
use Rattle.asm_draft.proofs.Sections.{rest_over}
use Rattle.asm_types.specs.Views.{symbols_in}
use mathlib.Core.Path.{sym, ◌∙◌}
use native.Mathlib.Omega.{arith}
use Rattle.asm_draft.proofs.deck.pass.Goals as goal

pub loop-from-init : goal.loop-from-init
loop-from-init c = passing-start _ _ _ _ c.requires.2

pub shape_of-draft-then-is_over : goal.shape_of-draft-then-is_over
shape_of-draft-then-is_over c = c.loop-from.invariant.so_far.same

pub returns-then-is_over : goal.returns-then-is_over
returns-then-is_over c = passing-over _ _ _ _ _ _ _ _ c.loop-from.invariant (rest_over c.args.part (symbols_in c.args.symbols.now.words.now c.args.symbols.now.n) _ _ (sym c.is_over.ensures ∙ c.if-is_over.true))

pub put_part-w-requires : goal.put_part-w-requires
put_part-w-requires c = (c.requires.0, (spot-counted _ _ _ _ _ _ _ _ c.loop-from.invariant _ c.loop-from-test.true c.line_end-to.ensures.0 c.line_end-to.ensures.1 _ c.card_of-c.ensures c.requires.1).word_le, omega (arith, line-long _ _ _ _ _ _ _ _ c.loop-from.invariant _ c.loop-from-test.true c.line_end-to.ensures.0 c.line_end-to.ensures.1, c.requires.1), passing-room _ _ _ _ _ _ _ _ c.loop-from.invariant _ c.loop-from-test.true c.line_end-to.ensures.0 c.line_end-to.ensures.1 _ c.card_of-c.ensures)

pub shape_of-draft-then-is_closing : goal.shape_of-draft-then-is_closing
shape_of-draft-then-is_closing c = c.put_part-w.ensures.same ∙ c.loop-from.invariant.so_far.same

pub returns-then-is_closing : goal.returns-then-is_closing
returns-then-is_closing c = passing-end _ _ _ _ _ _ _ _ c.loop-from.invariant _ c.loop-from-test.true c.line_end-to.ensures.0 c.line_end-to.ensures.1 _ c.card_of-c.ensures _ _ c.put_part-w.ensures (sym c.is_closing.ensures ∙ c.if-is_closing.true)

pub past-r-requires : goal.past-r-requires
past-r-requires c = (spot-counted _ _ _ _ _ _ _ _ c.loop-from.invariant _ c.loop-from-test.true c.line_end-to.ensures.0 c.line_end-to.ensures.1 _ c.card_of-c.ensures c.requires.1, omega (arith, line-long _ _ _ _ _ _ _ _ c.loop-from.invariant _ c.loop-from-test.true c.line_end-to.ensures.0 c.line_end-to.ensures.1, c.requires.1))

pub overflow_add-from : goal.overflow_add-from
overflow_add-from c = omega (arith, c.line_end-to.ensures.1, c.requires.1)

pub loop-from-preserved : goal.loop-from-preserved
loop-from-preserved c = passing-more _ _ _ _ _ _ _ _ c.loop-from.invariant _ c.loop-from-test.true c.line_end-to.ensures.0 c.line_end-to.ensures.1 _ c.card_of-c.ensures _ _ c.put_part-w.ensures (sym c.is_closing.ensures ∙ c.if-is_closing.false) _ c.past-r.ensures

pub shape_of-draft : goal.shape_of-draft
shape_of-draft c = c.loop-from.invariant.so_far.same

pub returns : goal.returns
returns c = passing-done _ _ _ _ _ _ _ _ c.loop-from.invariant c.loop-from-test.false
