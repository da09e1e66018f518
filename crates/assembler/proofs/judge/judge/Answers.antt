-- `assembler::judge::judge` meets its contract: no line above the reader has a fault, and the lines from it on are those left.
use Rattle.assembler.specs.Judges.{deck_from}
use Rattle.assembler.proofs.Lines.{Judging, all-clear, broken, closes, counted-here, judging-start, place-below, step}
use Rattle.asm_cards.proofs.Counting.{counted-more}
use Rattle.asm_types.specs.Views.{symbols_in}
use Rattle.language.specs.Card.{Reader, cards_of}
use lib.ListN.{drop, length-drop, length-take}
use native.Mathlib.Omega.{arith}
use mathlib.Core.Path.{sym, subst, ◌∙◌}
use Prim.Native.Nat.{◌+◌, ◌-◌}
use Rattle.assembler.proofs.judge.judge.Goals as goal

pub loop-from-init : goal.loop-from-init
loop-from-init c = judging-start _ _ _ c.requires.1.places

pub line_end-to-requires : goal.line_end-to-requires
line_end-to-requires c = omega (arith, c.loop-from-test.true)

pub slice_bounds-card_of-count : goal.slice_bounds-card_of-count
slice_bounds-card_of-count c = omega (arith, c.line_end-to.ensures.0)

pub slice_bounds-card_of-start : goal.slice_bounds-card_of-start
slice_bounds-card_of-start c = omega (arith, c.line_end-to.ensures.0)

pub slice_bounds-card_of-end : goal.slice_bounds-card_of-end
slice_bounds-card_of-end c = omega (arith, c.line_end-to.ensures.1)

pub slice_bounds-line_fault-count : goal.slice_bounds-line_fault-count
slice_bounds-line_fault-count c = omega (arith, c.line_end-to.ensures.0)

pub slice_bounds-line_fault-start : goal.slice_bounds-line_fault-start
slice_bounds-line_fault-start c = omega (arith, c.line_end-to.ensures.0)

pub slice_bounds-line_fault-end : goal.slice_bounds-line_fault-end
slice_bounds-line_fault-end c = omega (arith, c.line_end-to.ensures.1)

pub line_fault-f-requires : goal.line_fault-f-requires
line_fault-f-requires c =
    (c.requires.0, c.requires.1.known, place-below _ _ _ _ _ _ c.loop-from.invariant c.loop-from-test.true c.line_end-to.ensures.0 _ c.card_of-c.ensures, c.requires.2)

pub returns-in_default : goal.returns-in_default
returns-in_default c a = broken _ _ _ _ _ _ c.loop-from.invariant c.loop-from-test.true c.line_end-to.ensures.0 _ c.card_of-c.ensures _ (c.line_fault-f.ensures _) _ c.verdict_of-v.ensures _ c.in_default.is a

pub returns-then-is_closing : goal.returns-then-is_closing
returns-then-is_closing c a = closes _ _ _ _ _ _ c.loop-from.invariant c.loop-from-test.true c.line_end-to.ensures.0 _ c.card_of-c.ensures _ (c.line_fault-f.ensures _) _ c.verdict_of-v.ensures c.in-Ok.is (sym c.is_closing.ensures ∙ c.if-is_closing.true) a

pub slice_bounds-past-count : goal.slice_bounds-past-count
slice_bounds-past-count c = omega (arith, c.line_end-to.ensures.0)

pub slice_bounds-past-start : goal.slice_bounds-past-start
slice_bounds-past-start c = omega (arith, c.line_end-to.ensures.0)

pub slice_bounds-past-end : goal.slice_bounds-past-end
slice_bounds-past-end c = omega (arith, c.line_end-to.ensures.1)

pub past-r-requires : goal.past-r-requires
past-r-requires c =
    let text = c.args.text.now in
    let i = c.loop-from.from in
    let e = c.line_end-to.result in
    (counted-more i 32768 _ (omega (arith, c.loop-from-test.true, c.requires.1.short)) (counted-here _ _ _ _ _ _ c.loop-from.invariant c.loop-from-test.true c.line_end-to.ensures.0 _ c.card_of-c.ensures), omega (arith, length-take (e - i) (drop i text), length-drop i text, c.requires.1.short))

pub overflow_add-from : goal.overflow_add-from
overflow_add-from c = omega (arith, c.line_end-to.ensures.1, c.requires.1.short)

pub loop-from-smaller : goal.loop-from-smaller
loop-from-smaller c = omega (arith, c.line_end-to.ensures.0, c.line_end-to.ensures.1)

pub loop-from-preserved : goal.loop-from-preserved
loop-from-preserved c =
    let text = c.args.text.now in
    let d = deck_from (cards_of text) (symbols_in c.args.symbols.now.words.now c.args.symbols.now.n) c.args.table.now in
    subst (λ (x : Reader). Judging text d c.args.size x (c.line_end-to.result + 1)) (sym c.past-r.ensures) (step _ _ _ _ _ _ c.loop-from.invariant c.loop-from-test.true c.line_end-to.ensures.0 _ c.card_of-c.ensures _ (c.line_fault-f.ensures _) _ c.verdict_of-v.ensures c.in-Ok.is (sym c.is_closing.ensures ∙ c.if-is_closing.false) c.line_end-to.ensures.1)

pub returns : goal.returns
returns c a = all-clear _ _ _ _ _ c.loop-from.invariant c.loop-from-test.false a
