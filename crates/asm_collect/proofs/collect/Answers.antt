-- `asm_collect::collect` meets its contract: the laws of the pass, one for each way through its body.
use mathlib.Core.Path.{refl, sym, ◌∙◌}
use native.Mathlib.Omega.{arith}
use Prim.Native.Nat.{◌+◌, ◌-◌}
use lib.ListN.{drop, length-take}
use Rattle.language.specs.Text.{max_bytes}
use Rattle.asm_types.specs.Views.{card_view, reader_view}
use Rattle.asm_cards.proofs.Counting.{counted_start}
use Rattle.asm_collect.proofs.Tallies.{within_more}
use Rattle.asm_collect.proofs.Passes.{all-collected, collecting-none, ends-card, goes_on_lem, line_at, none_left, spot-counted}
use Rattle.asm_collect.proofs.collect.Goals as goal

pub loop-at-init : goal.loop-at-init
loop-at-init c = (collecting-none c.args.text.now c.args.syms.now c.requires.2, counted_start, refl)

pub store_symbol-n-requires : goal.store_symbol-n-requires
store_symbol-n-requires c = (c.requires.0, c.loop-at.invariant.0.symbolic, omega (arith, c.loop-at.invariant.0.labels_le, c.loop-at.invariant.0.room, c.loop-at-test.true, c.requires.1), spot-counted c.loop-at.at (reader_view c.loop-at.r) (card_view c.card_of-c.result (line_at c.args.text.now c.loop-at.at c.line_end-e.result)) (line_at c.args.text.now c.loop-at.at c.line_end-e.result) c.card_of-c.ensures (omega (arith, c.loop-at-test.true, c.requires.1)) c.loop-at.invariant.1)

pub counted-k-requires : goal.counted-k-requires
counted-k-requires c = (within_more c.loop-at.at (max_bytes + 1) c.loop-at.k (omega (arith, c.loop-at-test.true, c.requires.1)) c.loop-at.invariant.0.within, omega (arith, length-take (c.line_end-e.result - c.loop-at.at) (drop c.loop-at.at c.args.text.now), c.line_end-e.ensures.1, c.requires.1))

pub shape_of-syms-then-is_closing : goal.shape_of-syms-then-is_closing
shape_of-syms-then-is_closing c = c.store_symbol-n.ensures.long ∙ c.loop-at.invariant.2

pub returns-then-is_closing : goal.returns-then-is_closing
returns-then-is_closing c = ends-card c.args.text.now c.loop-at.syms _ c.loop-at.n c.store_symbol-n.result c.loop-at.at c.line_end-e.result c.loop-at.k c.counted-k.result (reader_view c.loop-at.r) (card_view c.card_of-c.result (line_at c.args.text.now c.loop-at.at c.line_end-e.result)) c.loop-at.invariant.0 c.loop-at-test.true c.line_end-e.ensures.0 c.line_end-e.ensures.1 c.card_of-c.ensures c.store_symbol-n.ensures c.counted-k.ensures (sym c.is_closing.ensures ∙ c.if-is_closing.true) c.requires.1

pub past-r-requires : goal.past-r-requires
past-r-requires c = (spot-counted c.loop-at.at (reader_view c.loop-at.r) (card_view c.card_of-c.result (line_at c.args.text.now c.loop-at.at c.line_end-e.result)) (line_at c.args.text.now c.loop-at.at c.line_end-e.result) c.card_of-c.ensures (omega (arith, c.loop-at-test.true, c.requires.1)) c.loop-at.invariant.1, omega (arith, length-take (c.line_end-e.result - c.loop-at.at) (drop c.loop-at.at c.args.text.now), c.line_end-e.ensures.1, c.requires.1))

pub overflow_add-at : goal.overflow_add-at
overflow_add-at c = omega (arith, c.line_end-e.ensures.1, c.requires.1)

pub loop-at-preserved : goal.loop-at-preserved
loop-at-preserved c =
    let g = goes_on_lem c.args.text.now c.loop-at.syms _ c.loop-at.n c.store_symbol-n.result c.loop-at.at c.line_end-e.result c.loop-at.k c.counted-k.result (reader_view c.loop-at.r) (card_view c.card_of-c.result (line_at c.args.text.now c.loop-at.at c.line_end-e.result)) c.loop-at.invariant.0 c.loop-at-test.true c.line_end-e.ensures.0 c.line_end-e.ensures.1 c.card_of-c.ensures c.store_symbol-n.ensures c.counted-k.ensures (reader_view c.past-r.result) c.past-r.ensures (sym c.is_closing.ensures ∙ c.if-is_closing.false) c.loop-at.invariant.1 in
    (g.0, g.1, c.store_symbol-n.ensures.long ∙ c.loop-at.invariant.2)

pub shape_of-syms : goal.shape_of-syms
shape_of-syms c = c.loop-at.invariant.2

pub returns : goal.returns
returns c = all-collected c.args.text.now c.loop-at.syms c.loop-at.n c.loop-at.at c.loop-at.k _ c.loop-at.invariant.0 (none_left (reader_view c.loop-at.r) c.args.text.now c.loop-at.at c.loop-at-test.false) c.requires.1
