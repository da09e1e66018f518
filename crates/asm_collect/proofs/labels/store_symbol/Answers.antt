-- `asm_collect::labels::store_symbol` meets its contract: the card's symbol is the one that is added.
use Rattle.asm_collect.proofs.Storing.{none-stored, one-stored}
use mathlib.Core.Path.{◌∙◌}
use Rattle.asm_types.specs.Views.{card_view}
use Rattle.asm_collect.proofs.labels.store_symbol.Goals as goal

pub returns-then-name-eq0 : goal.returns-then-name-eq0
returns-then-name-eq0 c = none-stored c.args.syms.now c.args.n (card_view c.args.c c.args.s.now) c.if-name-eq0.true c.requires.1

pub add-requires : goal.add-requires
add-requires c = (c.requires.1, c.requires.2, c.sort_in-sort.ensures.sort_le, c.wide-value.ensures.1, λ h. rw c.wide-value.ensures.0 (c.value_of.ensures.1 h))

pub returns : goal.returns
returns c = one-stored c.args.syms.now c.args.n (card_view c.args.c c.args.s.now) _ _ _ _ _ c.add.ensures c.if-name-eq0.false c.wide-line.ensures.0 c.sort_in-sort.ensures.sort_is (c.wide-value.ensures.0 ∙ c.value_of.ensures.0) (c.wide-letter.ensures.0 ∙ c.letter_of.ensures)
