-- `asm_cards::card_of` meets its contract: the operation and the label of the line.
use Rattle.language.specs.Card.{card_of}
use Rattle.asm_cards.proofs.card_of.Goals as goal

pub returns : goal.returns
unfolding card_of
returns c = rw (c.label_by-label.ensures, c.operation_of-operation.ensures)
