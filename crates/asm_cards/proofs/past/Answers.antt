-- `asm_cards::past` meets its contract: each count by its function.
use Rattle.language.specs.Card as Cards
use Rattle.asm_cards.proofs.past.Goals as goal

pub returns : goal.returns
unfolding Cards.past
returns c =
    let s = c.args.s.now in
    rw (c.opened_past.ensures s, c.one-places.ensures.0, c.holds_place.ensures s, c.word_count-words.ensures.0, c.one-externals.ensures.0, c.is_external.ensures s)
