-- `asm_draft::cards::put_starts` meets its contract: the words of the card, the first made 0.
use Rattle.language.proofs.Lengths.{starts-length, words-length}
use Rattle.language.specs.Image.{starts_in}
use Rattle.asm_draft.proofs.Rows.{fresh-words}
use Rattle.asm_draft.proofs.Storing.{zeroed}
use Rattle.asm_types.specs.Views.{card_view, symbols_in}
use Rattle.base.specs.Test.{if}
use mathlib.Core.Path.{sym, ◌∙◌}
use native.Mathlib.Omega.{arith}
use Rattle.asm_draft.proofs.cards.put_starts.Goals as goal

pub put_words-past-requires : goal.put_words-past-requires
put_words-past-requires c = (c.requires.0, omega (arith, starts-length (symbols_in c.args.symbols.now.words.now c.args.symbols.now.n) (card_view c.args.c c.args.s.now), words-length (symbols_in c.args.symbols.now.words.now c.args.symbols.now.n) (card_view c.args.c c.args.s.now), c.requires.2))

pub bounds-draft-end : goal.bounds-draft-end
bounds-draft-end c = omega (arith, starts-length (symbols_in c.args.symbols.now.words.now c.args.symbols.now.n) (card_view c.args.c c.args.s.now), words-length (symbols_in c.args.symbols.now.words.now c.args.symbols.now.n) (card_view c.args.c c.args.s.now), c.requires.2, c.put_words-past.ensures.same, fresh-words (symbols_in c.args.symbols.now.words.now c.args.symbols.now.n) (card_view c.args.c c.args.s.now) (sym c.is_fresh.ensures ∙ c.if-is_fresh.true))

pub returns-then-is_fresh : goal.returns-then-is_fresh
unfolding starts_in if
returns-then-is_fresh c = rw (sym c.is_fresh.ensures ∙ c.if-is_fresh.true) (zeroed _ _ _ _ _ c.put_words-past.ensures (fresh-words (symbols_in c.args.symbols.now.words.now c.args.symbols.now.n) (card_view c.args.c c.args.s.now) (sym c.is_fresh.ensures ∙ c.if-is_fresh.true)) (omega (arith, starts-length (symbols_in c.args.symbols.now.words.now c.args.symbols.now.n) (card_view c.args.c c.args.s.now), words-length (symbols_in c.args.symbols.now.words.now c.args.symbols.now.n) (card_view c.args.c c.args.s.now), c.requires.2, c.put_words-past.ensures.past)))

pub returns-else-is_fresh : goal.returns-else-is_fresh
unfolding starts_in if
returns-else-is_fresh c = rw (sym c.is_fresh.ensures ∙ c.if-is_fresh.false) c.put_words-past.ensures
