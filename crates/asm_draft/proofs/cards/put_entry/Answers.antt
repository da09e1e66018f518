-- `asm_draft::cards::put_entry` meets its contract: each return rewrites with the test that led there.
use Rattle.language.specs.Image.{entry_in}
use Rattle.asm_draft.proofs.Rows.{entry-long}
use Rattle.asm_draft.proofs.Storing.{untouched}
use Rattle.asm_types.specs.Views.{card_view, symbols_in}
use Rattle.base.specs.Test.{if}
use mathlib.Core.Path.{sym, ◌∙◌}
use native.Mathlib.Omega.{arith}
use Rattle.asm_draft.proofs.cards.put_entry.Goals as goal

pub returns-then-not-holds_place : goal.returns-then-not-holds_place
unfolding entry_in if
returns-then-not-holds_place c = rw (sym (c.holds_place.ensures c.args.s.now) ∙ c.if-not-holds_place.true) (untouched _ _)

pub put_eight-requires : goal.put_eight-requires
put_eight-requires c = omega (arith, entry-long (symbols_in c.args.symbols.now.words.now c.args.symbols.now.n) (card_view c.args.c c.args.s.now) (sym (c.holds_place.ensures c.args.s.now) ∙ c.if-not-holds_place.false), c.requires.1)

pub returns : goal.returns
unfolding entry_in if
returns c = rw (sym (c.holds_place.ensures c.args.s.now) ∙ c.if-not-holds_place.false, ← c.entry_by-ws.ensures) c.put_eight.ensures
