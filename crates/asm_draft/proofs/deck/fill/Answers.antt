-- `asm_draft::deck::fill` meets its contract: the five parts (proofs/Drafting).
use Rattle.asm_draft.proofs.Drafting.{counts-room, drafted, entries-room, fresh-room, starts-room}
use Rattle.asm_types.specs.Views.{symbols_in}
use Rattle.asm_draft.proofs.deck.fill.Goals as goal

pub pass-fresh-requires : goal.pass-fresh-requires
pass-fresh-requires c = (c.requires.0, c.requires.1, entries-room (symbols_in c.args.symbols.now.words.now c.args.symbols.now.n) c.args.text.now c.requires.1 _ c.requires.3 _ c.requires.2 _ _ c.put_eight-entries.ensures)

pub pass-counts-requires : goal.pass-counts-requires
pass-counts-requires c = (c.requires.0, c.requires.1, fresh-room (symbols_in c.args.symbols.now.words.now c.args.symbols.now.n) c.args.text.now c.requires.1 _ c.requires.3 _ c.requires.2 _ _ c.put_eight-entries.ensures _ _ c.pass-fresh.ensures)

pub pass-starts-requires : goal.pass-starts-requires
pass-starts-requires c = (c.requires.0, c.requires.1, counts-room (symbols_in c.args.symbols.now.words.now c.args.symbols.now.n) c.args.text.now c.requires.1 _ c.requires.3 _ c.requires.2 _ _ c.put_eight-entries.ensures _ _ c.pass-fresh.ensures _ _ c.pass-counts.ensures)

pub pass-requires : goal.pass-requires
pass-requires c = (c.requires.0, c.requires.1, starts-room (symbols_in c.args.symbols.now.words.now c.args.symbols.now.n) c.args.text.now c.requires.1 _ c.requires.3 _ c.requires.2 _ _ c.put_eight-entries.ensures _ _ c.pass-fresh.ensures _ _ c.pass-counts.ensures _ _ c.pass-starts.ensures)

pub returns : goal.returns
returns c = drafted (symbols_in c.args.symbols.now.words.now c.args.symbols.now.n) c.args.text.now c.requires.1 _ c.requires.3 _ c.requires.2 _ _ c.put_eight-entries.ensures _ _ c.pass-fresh.ensures _ _ c.pass-counts.ensures _ _ c.pass-starts.ensures _ _ c.pass.ensures
