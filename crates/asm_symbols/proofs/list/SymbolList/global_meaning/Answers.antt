-- `asm_symbols::list::SymbolList::global_meaning`: with an INR the place is an RTN, else the first that may carry a label.
use mathlib.Core.Path.{◌∙◌, sym}
use Rattle.asm_symbols.specs.Walk.{named_from}
use Rattle.asm_symbols.proofs.Places.{global-plain, global-routine}
use Rattle.asm_symbols.proofs.list.SymbolList.global_meaning.Goals as goal

pub returns-then-has_sort_from : goal.returns-then-has_sort_from
returns-then-has_sort_from c = (c.place_from.ensures.0 ∙ sym (global-routine (named_from c.args.self.now.words.now c.args.self.now.n c.args.from c.args.k) (sym c.has_sort_from.ensures ∙ c.if-has_sort_from.true)), c.place_from.ensures.1)

pub returns : goal.returns
returns c = (c.place_from-2.ensures.0 ∙ sym (global-plain (named_from c.args.self.now.words.now c.args.self.now.n c.args.from c.args.k) (sym c.has_sort_from.ensures ∙ c.if-has_sort_from.false)), c.place_from-2.ensures.1)
