-- `asm_symbols::list::SymbolList::has_sort`: the walk starts at the first symbol.
use mathlib.Core.Path.{◌∙◌, ap}
use Rattle.language.specs.Symbol.{has_sort}
use Rattle.asm_types.specs.Views.{sort_at}
use Rattle.asm_symbols.proofs.Walks.{named-all}
use Rattle.asm_symbols.proofs.list.SymbolList.has_sort.Goals as goal

pub returns : goal.returns
returns c = c.has_sort_from.ensures ∙ ap (has_sort (sort_at c.args.sort)) (named-all c.args.self.now.words.now c.args.self.now.n c.args.k)
