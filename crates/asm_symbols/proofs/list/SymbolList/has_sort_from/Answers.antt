-- `asm_symbols::list::SymbolList::has_sort_from`: a field of the sort is found before the end.
use mathlib.Core.Path.{◌∙◌, ap, sym}
use Rattle.asm_symbols.specs.Walk.{named_from, some}
use Rattle.asm_symbols.proofs.Places.{has-sort, some_at}
use Rattle.asm_symbols.proofs.list.SymbolList.has_sort_from.Goals as goal

pub returns : goal.returns
returns c =
    let xs = c.args.self.now.words.now in
    let e = c.next_of.ensures in
    some_at xs c.args.self.now.n c.args.k c.next_of.result e.inside e.here ∙ sym (has-sort c.args.sort c.requires.1 (named_from xs c.args.self.now.n c.args.from c.args.k) ∙ ap some e.same)
