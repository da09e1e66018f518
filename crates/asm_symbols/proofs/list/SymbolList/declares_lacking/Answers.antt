-- `asm_symbols::list::SymbolList::declares_lacking`: the name of a declaration is asked for.
use mathlib.Core.Path.{◌∙◌, ap, refl, sym}
use Rattle.base.specs.Test.{◌and◌}
use Rattle.language.specs.Symbol.{is_lacking}
use Rattle.asm_symbols.specs.Walk.{declares}
use Rattle.asm_symbols.proofs.list.SymbolList.declares_lacking.Goals as goal

pub returns-then-not-is_among : goal.returns-then-not-is_among
unfolding declares ◌and◌
returns-then-not-is_among c = rw (sym c.is_among.ensures ∙ c.if-not-is_among.true) refl

pub returns : goal.returns
unfolding declares ◌and◌
returns c = c.is_lacking.ensures ∙ rw (sym c.is_among.ensures ∙ c.if-not-is_among.false) (ap is_lacking c.meaning.ensures.0)
