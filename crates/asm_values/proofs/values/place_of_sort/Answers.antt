-- `asm_values::values::place_of_sort`: each return rewrites with the tests that led there.
use mathlib.Core.Path.{◌∙◌, refl, sym}
use borrow.Author.Tests.{eq-eqb, ne_eqb}
use Rattle.base.specs.Test.{if}
use Rattle.asm_symbols.proofs.Sorts.{is-sort}
use Rattle.asm_values.proofs.values.place_of_sort.Goals as goal

pub returns-then-p-sort : goal.returns-then-p-sort
unfolding if
returns-then-p-sort c = c.gives.ensures ∙ sym (rw (is-sort c.args.sort c.args.p.sort c.requires.2 c.requires.0, eq-eqb c.args.sort c.args.p.sort (sym c.if-p-sort.true)) refl)

pub returns : goal.returns
unfolding if
returns c = rw (is-sort c.args.sort c.args.p.sort c.requires.2 c.requires.0, ne_eqb c.args.sort c.args.p.sort (λ e. c.if-p-sort.false (sym e))) refl
