-- `asm_values::values::entry_value`: each return rewrites with the tests that led there.
use mathlib.Core.Path.{◌∙◌, refl, sym}
use native.Mathlib.Omega.{arith}
use borrow.Author.Tests.{eq-eqb, ne_eqb}
use Rattle.base.specs.Test.{if}
use Rattle.asm_symbols.proofs.Sorts.{is-sort}
use Rattle.asm_values.proofs.values.entry_value.Goals as goal

pub returns-then-p-eq-ENTRY : goal.returns-then-p-eq-ENTRY
unfolding if
returns-then-p-eq-ENTRY c = c.gives.ensures ∙ sym (rw (is-sort 7 c.args.p.sort (omega arith) c.requires.0, eq-eqb 7 c.args.p.sort (sym c.if-p-eq-ENTRY.true)) refl)

pub returns : goal.returns
unfolding if
returns c = rw (is-sort 7 c.args.p.sort (omega arith) c.requires.0, ne_eqb 7 c.args.p.sort (λ e. c.if-p-eq-ENTRY.false (sym e))) refl
