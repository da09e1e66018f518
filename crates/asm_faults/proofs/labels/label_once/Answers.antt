-- `asm_faults::labels::label_once` meets its contract: no label, or one use by its sort.
use mathlib.Core.Path.{ap, ◌∙◌}
use borrow.Author.Tests.{eq-eqb, ne_eqb}
use Rattle.base.specs.Test.{◌or◌}
use Rattle.language.specs.Symbol.{above, fields_named, is_one_use}
use Rattle.language.specs.Fault.{is_labelled, label_once}
use Rattle.asm_types.specs.Views.{symbols_in}
use Rattle.asm_faults.proofs.labels.label_once.Goals as goal

pub returns-then-c-eq0 : goal.returns-then-c-eq0
unfolding label_once is_labelled ◌or◌
returns-then-c-eq0 c = λ l. rw (eq-eqb _ 0 c.if-c-eq0.true)

pub returns : goal.returns
unfolding label_once is_labelled ◌or◌
returns c =
    λ l. rw (ne_eqb _ 0 c.if-c-eq0.false)
    (c.is_one_use.ensures ∙ ap (is_one_use (above c.args.c.spot.line (fields_named c.args.c.label (symbols_in c.args.symbols.now.words.now c.args.symbols.now.n)))) c.sort_of-sort.ensures.0)
