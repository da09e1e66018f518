-- `asm_faults::operands::procedure_declared` meets its contract: another class, or by its label, type and count.
use mathlib.Core.Path.{◌≡◌, refl, sym, ◌∙◌}
use mathlib.Core.Bool.{true, false}
use borrow.Author.Tests.{eq-eqb, ne_eqb}
use Rattle.base.specs.Test.{◌or◌}
use Rattle.ops.specs.Class.{PRC, marks}
use Rattle.language.specs.Operation.{has_class}
use Rattle.language.specs.Fault.{procedure_declared}
use Rattle.asm_types.specs.Views.{operation_view}
use Rattle.asm_operations.proofs.Laws.{has-class}
use Rattle.asm_faults.proofs.operands.procedure_declared.Goals as goal

pub returns-then-class_of-ne-PRC : goal.returns-then-class_of-ne-PRC
unfolding procedure_declared ◌or◌
returns-then-class_of-ne-PRC c =
    let o = operation_view c.args.c.operation in
    let k : has_class (marks PRC) o ≡ false = has-class (marks PRC) o refl ∙ ne_eqb _ 17 (λ e. c.if-class_of-ne-PRC.true (c.class_of.ensures ∙ e)) in
    rw k

pub returns : goal.returns
unfolding procedure_declared ◌or◌
returns c =
    let o = operation_view c.args.c.operation in
    let k : has_class (marks PRC) o ≡ true = has-class (marks PRC) o refl ∙ eq-eqb _ 17 (sym c.class_of.ensures ∙ c.if-class_of-ne-PRC.false) in
    rw (k, ← c.value_at-letter.ensures, ← c.value_at-count.ensures) c.declared_so.ensures
