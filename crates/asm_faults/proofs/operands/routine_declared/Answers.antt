-- `asm_faults::operands::routine_declared` meets its contract: another class, or by its label.
use mathlib.Core.Path.{◌≡◌, refl, sym, ◌∙◌}
use mathlib.Core.Bool.{true, false}
use borrow.Author.Tests.{eq-eqb, ne_eqb}
use Rattle.base.specs.Test.{◌or◌}
use Rattle.ops.specs.Class.{RTN, executes}
use Rattle.language.specs.Operation.{has_class}
use Rattle.language.specs.Fault.{routine_declared}
use Rattle.asm_types.specs.Views.{operation_view}
use Rattle.asm_operations.proofs.Laws.{has-class}
use Rattle.asm_faults.proofs.operands.routine_declared.Goals as goal

pub returns-then-class_of-ne-RTN : goal.returns-then-class_of-ne-RTN
unfolding routine_declared ◌or◌
returns-then-class_of-ne-RTN c =
    let o = operation_view c.args.c.operation in
    let k : has_class (executes RTN) o ≡ false = has-class (executes RTN) o refl ∙ ne_eqb _ 7 (λ e. c.if-class_of-ne-RTN.true (c.class_of.ensures ∙ e)) in
    λ l. rw k

pub returns : goal.returns
unfolding routine_declared ◌or◌
returns c =
    let o = operation_view c.args.c.operation in
    let k : has_class (executes RTN) o ≡ true = has-class (executes RTN) o refl ∙ eq-eqb _ 7 (sym c.class_of.ensures ∙ c.if-class_of-ne-RTN.false) in
    λ l. rw k c.has_sort.ensures
