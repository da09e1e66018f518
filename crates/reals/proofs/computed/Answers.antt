-- `reals::computed` meets its contract: by cases of the operation.
use mathlib.Core.Path.{sym, ap}
use Rattle.reals.specs.declared.Arithmetic.{Arithmetic}
use Rattle.reals.specs.Views.{on_values}
use Rattle.reals.proofs.computed.Goals as goal

pub returns-in-Sum : goal.returns-in-Sum
returns-in-Sum c = sym (ap (λ (o : Arithmetic). on_values o c.args.x c.args.y) c.in-Sum.is)

pub returns-in-Difference : goal.returns-in-Difference
returns-in-Difference c = sym (ap (λ (o : Arithmetic). on_values o c.args.x c.args.y) c.in-Difference.is)

pub returns-in-Product : goal.returns-in-Product
returns-in-Product c = sym (ap (λ (o : Arithmetic). on_values o c.args.x c.args.y) c.in-Product.is)

pub returns-in-Quotient : goal.returns-in-Quotient
returns-in-Quotient c = sym (ap (λ (o : Arithmetic). on_values o c.args.x c.args.y) c.in-Quotient.is)
