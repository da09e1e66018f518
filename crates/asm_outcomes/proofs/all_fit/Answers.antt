-- `asm_outcomes::all_fit` meets its contract: the first test.
use Rattle.asm_outcomes.specs.Tests.{all_by}
use Rattle.asm_outcomes.proofs.all_fit.Goals as goal

pub returns : goal.returns
unfolding all_by
returns c = c.all_pass.ensures
