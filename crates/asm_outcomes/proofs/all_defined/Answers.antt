-- `asm_outcomes::all_defined` meets its contract: the second test.
use Rattle.asm_outcomes.specs.Tests.{all_by}
use Rattle.asm_outcomes.proofs.all_defined.Goals as goal

pub returns : goal.returns
unfolding all_by
returns c = c.all_pass.ensures
