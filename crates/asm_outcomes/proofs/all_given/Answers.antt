-- `asm_outcomes::all_given` meets its contract: the third test.
use Rattle.asm_outcomes.specs.Tests.{all_by}
use Rattle.asm_outcomes.proofs.all_given.Goals as goal

pub returns : goal.returns
unfolding all_by
returns c = c.all_pass.ensures
