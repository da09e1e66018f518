-- `asm_reals::power` meets its contract: the powers of ten as a table.
use Rattle.asm_reals.proofs.Laws.{powers}
use Rattle.asm_reals.proofs.power.Goals as goal

pub returns : goal.returns
returns c = powers _ c.requires
