-- `asm_operations::names::find_within` meets its contract: the look-up in that part.
use Rattle.asm_operations.proofs.names.find_within.Goals as goal

pub returns : goal.returns
returns c = c.find_letters_in.ensures
