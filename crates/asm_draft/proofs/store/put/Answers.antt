-- `asm_draft::store::put` meets its contract: one store.
use Rattle.asm_draft.proofs.Storing.{stored}
use Rattle.asm_draft.proofs.store.put.Goals as goal

pub returns : goal.returns
returns c = stored _ _ _ c.requires
