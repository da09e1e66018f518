-- `lent::links_of` meets its contract: the words behind the count are copied.
use Rattle.lent.proofs.links_of.Goals as goal

pub returns : goal.returns
returns c = c.copy_from_slice.ensures.after
