-- `lent::state_of` meets its contract: each word in its field.
use Rattle.lent.proofs.state_of.Goals as goal

pub returns : goal.returns
returns c = rw c.links_of-links.ensures
