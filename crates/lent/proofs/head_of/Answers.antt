-- `lent::head_of` meets its contract: word by word.
use Rattle.lent.proofs.head_of.Goals as goal

pub returns : goal.returns
returns c = rw (c.bit.ensures, c.bit-2.ensures)
