-- `assembler::finish_indexed` meets its contract: the index is made of the list.
use Rattle.assembler.proofs.finish_indexed.Goals as goal

pub finish-requires : goal.finish-requires
finish-requires c = (c.requires.0, c.requires.1, c.requires.2, c.requires.3, c.number_index-numbers.ensures)

pub returns : goal.returns
returns c = c.finish.ensures
