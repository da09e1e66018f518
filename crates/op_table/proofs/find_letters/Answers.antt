-- What the look-up answers in a list that is the one table.
use Rattle.op_lookup.proofs.Letters.{answers_of}
use Rattle.op_table.proofs.find_letters.Goals as goal

pub returns : goal.returns
returns c = answers_of _ c.rows-rows.ensures _ _ _ _ c.find_letters_in.ensures
