-- `entries::fields::row_ok` meets its contract: the words of the row's codes.
use mathlib.Core.Path.{◌∙◌}
use Rattle.entries.proofs.fields.row_ok.Goals as goal

pub returns : goal.returns
returns c =
    c.operands_ok.ensures
    ∙ rw (c.code_word.ensures, c.code_word-2.ensures, c.code_word-3.ensures)
