-- `host::cards::torzimlak_assemble` meets its contract: the assembler's, with the answer's number.
use mathlib.Core.Path.{ap, ◌∙◌}
use Rattle.asm_numbers.specs.Numbers.{assembled_number}
use Rattle.host.proofs.cards.torzimlak_assemble.Goals as goal

pub returns : goal.returns
returns c = (c.number_assembled.ensures ∙ ap assembled_number c.assemble-a.ensures.0, c.assemble-a.ensures.1)
