-- `asm_faults::operands::no_surplus` meets its contract: the two counts.
use Rattle.language.specs.Fault.{no_surplus}
use Rattle.asm_faults.proofs.operands.no_surplus.Goals as goal

pub returns : goal.returns
unfolding no_surplus
returns c = rw (c.form_count.ensures, c.format_count.ensures)
