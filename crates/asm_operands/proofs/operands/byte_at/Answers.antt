-- `asm_operands::operands::byte_at`: past the end a list has 0.
use mathlib.Core.Path.{sym}
use lib.ListN.{get_or-eq_default}
use Rattle.asm_operands.proofs.operands.byte_at.Goals as goal

pub returns : goal.returns
returns c = sym (get_or-eq_default c.args.s.now 0 c.if-i-s.false)
