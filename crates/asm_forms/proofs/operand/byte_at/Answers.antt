-- `asm_forms::operand::byte_at` meets its contract: each return rewrites with the tests that led there.
use mathlib.Core.Path.{sym}
use lib.ListN.{get_or-eq_default}
use Rattle.asm_forms.proofs.operand.byte_at.Goals as goal

pub returns : goal.returns
returns c = sym (get_or-eq_default c.args.s.now 0 c.if-i-s.false)
