use mathlib.Core.Path.{◌∙◌}
use Rattle.rules.specs.Operand.{given}
use Rattle.rules.specs.Exec.{combines, changes}
use Rattle.exec_bits.proofs.Laws.{moved_here}
use Rattle.exec_bits.proofs.lsh.Goals as goal

pub returns : goal.returns
unfolding combines changes given
returns c = λ k m. c.put.ensures k c.args.z.now m ∙ rw (c.held-n.ensures m, moved_here _ _ _ c.requires.two, c.register-w.ensures m, c.shift_left.ensures)
