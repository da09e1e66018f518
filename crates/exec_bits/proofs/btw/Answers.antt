use mathlib.Core.Path.{◌∙◌}
use Rattle.rules.specs.Operand.{given}
use Rattle.rules.specs.Exec.{changes}
use Rattle.exec_bits.proofs.btw.Goals as goal

pub returns : goal.returns
unfolding changes given
returns c = λ k m. c.put.ensures k c.args.z.now m ∙ rw (c.register-w.ensures m, c.btw.ensures)
