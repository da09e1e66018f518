-- `assembler::shape::is_judged` meets its contract: all operands are given, and the count is known.
use Rattle.language.specs.Fault.{is_judged}
use Rattle.shape_core.proofs.Tests.{and_no, and_yes}
use native.Mathlib.Omega.{arith}
use mathlib.Core.Path.{sym, ◌∙◌}
use Rattle.assembler.proofs.shape.is_judged.Goals as goal

pub returns-then-not-all_given : goal.returns-then-not-all_given
unfolding is_judged
returns-then-not-all_given c cs = sym (and_no _ _ (sym c.all_given.ensures ∙ c.if-not-all_given.true))

pub count_known-requires : goal.count_known-requires
count_known-requires c = omega (arith, c.index-p.ensures, c.requires.1)

pub returns : goal.returns
unfolding is_judged
returns c cs = rw (c.count_known.ensures, c.index-p.ensures) (sym (and_yes _ _ (sym c.all_given.ensures ∙ c.if-not-all_given.false)))
