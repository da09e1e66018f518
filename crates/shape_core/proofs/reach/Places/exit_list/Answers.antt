-- `shape_core::exits::exit_list` meets its contract: each return rewrites with the tests that led there.
use Rattle.shape_core.proofs.Tests.{and_no, and_yes}
use Rattle.shape_core.proofs.Lists.{exits-start, exits-next, exits-done}
use Rattle.rules.specs.Check.{exit_list}
use native.Mathlib.Omega.{arith}
use mathlib.Core.Path.{sym, ◌∙◌}
use Rattle.shape_core.proofs.reach.Places.exit_list.Goals as goal

pub loop-i-init : goal.loop-i-init
loop-i-init c = (omega arith, exits-start _ _ _)

pub returns-then-not-is_exit : goal.returns-then-not-is_exit
unfolding exit_list
returns-then-not-is_exit c = rw (← c.index-k.ensures) (sym (and_no _ _ (c.loop-i.invariant.1 ∙ exits-next c.args.self.now.table.now c.args.p c.index-k.result c.loop-i.i c.loop-i-test.true ∙ and_no _ _ (sym c.is_exit.ensures ∙ c.if-not-is_exit.true))))

pub loop-i-preserved : goal.loop-i-preserved
loop-i-preserved c = (omega arith, c.loop-i.invariant.1 ∙ exits-next c.args.self.now.table.now c.args.p c.index-k.result c.loop-i.i c.loop-i-test.true ∙ and_yes _ _ (sym c.is_exit.ensures ∙ c.if-not-is_exit.false))

pub returns : goal.returns
unfolding exit_list
returns c = rw (← c.index-k.ensures, c.is_exit-2.ensures) (sym (and_yes _ _ (c.loop-i.invariant.1 ∙ exits-done c.args.self.now.table.now c.args.p c.index-k.result c.loop-i.i (omega arith))))
