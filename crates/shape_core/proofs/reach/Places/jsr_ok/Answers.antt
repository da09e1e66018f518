-- `shape_core::exits::jsr_ok` meets its contract: each return rewrites with the tests that led there.
use Rattle.shape_core.proofs.Lists.{jsr-unnamed, jsr-unlisted, jsr-listed}
use mathlib.Core.Path.{sym, ◌∙◌}
use Rattle.shape_core.proofs.reach.Places.jsr_ok.Goals as goal

pub returns-in_default : goal.returns-in_default
returns-in_default c = jsr-unnamed c.args.self.now.table.now c.args.p (sym c.exits_of.ensures ∙ c.in_default.is)

pub returns-then-not-exit_list : goal.returns-then-not-exit_list
returns-then-not-exit_list c = jsr-unlisted c.args.self.now.table.now c.args.p c.in-Some.k (sym c.exits_of.ensures ∙ c.in-Some.is) (sym c.exit_list.ensures ∙ c.if-not-exit_list.true)

pub returns : goal.returns
returns c = c.reaches.ensures ∙ rw c.index.ensures (jsr-listed c.args.self.now.table.now c.args.p c.in-Some.k (sym c.exits_of.ensures ∙ c.in-Some.is) (sym c.exit_list.ensures ∙ c.if-not-exit_list.false))
