-- `asm_sections::within` meets its contract: each return rewrites with the test that led there.
use Rattle.language.specs.Text.{between}
use Rattle.base.specs.Test.{◌and◌}
use borrow.Author.Tests.{le-leb, lt-leb}
use Rattle.asm_sections.proofs.within.Goals as goal

pub returns-then-x-lo : goal.returns-then-x-lo
unfolding between ◌and◌
returns-then-x-lo c = rw (lt-leb _ _ c.if-x-lo.true)

pub returns : goal.returns
unfolding between ◌and◌
returns c = rw (le-leb _ _ c.if-x-lo.false)
