-- `asm_text::within` meets its contract: each return rewrites with the tests that led there.
use mathlib.Core.Path.{refl}
use borrow.Author.Tests.{le-leb, lt-leb}
use Rattle.base.specs.Test.{◌and◌}
use Rattle.language.specs.Text.{between}
use Rattle.asm_text.proofs.within.Goals as goal

pub returns-then-b-lo : goal.returns-then-b-lo
unfolding between ◌and◌
returns-then-b-lo c = rw (lt-leb _ _ c.if-b-lo.true) refl

pub returns : goal.returns
unfolding between ◌and◌
returns c = rw (le-leb _ _ c.if-b-lo.false) refl
