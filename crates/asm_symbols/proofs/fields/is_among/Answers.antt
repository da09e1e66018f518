-- `asm_symbols::fields::is_among`: each return rewrites with the tests that led there.
use mathlib.Core.Path.{refl}
use borrow.Author.Tests.{le-leb, lt-leb}
use Rattle.base.specs.Test.{◌and◌}
use Rattle.asm_symbols.specs.Walk.{among}
use Rattle.asm_symbols.proofs.fields.is_among.Goals as goal

pub returns-then-x-lo : goal.returns-then-x-lo
unfolding among ◌and◌
returns-then-x-lo c = rw (lt-leb _ _ c.if-x-lo.true) refl

pub returns : goal.returns
unfolding among ◌and◌
returns c = rw (le-leb _ _ c.if-x-lo.false) refl
