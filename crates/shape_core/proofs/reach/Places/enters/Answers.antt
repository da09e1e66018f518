-- `shape_core::reach::enters` meets its contract: each return rewrites with the tests that led there.
use Rattle.bodies.proofs.Places.{arrives-past}
use Rattle.shape_core.proofs.Codes.{executable-code}
use Rattle.rules.specs.Table.{size}
use Rattle.base.specs.Test.{◌and◌}
use borrow.Author.Tests.{lt-ltb, le-ltb}
use native.Mathlib.Omega.{arith}
use mathlib.Core.Path.{refl}
use Rattle.shape_core.proofs.reach.Places.enters.Goals as goal

pub returns-then-self-q : goal.returns-then-self-q
unfolding ◌and◌ size
returns-then-self-q c = rw (← arrives-past c.args.self.now.table.now c.args.q (omega arith)) refl

pub returns-then-self-q-ge-EXECUTABLE : goal.returns-then-self-q-ge-EXECUTABLE
unfolding ◌and◌
returns-then-self-q-ge-EXECUTABLE c = rw (executable-code c.args.self.now.table.now c.args.q _ (c.args.self.now.known.classes c.args.q (omega arith)), le-ltb _ _ c.if-self-q-ge-EXECUTABLE.true) refl

pub returns : goal.returns
unfolding ◌and◌
returns c = rw (executable-code c.args.self.now.table.now c.args.q _ (c.args.self.now.known.classes c.args.q (omega arith)), lt-ltb _ _ c.if-self-q-ge-EXECUTABLE.false, ← c.args.self.now.known.bodies c.args.q (omega arith)) refl
