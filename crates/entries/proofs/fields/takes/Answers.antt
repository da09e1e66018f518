-- `entries::fields::takes` meets its contract: each return rewrites with the tests that led there.
use Rattle.entries.specs.Coded.{takes_kind}
use Rattle.base.specs.Test.{◌and◌}
use borrow.Author.Tests.{lt-ltb, le-ltb}
use mathlib.Core.Path.{refl}
use Rattle.entries.proofs.fields.takes.Goals as goal

pub returns-then-kind-ge-KINDS : goal.returns-then-kind-ge-KINDS
unfolding takes_kind ◌and◌
returns-then-kind-ge-KINDS c = rw (le-ltb _ _ c.if-kind-ge-KINDS.true) refl

pub returns : goal.returns
unfolding takes_kind ◌and◌
returns c = rw (lt-ltb _ _ c.if-kind-ge-KINDS.false) refl
