-- `entries::fields::entry_ok` meets its contract: each return rewrites with the tests that led there.
use Rattle.entries.specs.Coded.{entry_by}
use Rattle.base.specs.Test.{◌and◌}
use mathlib.Core.Path.{refl}
use Rattle.entries.proofs.fields.entry_ok.Goals as goal

pub returns-then-not-operands_ok : goal.returns-then-not-operands_ok
unfolding entry_by ◌and◌
returns-then-not-operands_ok c = rw (← c.operands_ok.ensures, c.if-not-operands_ok.true) refl

pub returns : goal.returns
unfolding entry_by ◌and◌
returns c = rw (← c.operands_ok.ensures, c.if-not-operands_ok.false) c.apart_at.ensures
