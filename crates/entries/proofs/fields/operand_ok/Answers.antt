-- `entries::fields::operand_ok` meets its contract: each return rewrites with the tests that led there.
use Rattle.entries.specs.Coded.{operand_by}
use Rattle.base.specs.Test.{◌and◌}
use mathlib.Core.Path.{refl}
use Rattle.entries.proofs.fields.operand_ok.Goals as goal

pub returns-then-not-takes : goal.returns-then-not-takes
unfolding operand_by ◌and◌
returns-then-not-takes c = rw (← c.takes.ensures, c.if-not-takes.true) refl

pub returns-then-not-register_ok : goal.returns-then-not-register_ok
unfolding operand_by ◌and◌
returns-then-not-register_ok c = rw (← c.takes.ensures, c.if-not-takes.false, ← c.register_ok.ensures, c.if-not-register_ok.true) refl

pub returns : goal.returns
unfolding operand_by ◌and◌
returns c = rw (← c.takes.ensures, c.if-not-takes.false, ← c.register_ok.ensures, c.if-not-register_ok.false) c.value_ok.ensures
