-- `entries::fields::operands_ok` meets its contract: each return rewrites with the tests that led there.
use Rattle.entries.specs.Coded.{fields_by}
use Rattle.rules.specs.Table.{field}
use Rattle.base.specs.Test.{◌and◌}
use mathlib.Core.Path.{refl}
use Rattle.entries.proofs.fields.operands_ok.Goals as goal

pub returns-then-not-operand_ok : goal.returns-then-not-operand_ok
unfolding fields_by field ◌and◌
returns-then-not-operand_ok c = rw (← c.operand_ok.ensures, c.if-not-operand_ok.true) refl

pub returns-then-not-operand_ok-2 : goal.returns-then-not-operand_ok-2
unfolding fields_by field ◌and◌
returns-then-not-operand_ok-2 c = rw (← c.operand_ok.ensures, c.if-not-operand_ok.false, ← c.operand_ok-2.ensures, c.if-not-operand_ok-2.true) refl

pub returns : goal.returns
unfolding fields_by field ◌and◌
returns c = rw (← c.operand_ok.ensures, c.if-not-operand_ok.false, ← c.operand_ok-2.ensures, c.if-not-operand_ok-2.false) c.third_ok.ensures
