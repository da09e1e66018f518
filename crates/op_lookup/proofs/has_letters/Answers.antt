-- One letter after the other.
use borrow.Author.Tests.{eq-eqb, ne_eqb}
use Rattle.base.specs.Test.{◌and◌}
use Rattle.op_lookup.proofs.has_letters.Goals as goal

pub returns-then-row-a : goal.returns-then-row-a
unfolding ◌and◌
returns-then-row-a c = rw (ne_eqb _ _ c.if-row-a.true)

pub returns-then-row-b : goal.returns-then-row-b
unfolding ◌and◌
returns-then-row-b c = rw (eq-eqb _ _ c.if-row-a.false, ne_eqb _ _ c.if-row-b.true)

pub returns : goal.returns
unfolding ◌and◌
returns c = rw (eq-eqb _ _ c.if-row-a.false, eq-eqb _ _ c.if-row-b.false)
