-- `table_layout::sections_ok` meets its contract: each return rewrites with the tests that led there.
use Rattle.rules.specs.Table.{size, section4, section5, section6}
use Rattle.rules.specs.Check.{sections_ok}
use Rattle.base.specs.Test.{◌and◌}
use borrow.Author.Tests.{eq-eqb, ne_eqb, lt-ltb, le-ltb}
use lib.ListN.{get_or}
use native.Mathlib.Omega.{arith}
use mathlib.Core.Path.{refl}
use Rattle.table_layout.proofs.sections_ok.Goals as goal

pub returns-then-table-ne0 : goal.returns-then-table-ne0
unfolding sections_ok section4 ◌and◌
returns-then-table-ne0 c = rw (ne_eqb _ _ c.if-table-ne0.true) refl

pub returns-then-table-eq0 : goal.returns-then-table-eq0
unfolding sections_ok section4 section5 ◌and◌
returns-then-table-eq0 c = rw (eq-eqb _ _ c.if-table-ne0.false, c.if-table-eq0.true) refl

pub returns-then-table : goal.returns-then-table
unfolding sections_ok section4 section5 section6 ◌and◌
returns-then-table c =
    let t = c.args.table.now in
    rw (eq-eqb _ _ c.if-table-ne0.false, lt-ltb 0 (get_or t 6 0) (omega (arith, c.if-table-eq0.false)), le-ltb _ _ c.if-table.true) refl

pub returns : goal.returns
unfolding sections_ok section4 section5 section6 size ◌and◌
returns c =
    let t = c.args.table.now in
    rw (eq-eqb _ _ c.if-table-ne0.false, lt-ltb 0 (get_or t 6 0) (omega (arith, c.if-table-eq0.false)), lt-ltb _ _ c.if-table.false) refl
