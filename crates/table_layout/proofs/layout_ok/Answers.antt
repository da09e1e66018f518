-- `table_layout::layout_ok` meets its contract: each part is what its function answers.
-- `table_layout::layout_ok` meets its contract: each part is what its function answers.
use borrow.Author.Tests.{eq-eqb, ne_eqb}
use Rattle.table_layout.proofs.Sizes.{short-fails, limited, laid}
use Rattle.rules.specs.Table.{constants, fresh_count, externals}
use Rattle.rules.specs.Check.{layout_ok}
use Rattle.base.specs.Test.{◌and◌}
use borrow.Author.Tests.{eq-eqb, ne_eqb}
use native.Mathlib.Omega.{arith}
use mathlib.Core.Path.{refl, sym, ◌∙◌}
use Rattle.table_layout.proofs.layout_ok.Goals as goal

pub returns-then-table-lt-HEADER : goal.returns-then-table-lt-HEADER
returns-then-table-lt-HEADER c = short-fails c.args.table.now c.if-table-lt-HEADER.true

pub returns-then-not-limits_ok : goal.returns-then-not-limits_ok
unfolding layout_ok ◌and◌
returns-then-not-limits_ok c = rw (← c.limits_ok.ensures, c.if-not-limits_ok.true) refl

pub table_length-requires : goal.table_length-requires
table_length-requires c = limited c.args.table.now (omega arith) (sym c.limits_ok.ensures ∙ c.if-not-limits_ok.false)

pub returns-then-table-table_length : goal.returns-then-table-table_length
unfolding layout_ok ◌and◌
returns-then-table-table_length c = rw (← c.limits_ok.ensures, c.if-not-limits_ok.false, ← c.table_length.ensures, ne_eqb _ _ c.if-table-table_length.true) refl

pub returns-then-not-sections_ok : goal.returns-then-not-sections_ok
unfolding layout_ok ◌and◌
returns-then-not-sections_ok c = rw (← c.limits_ok.ensures, c.if-not-limits_ok.false, ← c.table_length.ensures, eq-eqb _ _ c.if-table-table_length.false, ← c.sections_ok.ensures, c.if-not-sections_ok.true) refl

pub fresh_ok-requires : goal.fresh_ok-requires
fresh_ok-requires c = laid c.args.table.now (limited c.args.table.now (omega arith) (sym c.limits_ok.ensures ∙ c.if-not-limits_ok.false)) (c.if-table-table_length.false ∙ c.table_length.ensures)

pub returns-then-not-fresh_ok : goal.returns-then-not-fresh_ok
unfolding layout_ok constants fresh_count ◌and◌
returns-then-not-fresh_ok c = rw (← c.limits_ok.ensures, c.if-not-limits_ok.false, ← c.table_length.ensures, eq-eqb _ _ c.if-table-table_length.false, ← c.sections_ok.ensures, c.if-not-sections_ok.false, ← c.fresh_ok.ensures, c.if-not-fresh_ok.true) refl

pub counts_ok-requires : goal.counts_ok-requires
counts_ok-requires c = laid c.args.table.now (limited c.args.table.now (omega arith) (sym c.limits_ok.ensures ∙ c.if-not-limits_ok.false)) (c.if-table-table_length.false ∙ c.table_length.ensures)

pub returns : goal.returns
unfolding layout_ok constants fresh_count externals ◌and◌
returns c = rw (← c.limits_ok.ensures, c.if-not-limits_ok.false, ← c.table_length.ensures, eq-eqb _ _ c.if-table-table_length.false, ← c.sections_ok.ensures, c.if-not-sections_ok.false, ← c.fresh_ok.ensures, c.if-not-fresh_ok.false) c.counts_ok.ensures
