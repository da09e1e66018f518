-- `asm_operations::formats::count_in` meets its contract: cell after cell, and PRC.
use borrow.Author.Tests.{eq-eqb, ne_eqb}
use Rattle.base.specs.Test.{if}
use Rattle.asm_operations.specs.Codes.{card_count}
use Rattle.asm_operations.proofs.formats.count_in.Goals as goal

pub returns-then-row-eq-NONE : goal.returns-then-row-eq-NONE
unfolding card_count if
returns-then-row-eq-NONE c = rw (eq-eqb _ 0 c.if-row-eq-NONE.true)

pub returns-then-row-eq-PRC : goal.returns-then-row-eq-PRC
unfolding card_count if
returns-then-row-eq-PRC c = rw (ne_eqb _ 0 c.if-row-eq-NONE.false, eq-eqb _ 17 c.if-row-eq-PRC.true)

pub returns-then-row-eq-NONE-2 : goal.returns-then-row-eq-NONE-2
unfolding card_count if
returns-then-row-eq-NONE-2 c =
    let d = c in
    rw (ne_eqb _ 0 d.if-row-eq-NONE.false, ne_eqb _ 17 d.if-row-eq-PRC.false, eq-eqb _ 0 c.if-row-eq-NONE-2.true)

pub returns-then-row-eq-NONE-3 : goal.returns-then-row-eq-NONE-3
unfolding card_count if
returns-then-row-eq-NONE-3 c =
    let e = c in
    let d = e in
    rw (ne_eqb _ 0 d.if-row-eq-NONE.false, ne_eqb _ 17 d.if-row-eq-PRC.false, ne_eqb _ 0 e.if-row-eq-NONE-2.false, eq-eqb _ 0 c.if-row-eq-NONE-3.true)

pub returns : goal.returns
unfolding card_count if
returns c =
    let e = c in
    let d = e in
    rw (ne_eqb _ 0 d.if-row-eq-NONE.false, ne_eqb _ 17 d.if-row-eq-PRC.false, ne_eqb _ 0 e.if-row-eq-NONE-2.false, ne_eqb _ 0 c.if-row-eq-NONE-3.false)
