use native.Mathlib.Omega.{arith}
use Rattle.block_table.proofs.Table.{bounds, lists-sum}
use Rattle.block_table.proofs.listed_word.Goals as goal

pub listed-requires : goal.listed-requires
listed-requires c = (c.requires.room.0, omega arith)

pub listed-requires-2 : goal.listed-requires-2
listed-requires-2 c = (c.requires.room.1, omega arith)

pub overflow_add-result : goal.overflow_add-result
overflow_add-result c =
    let a = c.args in
    let k = c.requires in
    let b = bounds a.lists.now.ones a.lists.now.twos a.lists.now.threes a.lists.now.fours k a.w in
    omega (arith, b.0, b.1, b.2, b.3, c.listed.ensures, c.listed-2.ensures)

pub listed-requires-3 : goal.listed-requires-3
listed-requires-3 c = (c.requires.room.2, omega arith)

pub overflow_add-result-2 : goal.overflow_add-result-2
overflow_add-result-2 c =
    let a = c.args in
    let k = c.requires in
    let b = bounds a.lists.now.ones a.lists.now.twos a.lists.now.threes a.lists.now.fours k a.w in
    omega (arith, b.0, b.1, b.2, b.3, c.listed.ensures, c.listed-2.ensures, c.listed-3.ensures)

pub listed-requires-4 : goal.listed-requires-4
listed-requires-4 c = (c.requires.room.3, omega arith)

pub overflow_add-result-3 : goal.overflow_add-result-3
overflow_add-result-3 c =
    let a = c.args in
    let k = c.requires in
    let b = bounds a.lists.now.ones a.lists.now.twos a.lists.now.threes a.lists.now.fours k a.w in
    omega (arith, b.0, b.1, b.2, b.3, c.listed.ensures, c.listed-2.ensures, c.listed-3.ensures, c.listed-4.ensures)

pub returns : goal.returns
returns c =
    let a = c.args in
    rw (c.listed.ensures, c.listed-2.ensures, c.listed-3.ensures, c.listed-4.ensures) (lists-sum a.lists.now.ones a.lists.now.twos a.lists.now.threes a.lists.now.fours c.requires a.w)
