-- `assembler::finish::finish` meets its contract: the refusals in their order, and the table is written only by the last call.
use Rattle.assembler.proofs.Tables.{entries-are, judged-by, laid-is, short-table, size_is}
use Rattle.assembler.proofs.Endings.{broken-ends, done-ends, incomplete-ends, over-ends, short-ends}
use native.Mathlib.Omega.{arith}
use mathlib.Core.Path.{refl, ◌∙◌}
use Rattle.std.proofs.lemmas.Result.{err_from_is_err_and}
use Rattle.assembler.proofs.finish.finish.Goals as goal

pub classes_of-requires : goal.classes_of-requires
classes_of-requires c =
    (laid-is _ _ _ _ c.requires.1, c.requires.0, c.index-size.ensures ∙ size_is _ _ _ _ c.requires.1, omega (arith, c.index-size.ensures, c.requires.1.collected.size_le, c.requires.2), c.requires.4)

pub bodies-requires : goal.bodies-requires
bodies-requires c =
    (entries-are _ _ _ _ c.requires.1 _ c.index-size.ensures, omega (arith, c.index-size.ensures, c.requires.1.collected.size_le, c.requires.3))

pub judge-requires : goal.judge-requires
judge-requires c =
    (c.requires.0, judged-by _ _ _ _ c.requires.1 _ c.index-size.ensures _ _ (omega (arith, c.index-size.ensures, c.requires.1.collected.size_le, c.requires.2, c.classes_of.auto.classes)) c.classes_of.ensures c.bodies.ensures, c.requires.4)

pub returns-in_err-judge : goal.returns-in_err-judge
returns-in_err-judge c =
    let p = err_from_is_err_and c.from_residual.result c.from_residual.ensures.1 in
    rw (p.1, p.2) (broken-ends _ _ _ _ _ c.requires.1 _ c.in_err-judge.ensures _ refl)

pub is_complete-requires : goal.is_complete-requires
is_complete-requires c = (laid-is _ _ _ _ c.requires.1).limits.header

pub returns-then-not-is_complete : goal.returns-then-not-is_complete
returns-then-not-is_complete c =
    incomplete-ends _ _ _ _ _ c.requires.1 _ c.in_ok-judge.ensures refl _ c.is_complete.ensures c.if-not-is_complete.true

pub returns-then-not-is_within : goal.returns-then-not-is_within
returns-then-not-is_within c =
    over-ends _ _ _ _ _ c.requires.1 _ c.in_ok-judge.ensures refl _ c.is_complete.ensures c.if-not-is_complete.false _
    c.is_within.ensures c.if-not-is_within.true

pub returns-then-not-is_placed : goal.returns-then-not-is_placed
returns-then-not-is_placed c =
    short-ends _ _ _ _ _ c.requires.1 _ c.in_ok-judge.ensures refl _ c.is_complete.ensures c.if-not-is_complete.false _
    c.is_within.ensures c.if-not-is_within.false _ _ c.is_placed.ensures c.if-not-is_placed.true

pub overflow_cast-result : goal.overflow_cast-result
overflow_cast-result c = omega (arith, short-table _ _ _ _ c.requires.1)

pub returns : goal.returns
returns c =
    done-ends _ _ _ _ _ c.requires.1 _ c.in_ok-judge.ensures refl _ c.is_complete.ensures c.if-not-is_complete.false _
    c.is_within.ensures c.if-not-is_within.false _ _ c.is_placed.ensures c.if-not-is_placed.false
