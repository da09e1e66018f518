-- `asm_collect::numbers::counted` meets its contract: each count by its function.
use native.Mathlib.Omega.{arith}
use Rattle.asm_collect.specs.Tally.{tallied}
use Rattle.asm_collect.proofs.numbers.counted.Goals as goal

pub overflow_add-result-3 : goal.overflow_add-result-3
overflow_add-result-3 c = omega (arith, c.requires.0.words_le, c.words_in-workings.ensures.1, c.requires.1)

pub overflow_add-result-4 : goal.overflow_add-result-4
overflow_add-result-4 c = omega (arith, c.requires.0.fresh_le, c.one-fresh.ensures.1)

pub overflow_add-result-5 : goal.overflow_add-result-5
overflow_add-result-5 c = omega (arith, c.requires.0.externals_le, c.one-externals.ensures.1)

pub overflow_add-result-6 : goal.overflow_add-result-6
overflow_add-result-6 c = omega (arith, c.requires.0.section5_le, c.one-below5.ensures.1)

pub overflow_add-result-7 : goal.overflow_add-result-7
overflow_add-result-7 c = omega (arith, c.requires.0.section6_le, c.one-below6.ensures.1)

pub returns : goal.returns
unfolding tallied
returns c = let s = c.args.s.now in rw (c.one-places.ensures.0, c.holds_place.ensures s, c.words_in-constants.ensures.0, c.words_in-workings.ensures.0, c.one-fresh.ensures.0, c.is_fresh.ensures, c.one-externals.ensures.0, c.is_external.ensures s, c.one-below5.ensures.0, c.is_below.ensures s, c.one-below6.ensures.0, c.is_below-2.ensures s, c.closed_by.ensures s)
