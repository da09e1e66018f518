use native.Mathlib.Omega.{arith}
use Rattle.exec_calls.proofs.Called.{jsr-waits, jsr-full, jsr-few, jsr-opens}
use Rattle.exec_calls.proofs.jsr.Goals as goal

pub returns-then-t-b-eq-EXTERNAL_KIND : goal.returns-then-t-b-eq-EXTERNAL_KIND
returns-then-t-b-eq-EXTERNAL_KIND c = jsr-waits c.requires.0 c.requires.1 c.if-t-b-eq-EXTERNAL_KIND.true

pub returns-then-k-ge-MAX_LINKS : goal.returns-then-k-ge-MAX_LINKS
returns-then-k-ge-MAX_LINKS c = jsr-full c.requires.0 c.requires.1 c.if-t-b-eq-EXTERNAL_KIND.false (rw c.index-k.ensures at c.if-k-ge-MAX_LINKS.true)

pub overflow_add-result : goal.overflow_add-result
overflow_add-result c = omega (arith, c.index.ensures, jsr-few c.requires.0 c.requires.1 c.if-t-b-eq-EXTERNAL_KIND.false)

pub overflow_mul-result : goal.overflow_mul-result
overflow_mul-result c = omega (arith, c.index.ensures, jsr-few c.requires.0 c.requires.1 c.if-t-b-eq-EXTERNAL_KIND.false)

pub overflow_add-result-2 : goal.overflow_add-result-2
overflow_add-result-2 c = omega (arith, c.index.ensures, jsr-few c.requires.0 c.requires.1 c.if-t-b-eq-EXTERNAL_KIND.false)

pub returns : goal.returns
returns c = jsr-opens c.requires.0 c.requires.1 c.if-t-b-eq-EXTERNAL_KIND.false _ _ c.index-k.ensures c.if-k-ge-MAX_LINKS.false c.index.ensures
