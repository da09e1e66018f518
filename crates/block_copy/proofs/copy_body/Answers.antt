use native.Mathlib.Omega.{arith}
use Prim.Native.Nat.{◌+◌, ◌*◌, ◌/◌, ◌%◌}
use mathlib.Core.Path.{refl, sym, ◌∙◌}
use Rattle.block_copy.proofs.Four.{same-counts}
use Rattle.block_copy.proofs.Whole.{words-at}
use Rattle.block_copy.proofs.copy_body.Goals as goal

pub returns-then-r-eq0 : goal.returns-then-r-eq0
returns-then-r-eq0 c = c.copy_words.ensures ∙ rw (c.index-f.ensures, c.index-g.ensures, c.index.ensures) (sym (words-at c.args.n c.args.from c.args.to c.args.m.now (λ j. (c.slice_known-1.given j).fits) c.if-r-eq0.true c.requires.2 c.requires.1))

pub merge_words-requires : goal.merge_words-requires
merge_words-requires c = (omega arith, omega arith, omega arith, omega arith, λ e. omega (arith, e, c.requires.3 (omega (arith, e))))

pub returns : goal.returns
returns c = c.merge_words.ensures ∙ rw (c.index-f.ensures, c.index-g.ensures, c.index-2.ensures) (same-counts c.args.m.now {n = 4 * c.args.n} {n' = 4 * c.args.n} {f = 4 * (c.args.from / 4) + c.args.from % 4} {f' = c.args.from} {g = 4 * (c.args.to / 4)} {g' = c.args.to} refl (omega arith) (omega (arith, c.requires.2)))
