-- `assembler::finish::is_within` meets its contract: four tests in their order.
use lib.Dec.{leb}
use Prim.Native.Nat.{ℕ, ◌<◌, ◌≤◌}
use Rattle.language.specs.Answer.{is_within}
use Rattle.shape_core.proofs.Tests.{and_no, and_yes}
use borrow.Author.Tests.{le-leb, lt-leb}
use native.Mathlib.Omega.{arith}
use mathlib.Core.Path.{ap, sym, ◌∙◌}
use Rattle.assembler.proofs.finish.is_within.Goals as goal

pub returns-then-index-gt-MAX_INSTRS : goal.returns-then-index-gt-MAX_INSTRS
unfolding is_within
returns-then-index-gt-MAX_INSTRS c =
    let k = c.args.c.now in
    let a : 1024 < k.counts.size = omega (arith, c.index.ensures, c.if-index-gt-MAX_INSTRS.true) in
    sym (and_no _ _ (lt-leb k.counts.size 1024 a))

pub returns-then-c-gt-MAX_LABELS : goal.returns-then-c-gt-MAX_LABELS
unfolding is_within
returns-then-c-gt-MAX_LABELS c =
    let k = c.args.c.now in
    let a : k.counts.size ≤ 1024 = omega (arith, c.index.ensures, c.if-index-gt-MAX_INSTRS.false) in
    sym (and_yes _ _ (le-leb k.counts.size 1024 a) ∙ and_no _ _ (lt-leb k.labels 512 c.if-c-gt-MAX_LABELS.true))

pub returns-then-index-gt-MAX_FRESH : goal.returns-then-index-gt-MAX_FRESH
unfolding is_within
returns-then-index-gt-MAX_FRESH c =
    let k = c.args.c.now in
    let a : k.counts.size ≤ 1024 = omega (arith, c.index.ensures, c.if-index-gt-MAX_INSTRS.false) in
    let d : 32 < k.counts.fresh = omega (arith, c.index-2.ensures, c.if-index-gt-MAX_FRESH.true) in
    sym (and_yes _ _ (le-leb k.counts.size 1024 a) ∙ and_yes _ _ (le-leb k.labels 512 c.if-c-gt-MAX_LABELS.false) ∙ and_no _ _ (lt-leb k.counts.fresh 32 d))

pub returns : goal.returns
unfolding is_within
returns c =
    let k = c.args.c.now in
    let a : k.counts.size ≤ 1024 = omega (arith, c.index.ensures, c.if-index-gt-MAX_INSTRS.false) in
    let d : k.counts.fresh ≤ 32 = omega (arith, c.index-2.ensures, c.if-index-gt-MAX_FRESH.false) in
    ap (λ (m : ℕ). leb m 8128) c.sum.ensures
    ∙ sym (and_yes _ _ (le-leb k.counts.size 1024 a) ∙ and_yes _ _ (le-leb k.labels 512 c.if-c-gt-MAX_LABELS.false) ∙ and_yes _ _ (le-leb k.counts.fresh 32 d))
