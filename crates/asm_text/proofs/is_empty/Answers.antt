-- `asm_text::is_empty` meets its contract: each return rewrites with the tests that led there.
use mathlib.Core.Path.{◌≡◌, refl, ◌∙◌}
use native.Mathlib.Omega.{arith}
use borrow.Author.Tests.{eq-eqb, ne_eqb}
use lib.ListN.{length}
use Rattle.base.specs.Test.{◌or◌}
use Rattle.language.specs.Text.{is_blank, is_empty, span}
use Rattle.asm_text.proofs.Slices.{all-span}
use Rattle.asm_text.proofs.is_empty.Goals as goal

pub returns-then-past_blanks-s : goal.returns-then-past_blanks-s
unfolding is_empty ◌or◌
returns-then-past_blanks-s c =
    let s = c.args.s.now in
    rw (all-span is_blank s, eq-eqb (span is_blank s) (length s) (omega (arith, c.past_blanks.ensures.0, c.if-past_blanks-s.true))) refl

pub bounds-s-0 : goal.bounds-s-0
bounds-s-0 c = omega (arith, c.past_blanks.ensures.1, c.if-past_blanks-s.false)

pub returns : goal.returns
unfolding is_empty ◌or◌
returns c =
    let s = c.args.s.now in
    let r : c.past_blanks.result ≡ span is_blank s = omega (arith, c.past_blanks.ensures.0) in
    rw (all-span is_blank s, ne_eqb (span is_blank s) (length s) (λ e. c.if-past_blanks-s.false (r ∙ e))) refl
