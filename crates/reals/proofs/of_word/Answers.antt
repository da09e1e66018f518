-- `reals::of_word` meets its contract: a word's signed value is a float without rounding.
use mathlib.Core.Path.{◌≡◌, sym, ap, subst, ◌∙◌}
use lib.Dec.{T}
use lib.IntN.{ℤ}
use lib.Ieee.{binary64, in_float, of_int}
use mir.Syntax.{w64}
use mir.Val.{to_z, of_z}
use mir.Facts.{to_z-of_z}
use Rattle.words.specs.Words.{signed}
use Rattle.real_rules.specs.Real.{value}
use Rattle.real_rules.proofs.Laws.{in-float}
use Rattle.reals.proofs.of_word.Goals as goal

pub int_to_float-result : goal.int_to_float-result
int_to_float-result c =
    let whole : to_z w64 (of_z w64 c.signed.result) ≡ signed c.args.w = to_z-of_z {w = w64} (record { sfits = c.signed.type_inv }) ∙ c.signed.ensures in
    subst (λ (n : ℤ). T (in_float binary64 n)) (sym whole) (in-float _ c.ranges.w.fits)

pub returns : goal.returns
returns c =
    let whole : to_z w64 (of_z w64 c.signed.result) ≡ signed c.args.w = to_z-of_z {w = w64} (record { sfits = c.signed.type_inv }) ∙ c.signed.ensures in
    ap (λ (n : ℤ). value (of_int binary64 n)) whole
