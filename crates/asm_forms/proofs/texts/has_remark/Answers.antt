-- `asm_forms::texts::has_remark` meets its contract: each return rewrites with the tests that led there.
use Prim.Native.Nat.{ℕ, ◌-◌}
use mathlib.Core.Path.{◌≡◌, refl, sym, ap, ◌∙◌}
use native.Mathlib.Omega.{arith}
use lib.ListN.{length, drop, length-drop}
use Rattle.language.specs.Text.{field_of, in_part, span, tail_of}
use Rattle.language.specs.Form.{has_remark}
use Rattle.asm_text.proofs.Slices.{field-part}
use Rattle.asm_forms.proofs.texts.has_remark.Goals as goal

pub returns : goal.returns
unfolding has_remark tail_of
returns c =
    let s = c.args.s.now in
    let v = c.fields_of-f.ensures in
    let a : c.find_byte-comma.result ≡ span in_part (field_of s) = omega (arith, c.find_byte-comma.ensures.0, ap (span in_part) (field-part s _ v)) in
    let b : length s - c.fields_of-f.result.operand_start ≡ length (tail_of s) =
    sym (length-drop c.fields_of-f.result.operand_start s) ∙ ap (λ (k : ℕ). length (drop k s)) v.operand_start_is in
    rw (a, b) refl
