-- `asm_names::later_in_name` meets its contract. Invariant: the test of the bytes from place i on answers for all.
use mathlib.Core.Path.{refl, sym, ◌∙◌}
use Rattle.language.specs.Text.{is_name_byte}
use Rattle.language.proofs.Laws.{all_more, all-out, all-stop}
use Rattle.asm_names.proofs.later_in_name.Goals as goal

pub loop-i-init : goal.loop-i-init
loop-i-init c = refl

pub returns-then-not-is_name_byte : goal.returns-then-not-is_name_byte
returns-then-not-is_name_byte c = all-stop is_name_byte _ _ c.loop-i-test.true (sym c.is_name_byte.ensures ∙ c.if-not-is_name_byte.true) ∙ c.loop-i.invariant

pub loop-i-preserved : goal.loop-i-preserved
loop-i-preserved c = all_more is_name_byte _ _ c.loop-i-test.true (sym c.is_name_byte.ensures ∙ c.if-not-is_name_byte.false) ∙ c.loop-i.invariant

pub returns : goal.returns
returns c = all-out is_name_byte _ _ c.loop-i-test.false ∙ c.loop-i.invariant
