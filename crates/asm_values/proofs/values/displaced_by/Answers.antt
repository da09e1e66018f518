-- `asm_values::values::displaced_by`: each arm is the clause of its meaning.
use mathlib.Core.Path.{◌∙◌, refl}
use Rattle.asm_values.proofs.values.displaced_by.Goals as goal

pub returns-in-AddressOf : goal.returns-in-AddressOf
returns-in-AddressOf c = c.displaced_bytes.ensures ∙ rw c.in-AddressOf.is refl

pub returns-in-ValueOf : goal.returns-in-ValueOf
returns-in-ValueOf c = c.displaced_words.ensures ∙ rw c.in-ValueOf.is refl
