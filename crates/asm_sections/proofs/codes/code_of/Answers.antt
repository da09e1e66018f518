-- `asm_sections::codes::code_of` meets its contract: an arm for each variant.
use Rattle.asm_sections.specs.Codes.{code_of}
use mathlib.Core.Path.{◌∙◌}
use Rattle.asm_sections.proofs.codes.code_of.Goals as goal

pub returns-in-Empty : goal.returns-in-Empty
unfolding code_of
returns-in-Empty c = rw c.in-Empty.is

pub returns-in-Malformed : goal.returns-in-Malformed
unfolding code_of
returns-in-Malformed c = rw c.in-Malformed.is

pub returns-in-Unknown : goal.returns-in-Unknown
unfolding code_of
returns-in-Unknown c = rw c.in-Unknown.is

pub returns-in-Assembles : goal.returns-in-Assembles
unfolding code_of
returns-in-Assembles c = c.assembly_code.ensures ∙ rw c.in-Assembles.is

pub returns-in-Operates : goal.returns-in-Operates
unfolding code_of
returns-in-Operates c = rw c.in-Operates.is
