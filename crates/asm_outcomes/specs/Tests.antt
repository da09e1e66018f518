-- The tests of a card's operands: that they fit, that their symbols are defined, that they are given.
-- Assumes nothing.
use Rattle.std.specs.Prelude.{Bool, List}
use Rattle.language.specs.Operand.{Outcome}
use Rattle.language.specs.Fault.{all_defined, all_fit, all_given, is_defined, is_fit, is_given}
use Rattle.asm_outcomes.specs.declared.Test.{Test}
use Rattle.asm_outcomes.specs.declared.Test.TheVariants as test

unfoldable pub test_by : Test → Outcome → Bool
test_by test.Fits o = is_fit o
test_by test.Defined o = is_defined o
test_by test.Given o = is_given o

unfoldable pub all_by : Test → List Outcome → Bool
all_by test.Fits os = all_fit os
all_by test.Defined os = all_defined os
all_by test.Given os = all_given os
