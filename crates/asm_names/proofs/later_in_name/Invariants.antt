use mathlib.Core.Path.{◌≡◌}
use lib.ListN.{drop}
use Rattle.language.specs.Text.{all, is_name_byte}
use Rattle.asm_names.proofs.later_in_name.Given as goal

abbrev pub invariant-loop-i : goal.invariant-loop-i
invariant-loop-i l = all is_name_byte (drop l.i l.s) ≡ all is_name_byte (drop 1 l.s)
