use mathlib.Core.Path.{◌≡◌}
use Rattle.rules.specs.Exec.{compared}
use Rattle.block_chars.specs.Chars.{Within}
use Rattle.block_order.proofs.compare_chars.Given as goal

abbrev pub invariant-loop-left : goal.invariant-loop-left
invariant-loop-left l = (compared l.initial.left l.initial.f l.initial.g l.m ≡ compared l.left l.f l.g l.m) × Within l.m l.f l.left × Within l.m l.g l.left

abbrev pub decreases-loop-left : goal.decreases-loop-left
decreases-loop-left l = l.left
