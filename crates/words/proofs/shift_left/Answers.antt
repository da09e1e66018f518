-- `words::shift_left` meets its contract: a wrapped product, which is 0 from 32 on.
use Rattle.std.proofs.Common.{sym, ◌∙◌}
use Rattle.words.proofs.Shifts.{shift_left-is}
use Rattle.words.proofs.Wraps.{mul-pow-past}
use Rattle.words.proofs.shift_left.Goals as goal

pub returns-then-k-lt-CFP_N : goal.returns-then-k-lt-CFP_N
returns-then-k-lt-CFP_N c = sym (shift_left-is _ _)

pub returns-else-k-lt-CFP_N : goal.returns-else-k-lt-CFP_N
returns-else-k-lt-CFP_N c = sym (shift_left-is _ _ ∙ mul-pow-past 32 _ c.if-k-lt-CFP_N.false)
