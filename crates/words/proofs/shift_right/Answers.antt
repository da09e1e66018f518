-- `words::shift_right` meets its contract: a quotient, which is 0 from 32 on.
use Rattle.std.proofs.Common.{sym, ◌∙◌}
use Rattle.words.proofs.Shifts.{shift_right-is}
use Rattle.words.proofs.Wraps.{div-pow-past}
use Rattle.words.proofs.shift_right.Goals as goal

pub returns-then-k-lt-CFP_N : goal.returns-then-k-lt-CFP_N
returns-then-k-lt-CFP_N c = sym (shift_right-is _ _ c.ranges.w.fits)

pub returns-else-k-lt-CFP_N : goal.returns-else-k-lt-CFP_N
returns-else-k-lt-CFP_N c = sym (shift_right-is _ _ c.ranges.w.fits ∙ div-pow-past 32 c.ranges.w.fits c.if-k-lt-CFP_N.false)
