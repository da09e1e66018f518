-- `words::with_byte` meets its contract: one character taken off and another added, each in its place.
use Rattle.std.proofs.Common.{◌%◌, arith}
use Rattle.words.specs.Words.{byte_of}
use Rattle.words.proofs.Chars.{char-shl, digit-le, with-byte-is}
use Rattle.words.proofs.Laws.{with_byte-lt}
use Rattle.words.proofs.with_byte.Goals as goal

pub overflow_sub-result : goal.overflow_sub-result
overflow_sub-result c =
    let w = c.args.w in
    let k = c.args.a % 4 in
    rw (c.byte_of.ensures, char-shl (byte_of w k) k (omega arith) (omega arith)) (digit-le 256 (omega arith) w k)

pub overflow_add-result : goal.overflow_add-result
overflow_add-result c =
    let w = c.args.w in
    let k = c.args.a % 4 in
    rw (c.byte_of.ensures, with-byte-is w k (c.args.b % 256) (omega arith) (omega arith))
    (record { fits = with_byte-lt w k c.ranges.w.fits (omega arith) (omega arith) })

pub returns : goal.returns
returns c =
    rw c.byte_of.ensures
    (with-byte-is c.args.w (c.args.a % 4) (c.args.b % 256) (omega arith) (omega arith))
