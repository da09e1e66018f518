-- `words::byte_of` meets its contract: a shift by 8 k bits divides by 256^k.
use Rattle.std.proofs.Common.{◌%◌}
use Rattle.words.proofs.Chars.{char-bits}
use Rattle.words.proofs.byte_of.Goals as goal

pub returns : goal.returns
returns c = rw (char-bits (c.args.a % 4))
