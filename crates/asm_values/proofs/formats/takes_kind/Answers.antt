-- `asm_values::formats::takes_kind`: the bit of the kind.
use mathlib.Core.Path.{sym}
use Rattle.asm_values.specs.Read.{has_bit}
use Rattle.asm_values.proofs.Bits.{kind-bit}
use Rattle.asm_values.proofs.formats.takes_kind.Goals as goal

pub returns : goal.returns
unfolding has_bit
returns c = sym (kind-bit c.args.format c.args.kind c.requires)
