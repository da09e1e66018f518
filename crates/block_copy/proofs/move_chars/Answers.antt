use native.Mathlib.Omega.{arith}
use Rattle.block_copy.proofs.move_chars.Goals as goal

pub copy_apart-requires : goal.copy_apart-requires
copy_apart-requires c = (omega arith, omega arith, omega arith, λ h. absurd (omega (arith, h)))
