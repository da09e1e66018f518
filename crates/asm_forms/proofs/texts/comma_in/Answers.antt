-- `asm_forms::texts::comma_in` meets its contract: each return rewrites with the tests that led there.
use Prim.Native.Nat.{ℕ}
use mathlib.Core.Path.{◌≡◌, ap}
use native.Mathlib.Omega.{arith}
use lib.Dec.{ltb}
use lib.ListN.{length}
use Rattle.language.specs.Text.{in_part, span}
use Rattle.asm_forms.proofs.texts.comma_in.Goals as goal

pub returns : goal.returns
returns c =
    let e : c.find_byte.result ≡ span in_part c.args.f.now = omega (arith, c.find_byte.ensures.0) in
    ap (λ (n : ℕ). ltb n (length c.args.f.now)) e
