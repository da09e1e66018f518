use native.Mathlib.Omega.{arith}
use Prim.Native.Nat.{◌-◌, ◌*◌, ◌/◌}
use mathlib.Core.Path.{sym, ◌∙◌}
use Rattle.block_copy.proofs.Whole.{by_parts}
use Rattle.block_copy.proofs.copy_apart.Goals as goal

pub copy_body-requires : goal.copy_body-requires
copy_body-requires c = (omega arith, omega arith, c.to_word-head.ensures.0, λ e. omega (arith, c.requires.3 (omega (arith, e))))

pub returns : goal.returns
returns c =
    let a = c.args in
    let head = c.to_word-head.result in
    c.copy_chars-3.ensures
    ∙ sym (by_parts a.n head (4 * ((a.n - head) / 4)) a.from a.to a.m.now _ _ (omega arith) c.copy_chars-2.ensures c.copy_body.ensures)
