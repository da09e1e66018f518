-- `asm_reals::value` meets its contract: one division of two exact numbers, and the sign where the number is not zero.
use Prim.Native.Nat.{ℕ, ◌^◌, ◌≤◌}
use mathlib.Core.Path.{sym, subst}
use native.Mathlib.Nat.{le_trans}
use native.Mathlib.Omega.{arith}
use lib.Dec.{le→leb, lit≤}
use lib.Ieee.{in_float}
use Rattle.real_rules.proofs.Decimals.{ten-bounds, constant-negated, constant-zero, constant-plain}
use Rattle.asm_reals.proofs.value.Goals as goal

pub int_to_float-q : goal.int_to_float-q
unfolding in_float
int_to_float-q c = le→leb _ (2 ^ 53) c.requires.0

pub int_to_float-q-2 : goal.int_to_float-q-2
unfolding in_float
int_to_float-q-2 c = le→leb _ (2 ^ 53) (le_trans (subst (λ (x : ℕ). x ≤ 1000000) (sym c.power.ensures) (ten-bounds _ c.requires.1).0) (lit≤ tt))

pub returns-then-n-ne0 : goal.returns-then-n-ne0
returns-then-n-ne0 c = constant-negated _ _ _ _ c.power.ensures c.if-negative.true (λ e. omega (arith, c.if-n-ne0.true))

pub returns-else-n-ne0 : goal.returns-else-n-ne0
returns-else-n-ne0 c = constant-zero _ _ _ _ c.power.ensures (omega (arith, c.if-n-ne0.false))

pub returns-else-negative : goal.returns-else-negative
returns-else-negative c = constant-plain _ _ _ _ c.power.ensures c.if-negative.false
