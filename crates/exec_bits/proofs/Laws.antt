-- An operand that is a value or a register moves nothing.
-- Assumes nothing.
use Prim.Native.Nat.{ℕ}
use mathlib.Core.Path.{◌≡◌, subst}
use mathlib.Core.List.{List}
use Rattle.base.specs.Test.{Ok, if}
use Rattle.base.proofs.Bool.{failed}
use Rattle.rules.specs.Operand.{Operand, moved_of}
use Rattle.exec_core.specs.Entry.{held_here, Sound}
use Rattle.exec_core.proofs.Laws.{moved-still}

pub moved_here : (n : ℕ) (z : List ℕ) (o : Operand) → Sound held_here o → moved_of n z o ≡ z
unfolding held_here if
moved_here n z o s =
    moved-still n z o s (λ e. failed (subst (λ (k : ℕ). Ok (held_here k)) e s.taken)) (λ e. failed (subst (λ (k : ℕ). Ok (held_here k)) e s.taken))
