-- What the definitions of the integer operations say, for the proofs of code.
-- Assumes nothing.
use Prim.Native.Nat.{ℕ}
use mathlib.Core.Path.{◌≡◌, sym, ap, subst, ◌∙◌}
use mathlib.Core.List.{List}
use native.Mathlib.Omega.{arith}
use lib.ListN.{set}
use lib.Seq.{set-set, set-get_or, get_or-set_other}
use Rattle.base.specs.Test.{Ok, ◌or◌}
use Rattle.base.specs.Lists.{◌at◌}
use Rattle.base.proofs.Bool.{failed}
use Rattle.ops.specs.Machine.{cfp_b, IA}
use Rattle.rules.specs.Number.{bad_address, trap_number}
use Rattle.rules.specs.Effect.{shown}
use Rattle.rules.specs.Operand.{Operand, moved_of, fetch_of, given}
use Rattle.rules.specs.Exec.{loads}
use Rattle.std.specs.Prelude.{Option, Some, None}
use Rattle.exec_core.specs.Entry.{Sound, steady}
use Rattle.exec_core.specs.Views.{fetched_of, answered}
use Rattle.exec_core.proofs.Laws.{moved-still}

-- an operand of these kinds moves nothing
pub steady-still : (n : ℕ) (z : List ℕ) (o : Operand) → Sound steady o → z ≡ moved_of n z o
unfolding steady ◌or◌
steady-still n z o s =
    sym (moved-still n z o s (λ e. failed (subst (λ (k : ℕ). Ok (steady k)) e s.taken)) (λ e. failed (subst (λ (k : ℕ). Ok (steady k)) e s.taken)))

-- an operation that loads: its operand is missing; or got, and y are the words once it has moved
module _ (w : ℕ → ℕ) (z m : List ℕ) (o : Operand) (f : List ℕ → ℕ → List ℕ) {r : Option ℕ} where
  pub load-missing : fetched_of r ≡ fetch_of z m o → r ≡ None → shown (trap_number bad_address) z m ≡ answered w z m (loads z m o f)
  unfolding loads given
  load-missing e h = rw (← e, h)

  pub load-got : {v : ℕ} {y z' : List ℕ} → fetched_of r ≡ fetch_of z m o → r ≡ Some v → y ≡ moved_of cfp_b z o → z' ≡ f y v → shown (w 0) z' m ≡ answered w z m (loads z m o f)
  unfolding loads given
  load-got {v} {y} {z'} e h k j = rw (← e, h) (ap (λ (l : List ℕ). shown (w 0) l m) (j ∙ ap (λ (l : List ℕ). f l v) k))

-- MFI clears IA: word 0 stays 0, and IA's old value puts it back
pub cleared-zero : (z : List ℕ) → z at 0 ≡ 0 → set z IA 0 at 0 ≡ 0
cleared-zero z e = get_or-set_other z IA 0 0 0 (λ h. omega arith) ∙ e

pub put_back : (z : List ℕ) → set (set z IA 0) IA (z at IA) ≡ z
put_back z = set-set z IA 0 (z at IA) ∙ set-get_or z IA 0
