-- RA stays finite and its flag 0 or 1, over each step and each call.
-- Assumes nothing.
use Prim.Native.Nat.{ℕ}
use mathlib.Core.List.{List}
use native.Mathlib.Omega.{arith}
use Rattle.base.specs.Test.{Ok}
use Rattle.ops.specs.Machine.{IA, FLAG}
use Rattle.rules.specs.Check.{table_ok}
use Rattle.rules.specs.State.{State}
use Rattle.rules.specs.Control.{step}
use Rattle.rules.specs.Run.{Call, answer, left}
use Rattle.rules.specs.Claim.{Write, host}
use Rattle.rules.proofs.Keeps.{Lasting}
use Rattle.rules.proofs.Lasts.{AfterStep, host-keeps, step_keeps, answer_keeps}
use Rattle.real_rules.proofs.Held.{RealOk, real-other, real-settled}

pub real-lasting : Lasting RealOk
real-lasting =
    record {
      register = λ h v k. real-other _ _ v (omega arith) k;
      ia = λ v k. real-other _ IA v (omega arith) k;
      off = λ k. real-other _ FLAG 0 (omega arith) k;
      on = λ k. real-other _ FLAG 1 (omega arith) k;
      settles = real-settled;
    }

pub real-step : (t : List ℕ) → Ok (table_ok t) → (s : State) → RealOk s.core.words → AfterStep RealOk (step t s)
real-step t ok s p = step_keeps RealOk real-lasting t ok s p

pub real-call : (t : List ℕ) (s : State) (c : Call) → RealOk s.core.words → RealOk (left s (answer t s c)).core.words
real-call t s c p = answer_keeps RealOk real-lasting t s c p

pub real-host : (s : State) (ws : List Write) → RealOk s.core.words → RealOk (host s ws).core.words
real-host s ws p = host-keeps RealOk real-lasting s.core ws p
