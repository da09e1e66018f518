-- What the code of a step requires gives what each control operation requires, and a waiting state what an exit requires.
-- Assumes nothing.
use Prim.Native.Nat.{ℕ}
use mathlib.Core.Path.{◌≡◌, refl}
use mathlib.Core.Bool.{true}
use mathlib.Core.List.{List}
use native.Mathlib.Omega.{arith}
use lib.Dec.{eqb}
use lib.ListN.{length}
use Rattle.base.specs.Test.{Ok}
use Rattle.base.specs.Lists.{◌at◌}
use Rattle.base.proofs.Bool.{and_l, and_r, by-if, ok-le}
use Rattle.ops.proofs.Classes.{is_eq}
use Rattle.rules.specs.Check.{table_ok}
use Rattle.rules.specs.State.{Link, memory_fits, wait_ok}
use Rattle.rules.proofs.Facts.{executable-in-table}
use Rattle.rules.proofs.Steps.{Parts, parts}
use Rattle.exec_core.specs.Seen.{Running, open_links, place_of, state_by}
use Rattle.exec_calls.specs.Shows.{links_after}
use Rattle.exec_calls.specs.Stands.{Calls, Few, Open, Stands}
use Rattle.exec_calls.proofs.Called.{calls-of}
use Rattle.exec_calls.proofs.Places.{place-long}
use Rattle.exec_control.specs.Roomy.{Roomy}

memory-roomy : (t : List ℕ) (k : ℕ) → Ok (memory_fits t k) → Roomy k
unfolding memory_fits
memory-roomy t k h =
    record { least = omega (arith, ok-le 256 k (and_l _ _ h)); most = ok-le k 8192 (and_l _ _ (and_r _ _ h)) }

module _ {t z m l : List ℕ} {b c : ℕ} (y : Running t b z m l c) where
  state-parts : Parts t (state_by b z m (open_links l))
  state-parts = parts t (state_by b z m (open_links l)) y.passes

  -- every operation
  pub stands : {n : ℕ} → t at b ≡ n → Stands t b n
  stands e =
      let i = place-long t (place_of b) y.checked (executable-in-table t (place_of b) state-parts.arrives) in
      record {
        checked = y.checked;
        starts = y.starts;
        arrives = state-parts.arrives;
        number = e;
        inside = omega (arith, y.starts, i.0);
        near = omega (arith, y.starts, i.1);
      }

  -- JSR, EXI and SSS, whose array of links has all its words
  pub few-links : length l ≡ 257 → Few l
  few-links e = record { count = y.few; room = e }

  -- EXI
  pub open-links : Open t b l
  open-links = record { chained = state-parts.chained; covered = state-parts.covered }

  -- CHK
  pub roomy-memory : Roomy (length m)
  roomy-memory = memory-roomy t (length m) state-parts.fits

-- a state that waits stands at a JSR
pub waiting-calls : (t : List ℕ) (p : ℕ) → Ok (table_ok t) → Ok (wait_ok t p true) → Calls t p
waiting-calls t p ok h = calls-of t p ok (is_eq _ _ (and_l _ _ h))

-- an exit that leaves the links as they were
pub links-same : (r : ℕ) (ls : List Link) → links_after r ls ls ≡ ls
unfolding links_after
links-same r ls = by-if (λ (x : List Link). x ≡ ls) (eqb r 26) ls ls (λ _. refl) (λ _. refl)
