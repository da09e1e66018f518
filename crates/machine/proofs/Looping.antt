-- The loop of a run: a step that goes on keeps its invariant, and each way out ends the run of the rules.
-- The invariant: the run from the start is the run of what is left of the budget from here, with the steps taken so far.
-- Assumes nothing.
use Prim.Native.Nat.{ℕ, zero, suc, ◌+◌, ◌-◌, ◌<◌, ◌≤◌}
use mathlib.Core.Path.{◌≡◌, refl, sym, ◌∙◌}
use mathlib.Core.Bool.{true, false}
use mathlib.Core.List.{List}
use native.Mathlib.Omega.{arith}
use native.Mathlib.Nat.{add-zero}
use lib.Dec.{eqb}
use lib.ListN.{length}
use Rattle.base.specs.Test.{if}
use Rattle.rules.specs.Control.{awaits, next, state_at, step}
use Rattle.rules.specs.Number.{Trap, trap_number, bad_address, constant_write, no_entry, no_case, impossible_exit, links_full, above_count, bad_digit, outcome_number, waits, used, stopped}
use Rattle.rules.specs.Run.{add_steps, ended, steps}
use Rattle.rules.specs.State.{State, Link}
use Rattle.rules.proofs.Loops.{add_steps-zero, loop-ends, loop-next, loop-waits}
use Rattle.exec_core.specs.Views.{answer_base}
use Rattle.exec_core.specs.Seen.{Running, open_links, place_of, seen, state_by, step_seen}
use Rattle.dispatch.proofs.After as After
use Rattle.dispatch.proofs.After.{Ends}
use Rattle.resuming.specs.Answers.{outcome_by}
use Rattle.machine.specs.Halting.{Halts, steps_taken_of, halted_at}

-- before the first step
pub run-first : (t : List ℕ) (k : ℕ) (s : State) → steps t k s ≡ add_steps (k - k) (steps t k s)
run-first t k s =
    let e : k - k ≡ 0 = omega arith in
    rw e (sym (add_steps-zero (steps t k s)))

-- a step goes on
pub run-next : (t : List ℕ) (k n : ℕ) (s s' : State) → n ≤ k → (n ≡ 0 → ⊥) → step t s ≡ next s'
    → add_steps (k - n) (steps t n s) ≡ add_steps (k - (n - 1)) (steps t (n - 1) s')
run-next t k zero s s' h z e = absurd (z refl)
run-next t k (suc n) s s' h z e =
    let i : k - suc n + 1 ≡ k - n = omega arith in
    let j : suc n - 1 ≡ n = omega arith in
    loop-next t (k - suc n) n s s' e ∙ rw (i, j)

-- the budget is used
run-used : (t : List ℕ) (k n : ℕ) (s : State) → n ≡ 0 → add_steps (k - n) (steps t n s) ≡ ended used (k - n) s
unfolding steps
run-used t k n s e = rw (e, add-zero)

-- the number of a trap is that of no other ending
trap-outcome : (e : Trap) → outcome_by (trap_number e) ≡ stopped e
unfolding outcome_by if
trap-outcome bad_address = refl
trap-outcome constant_write = refl
trap-outcome no_entry = refl
trap-outcome no_case = refl
trap-outcome impossible_exit = refl
trap-outcome links_full = refl
trap-outcome above_count = refl
trap-outcome bad_digit = refl

trap-awake : (e : Trap) → eqb (trap_number e) (outcome_number waits) ≡ false
trap-awake bad_address = refl
trap-awake constant_write = refl
trap-awake no_entry = refl
trap-awake no_case = refl
trap-awake impossible_exit = refl
trap-awake links_full = refl
trap-awake above_count = refl
trap-awake bad_digit = refl

trap-counted : (e : Trap) (i : ℕ) → steps_taken_of (trap_number e) i ≡ i
unfolding steps_taken_of if
trap-counted e i = rw (trap-awake e)

-- a step waits or is stopped
module _ (t : List ℕ) (k b : ℕ) (z m : List ℕ) (ls : List Link) (r : ℕ) (z' m' : List ℕ) (ls' : List Link) where
  abbrev HaltsAfter : ℕ → Type 0
  HaltsAfter n =
      add_steps (k - n) (steps t n (state_by b z m ls))
      ≡ ended (outcome_by r) (steps_taken_of r (k - n)) (halted_at (record { how = r; b = b; left = n }) z' m' ls')

  halts-waiting : (n : ℕ) → r ≡ outcome_number waits
      → step t (state_by b z m ls) ≡ awaits (state_at (record { words = z'; mem = m' }) (place_of b) true ls') → HaltsAfter (suc n)
  unfolding outcome_by steps_taken_of if
  halts-waiting n e h = loop-waits t (k - suc n) n _ _ h ∙ rw e

  halts : (n : ℕ) → Ends t b z m ls r z' m' ls' → HaltsAfter (suc n)
  halts n (After.waiting e h) = halts-waiting n e h
  halts n (After.stopped x e h a d f) =
      loop-ends t (k - suc n) n x _ h ∙ rw (e, trap-awake x, trap-outcome x, trap-counted x, a, d, f)

  run-halts : (n : ℕ) → (n ≡ 0 → ⊥) → Ends t b z m ls r z' m' ls' → HaltsAfter n
  run-halts zero h e = absurd (h refl)
  run-halts (suc n) h e = halts n e

-- The ways out of the loop that began at the entry from, with the words z₀, the memory m₀ and the links l₀.
module _ {t : List ℕ} {from k : ℕ} {z₀ m₀ l₀ : List ℕ} {b : ℕ} {z m l : List ℕ} {c n : ℕ}
    (so : steps t k (state_by from z₀ m₀ (open_links l₀)) ≡ add_steps (k - n) (steps t n (state_by b z m (open_links l))))
    (y : Running t b z m l c) (rest : n ≤ k) (room : length l ≡ length l₀) where
  -- the budget is used
  pub halts-used : n ≡ 0 → Halts t from k z₀ m₀ l₀ (record { how = outcome_number used; b = b; left = n }) z m l
  unfolding outcome_by steps_taken_of if
  halts-used e = record { ended = so ∙ run-used t k n _ e; starts = y.starts; rest = rest; room = room }

  -- the code of a step answers below 64
  pub halts-below : (n ≡ 0 → ⊥) → {r : ℕ} {z' m' l' : List ℕ} → seen r z' m' (open_links l') ≡ step_seen t b z m (open_links l)
      → length l' ≡ length l → r < answer_base → Halts t from k z₀ m₀ l₀ (record { how = r; b = b; left = n }) z' m' l'
  halts-below h {r} {z'} {m'} {l'} e kept low =
      record {
        ended = so ∙ run-halts t k b z m (open_links l) r z' m' (open_links l') n h (After.ends y l' e low);
        starts = y.starts;
        rest = rest;
        room = kept ∙ room;
      }
