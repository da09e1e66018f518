-- What the checks find, and what any call on a state that passed them leaves: a state that passes, seen as the code holds it.
-- Assumes nothing.
use Prim.Native.Nat.{ℕ, ◌≤◌}
use mathlib.Core.Path.{◌≡◌, refl, sym, ap, subst}
use mathlib.Core.Bool.{Bool, true, false, not}
use mathlib.Core.List.{List}
use native.Mathlib.Omega.{arith}
use lib.ListN.{length}
use Rattle.base.specs.Test.{Ok, if}
use Rattle.base.proofs.Bool.{passed}
use Rattle.rules.specs.Check.{table_ok}
use Rattle.rules.specs.Number.{Outcome, Refusal, bad_table, bad_state, Verdict, granted, refused_by}
use Rattle.rules.specs.Run as Run
use Rattle.rules.specs.Run.{admitted, Call, answer, ended, left, of_call, perform, refused, unless_refused, verdict}
use Rattle.rules.specs.State as Rules
use Rattle.rules.specs.State.{state_ok}
use Rattle.rules.proofs.Canonical.{Clean, answer-clean, canonical-own, own-canonical}
use Rattle.rules.proofs.Files.{bit_le}
use Rattle.rules.proofs.Runs.{ended-passes}
use Rattle.rules.proofs.Steps.{parts}
use Rattle.states.specs.Views.{code_of, state_of}
use Rattle.states.specs.declared.State.{State}
use Rattle.states.proofs.Coded.{code_view}
use Rattle.state_check.proofs.Laws.{checked-of}
use Rattle.resuming.specs.Packing.{Passed}

abbrev mark : Verdict → ℕ
mark granted = 0
mark (refused_by e) = 1

-- a table or a state that does not pass is the answer, whatever the call
pub refused-by : (t : List ℕ) (s : Rules.State) (c : Call) (e : Refusal) → refused_by e ≡ admitted t s → answer t s c ≡ refused e
unfolding answer verdict admitted if
refused-by t s c e h = go (table_ok t) (state_ok t s) (sym h)
  where
    go : (a b : Bool) → if (not a) (refused_by bad_table) (if (not b) (refused_by bad_state) granted) ≡ refused_by e
        → unless_refused (if (not a) (refused_by bad_table) (if (not b) (refused_by bad_state) (of_call t s c))) (perform t s c) ≡ refused e
    go false b k = ap (λ (v : Verdict). unless_refused v (perform t s c)) k
    go true false k = ap (λ (v : Verdict). unless_refused v (perform t s c)) k
    go true true k = absurd (let z : ◌≡◌ {A = ℕ} 0 1 = ap mark k in omega arith)

-- both pass
pub passed-by : (t : List ℕ) (s : State) (mem : List ℕ) → length s.links ≡ 256 → granted ≡ admitted t (state_of s mem) → Passed t s mem
unfolding admitted if
passed-by t s mem full h = go (table_ok t) (state_ok t (state_of s mem)) refl refl (sym h)
  where
    go : (a b : Bool) → table_ok t ≡ a → state_ok t (state_of s mem) ≡ b
        → if (not a) (refused_by bad_table) (if (not b) (refused_by bad_state) granted) ≡ granted → Passed t s mem
    go false b e f k = absurd (let z : ◌≡◌ {A = ℕ} 1 0 = ap mark k in omega arith)
    go true false e f k = absurd (let z : ◌≡◌ {A = ℕ} 1 0 = ap mark k in omega arith)
    go true true e f k = record { table = rw e passed; state = rw f passed; full = full }

-- the state that is lent is clean: words that are not used are 0, and the flag is 0 or 1
state-clean : (s : State) (mem : List ℕ) → Clean (state_of s mem)
state-clean s mem = record { canonical = own-canonical _ _ _ _ _ _ _ _ _ _ _; flagged = record { bit = bit_le s.flag } }

module _ (t : List ℕ) (s : State) (lent : List ℕ) (y : Passed t s lent) where
  abbrev s₀ : Rules.State
  s₀ = state_of s lent

  -- what a call leaves passes its check, and is clean
  pub left-passes : (c : Call) (o : Outcome) (n : ℕ) (s' : Rules.State) → answer t s₀ c ≡ ended o n s' → Ok (state_ok t s')
  left-passes c o n s' u = ended-passes t s₀ c o n s' y.table y.state u

  left-clean : (c : Call) (o : Outcome) (n : ℕ) (s' : Rules.State) → answer t s₀ c ≡ ended o n s' → Clean s'
  left-clean c o n s' u = subst (λ (a : Run.Answer). Clean (left s₀ a)) u (answer-clean t s₀ c (state-clean s lent))

  -- so the code's state of it is seen as that state
  pub left-view : (c : Call) (o : Outcome) (n : ℕ) (s' : Rules.State) (after : List ℕ) → answer t s₀ c ≡ ended o n s' → after ≡ s'.core.mem
      → state_of (code_of s') after ≡ s'
  left-view c o n s' after u e =
      let x : Clean s' = left-clean c o n s' u in
      rw e
      (code_view s' s'.core.mem (canonical-own s'.core.words x.canonical) x.flagged.bit
      (parts t s' (left-passes c o n s' u)).few)

  -- at most 256 links are open
  pub few-open : s.count ≤ 256
  few-open = (checked-of t lent s y.full y.state).few
