-- Words that pass `torzimlak_check_state`: what the answer 0 says of them, that the host's writes keep it, and the links in them.
-- Assumes nothing.
use Prim.Native.Nat.{ℕ, ◌+◌, ◌≤◌}
use mathlib.Core.Path.{◌≡◌, refl, sym, ap, subst, ◌∙◌}
use mathlib.Core.Bool.{Bool, true, false}
use mathlib.Core.List.{List, [], ◌∷◌, ◌++◌}
use native.Mathlib.Omega.{arith}
use lib.ListN.{length, set, take, drop, length-append, length-drop, length-set}
use lib.Seq.{drop-cons, get_or-set_other, length-take-le, take-take}
use Rattle.base.specs.Test.{if, Ok}
use Rattle.base.specs.Lists.{◌at◌}
use Rattle.base.proofs.Bool.{and_i, and_l, le-ok, ok-le, test-true, true-ok}
use Rattle.rules.specs.Check.{table_ok}
use Rattle.rules.specs.Claim.{Register, Write, host, to_ia, to_memory, to_register, wa, wb, wc, xl, xr, xs}
use Rattle.rules.specs.Run.{admitted}
use Rattle.rules.specs.State as Rules
use Rattle.rules.specs.State.{state_ok}
use Rattle.rules.proofs.Demand.{all-length}
use Rattle.rules.proofs.Files.{bit_le, state-limits}
use Rattle.rules.proofs.RealLasts.{real-host}
use Rattle.rules.proofs.Steps.{parts, real-part, whole}
use Rattle.states.specs.declared.State.{State}
use Rattle.states.proofs.Front.{links-front, links-length}
use Rattle.lent.specs.Lent.{lawful, links_lent, state_from, words_from}
use Rattle.host_claims.specs.Answer.{admitted_words, state_number}
use Rattle.host_claims.specs.Calls.{memory_written, register_at, words_written}

-- what the answer 0 says
pub record Checked (t ws mem : List ℕ) : Type 0 where
  pub table : Ok (table_ok t)
  pub is_state : Ok (lawful ws)
  pub state : Ok (state_ok t (state_from ws mem))

pub number-checked : (t ws mem : List ℕ) → state_number t ws mem ≡ 0 → Checked t ws mem
unfolding state_number admitted_words admitted if
number-checked t ws mem = go (table_ok t) refl (lawful ws) refl (state_ok t (state_from ws mem)) refl
  where
    go : (a : Bool) → table_ok t ≡ a → (b : Bool) → lawful ws ≡ b → (c : Bool) → state_ok t (state_from ws mem) ≡ c → state_number t ws mem ≡ 0
        → Checked t ws mem
    go true p true q true r h = record { table = true-ok _ p; is_state = true-ok _ q; state = true-ok _ r }
    go true p true q false r h = absurd (let z : ◌≡◌ {A = ℕ} 31 0 = rw (p, q, r) at h in omega arith)
    go true p false q c r h = absurd (let z : ◌≡◌ {A = ℕ} 31 0 = rw (p, q) at h in omega arith)
    go false p b q c r h = absurd (let z : ◌≡◌ {A = ℕ} 30 0 = rw p at h in omega arith)

pub checked-number : (t ws mem : List ℕ) → Checked t ws mem → state_number t ws mem ≡ 0
unfolding state_number admitted_words admitted if
checked-number t ws mem h = rw (test-true _ h.table, test-true _ h.is_state, test-true _ h.state)

-- the words of a state are lawful
pub lawful-words : (s : State) (rest : List ℕ) → length s.links ≡ 256 → Ok (lawful (words_from s ++ rest))
unfolding lawful
lawful-words s rest n =
    and_i _ _ (le-ok 270 (length (words_from s ++ rest)) (simp length-append (omega (arith, n))))
    (and_i _ _ (le-ok _ _ (bit_le s.flag)) (le-ok _ _ (bit_le s.waiting)))

pub lawful-length : (ws : List ℕ) → Ok (lawful ws) → 270 ≤ length ws
unfolding lawful
lawful-length ws h = ok-le _ _ (and_l _ _ h)

-- The links.

-- the links in checked words are the first of the 256, as many as their count says
pub links-taken : (t ws mem : List ℕ) → Checked t ws mem → (state_from ws mem).links ≡ take (ws at 10) (drop 11 ws)
links-taken t ws mem h =
    let long : 270 ≤ length ws = lawful-length ws h.is_state in
    let full : length (links_lent ws) ≡ 256 = length-take-le 256 (drop 11 ws) (simp length-drop (omega (arith, long))) in
    let few : ws at 10 ≤ 256 = omega (arith, links-length (ws at 10) (links_lent ws) full, (state-limits t (state_from ws mem) h.state).few) in
    links-front (ws at 10) (links_lent ws) few ∙ take-take (ws at 10) 256 (drop 11 ws) few

-- The host's writes.

-- a register or IA, written among the words of a state: seven words and what stands behind them
seven : (ws : List ℕ) → 7 ≤ length ws
    → ws ≡ ws at 0 ∷ ws at 1 ∷ ws at 2 ∷ ws at 3 ∷ ws at 4 ∷ ws at 5 ∷ ws at 6 ∷ drop 7 ws
seven ws h =
    drop-cons ws 0 0 (omega arith) ∙ ap (λ (l : List ℕ). ws at 0 ∷ l) (drop-cons ws 1 0 (omega arith))
    ∙ ap (λ (l : List ℕ). ws at 0 ∷ ws at 1 ∷ l) (drop-cons ws 2 0 (omega arith))
    ∙ ap (λ (l : List ℕ). ws at 0 ∷ ws at 1 ∷ ws at 2 ∷ l) (drop-cons ws 3 0 (omega arith))
    ∙ ap (λ (l : List ℕ). ws at 0 ∷ ws at 1 ∷ ws at 2 ∷ ws at 3 ∷ l) (drop-cons ws 4 0 (omega arith))
    ∙ ap (λ (l : List ℕ). ws at 0 ∷ ws at 1 ∷ ws at 2 ∷ ws at 3 ∷ ws at 4 ∷ l) (drop-cons ws 5 0 (omega arith))
    ∙ ap (λ (l : List ℕ). ws at 0 ∷ ws at 1 ∷ ws at 2 ∷ ws at 3 ∷ ws at 4 ∷ ws at 5 ∷ l) (drop-cons ws 6 0 (omega arith))

register-written : (ws mem : List ℕ) (r : Register) (v : ℕ) → 7 ≤ length ws
    → state_from (set ws (register_at r) v) mem ≡ host (state_from ws mem) (to_register r v ∷ [])
register-written ws mem r v h =
    subst (λ (l : List ℕ). state_from (set l (register_at r) v) mem ≡ host (state_from l mem) (to_register r v ∷ [])) (sym (seven ws h)) (go r)
  where
    go : (r : Register)
        → state_from (set (ws at 0 ∷ ws at 1 ∷ ws at 2 ∷ ws at 3 ∷ ws at 4 ∷ ws at 5 ∷ ws at 6 ∷ drop 7 ws) (register_at r) v) mem
        ≡ host (state_from (ws at 0 ∷ ws at 1 ∷ ws at 2 ∷ ws at 3 ∷ ws at 4 ∷ ws at 5 ∷ ws at 6 ∷ drop 7 ws) mem) (to_register r v ∷ [])
    go xl = refl
    go xr = refl
    go xs = refl
    go wa = refl
    go wb = refl
    go wc = refl

ia-written : (ws mem : List ℕ) (v : ℕ) → 7 ≤ length ws → state_from (set ws 6 v) mem ≡ host (state_from ws mem) (to_ia v ∷ [])
ia-written ws mem v h = subst (λ (l : List ℕ). state_from (set l 6 v) mem ≡ host (state_from l mem) (to_ia v ∷ [])) (sym (seven ws h)) refl

-- a word in front of the flag changes no other
lawful-set : (ws : List ℕ) (i v : ℕ) → i ≤ 6 → lawful (set ws i v) ≡ lawful ws
unfolding lawful
lawful-set ws i v h =
    rw (length-set ws i v, get_or-set_other ws i 7 v 0 (λ e. omega arith), get_or-set_other ws i 9 v 0 (λ e. omega arith))

register-low : (r : Register) → register_at r ≤ 6
register-low xl = omega arith
register-low xr = omega arith
register-low xs = omega arith
register-low wa = omega arith
register-low wb = omega arith
register-low wc = omega arith

pub lawful-written : (us : List Write) (ws : List ℕ) → lawful (words_written ws us) ≡ lawful ws
lawful-written [] ws = refl
lawful-written (to_memory i v ∷ us) ws = lawful-written us ws
lawful-written (to_register r v ∷ us) ws = lawful-written us (set ws (register_at r) v) ∙ lawful-set ws (register_at r) v (register-low r)
lawful-written (to_ia v ∷ us) ws = lawful-written us (set ws 6 v) ∙ lawful-set ws 6 v (omega arith)

-- words and memory that the host has written are the state that it has written
pub writes-state : (us : List Write) (ws mem : List ℕ) → 7 ≤ length ws
    → state_from (words_written ws us) (memory_written mem us) ≡ host (state_from ws mem) us
writes-state [] ws mem h = refl
writes-state (to_memory i v ∷ us) ws mem h = writes-state us ws (set mem i v) h
writes-state (to_register r v ∷ us) ws mem h =
    writes-state us (set ws (register_at r) v) mem (rw length-set h) ∙ ap (λ (s : Rules.State). host s us) (register-written ws mem r v h)
writes-state (to_ia v ∷ us) ws mem h =
    writes-state us (set ws 6 v) mem (rw length-set h) ∙ ap (λ (s : Rules.State). host s us) (ia-written ws mem v h)

-- the host's writes keep what the check asks
pub written-checked : (t ws mem : List ℕ) (us : List Write) → Checked t ws mem → Checked t (words_written ws us) (memory_written mem us)
written-checked t ws mem us h =
    let long : 270 ≤ length ws = lawful-length ws h.is_state in
    let p = parts t (state_from ws mem) h.state in
    let fine : Ok (state_ok t (host (state_from ws mem) us)) =
    whole t (host (state_from ws mem) us)
    (record { fits = rw (all-length (state_from ws mem).core us) p.fits; few = p.few; chained = p.chained; arrives = p.arrives; covered = p.covered; waits = p.waits })
    (real-host (state_from ws mem) us (real-part t (state_from ws mem) h.state)) in
    record {
      table = h.table;
      is_state = rw (lawful-written us ws) h.is_state;
      state = rw (writes-state us ws mem (omega arith)) fine;
    }
