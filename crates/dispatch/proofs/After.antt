-- What a step's code leaves, by its answer: from 64 on, a state that runs on; below, the end of a run.
-- Assumes nothing.
use Prim.Native.Nat.{ℕ, zero, suc, ◌+◌, ◌-◌, ◌<◌, ◌≤◌}
use mathlib.Core.Path.{◌≡◌, refl, sym, ap, subst, ◌∙◌}
use mathlib.Core.Bool.{Bool, true, false}
use mathlib.Core.List.{List, [], ◌∷◌}
use native.Mathlib.Omega.{arith}
use lib.ListN.{length, set, take}
use lib.Seq.{get_or-set_other}
use Rattle.base.specs.Test.{Ok}
use Rattle.base.specs.Lists.{◌at◌}
use Rattle.base.proofs.Bool.{and_r, ok-le}
use Rattle.ops.specs.Machine.{max_links, IA, FLAG, RA, RAHIGH, RFLAG}
use Rattle.ops.specs.Class.{Class, Flow, executes, marks, none}
use Rattle.rules.specs.Number.{Trap, trap_number, waits, outcome_number}
use Rattle.rules.specs.Table.{entry_at, class_at}
use Rattle.rules.specs.State.{Core, State, Link, state_ok}
use Rattle.rules.specs.Effect.{Effect, done, trap}
use Rattle.rules.specs.Control.{Transfer, jump, raise, wait, halt, lost, Step, next, awaits, traps, stuck, state_at, land, part, control, step_done, step_by, effect_of, step}
use Rattle.rules.specs.Claim.{StepClaim, stopping}
use Rattle.rules.proofs.Keeps.{Lasting}
use Rattle.rules.proofs.Lasts.{AfterStep, step_keeps}
use Rattle.rules.proofs.Steps.{parts, real-part, step_ok}
use Rattle.real_rules.specs.Real.{Real, value, overflow, low_word, high_word, settled}
use Rattle.real_rules.proofs.Held.{Held}
use Rattle.exec_core.specs.Views.{answer_base, toward}
use Rattle.exec_core.specs.Seen.{Seen, seen, open_links, place_of, state_by, stepped, step_seen, Running}
use Rattle.exec_core.proofs.Steps.{place-of}

-- at most 256 links in lent words with room for them: their count is at most 256
take-few : (n k : ℕ) (l : List ℕ) → length (take n l) ≤ k → k < length l → n ≤ k
take-few zero k l h a = omega arith
take-few (suc n) k [] h a = absurd (omega arith)
take-few (suc n) zero (x ∷ l) h a = absurd (omega arith)
take-few (suc n) (suc k) (x ∷ l) h a = let i = take-few n k l (omega arith) (omega arith) in omega arith

pub few-of : (l : List ℕ) → length l ≡ max_links + 1 → length (open_links l) ≤ max_links → l at max_links ≤ max_links
few-of l e h = take-few (l at max_links) max_links l h (omega arith)

-- a state that goes on is awake; one that waits does so where it stands
abbrev Placed : State → Step → Type 0
Placed s (next s') = s'.waiting ≡ false
Placed s (awaits s') = (s'.pc ≡ s.pc) × (s'.waiting ≡ true)
Placed s (traps e) = Unit {0}
Placed s stuck = Unit {0}

module _ (t : List ℕ) (s : State) where
  land-placed : (d : Core) (g : Transfer) → Placed s (land t s d g)
  land-placed d (jump q ls) = refl
  land-placed d (raise e ls) = refl
  land-placed d wait = (refl, refl)
  land-placed d (halt e) = tt
  land-placed d lost = tt

  done-placed : (f : Flow) (r : Effect) → Placed s (step_done t s f r)
  done-placed f (done z m v) = land-placed (record { words = z; mem = m }) (control t s.pc s.links v f)
  done-placed f (trap e) = tt

  by-placed : (r : Effect) (c : Class) → Placed s (step_by t s r c)
  by-placed r (executes f) = done-placed f (part s r f)
  by-placed r (marks k) = tt
  by-placed r none = tt

  step-placed : Placed s (step t s)
  unfolding step
  step-placed = by-placed (effect_of t s) (class_at t s.pc)

-- word 0 stays 0
abbrev Zeroed : List ℕ → Type 0
Zeroed z = z at 0 ≡ 0

zero_settled : (r : Real) (z : List ℕ) → Held r → Zeroed z → Zeroed (settled r z)
unfolding settled
zero_settled (value x) z h e =
    get_or-set_other (set (set z RA (low_word x)) RAHIGH (high_word x)) RFLAG 0 0 0 (λ i. omega arith)
    ∙ get_or-set_other (set z RA (low_word x)) RAHIGH 0 (high_word x) 0 (λ i. omega arith)
    ∙ get_or-set_other z RA 0 (low_word x) 0 (λ i. omega arith)
    ∙ e
zero_settled overflow z h e = get_or-set_other z RFLAG 0 1 0 (λ i. omega arith) ∙ e

zero-lasting : Lasting Zeroed
zero-lasting =
    record {
      register = λ {z} {r} h v e. get_or-set_other z r 0 v 0 (λ i. omega arith) ∙ e;
      ia = λ {z} v e. get_or-set_other z IA 0 v 0 (λ i. omega arith) ∙ e;
      off = λ {z} e. get_or-set_other z FLAG 0 0 0 (λ i. omega arith) ∙ e;
      on = λ {z} e. get_or-set_other z FLAG 0 1 0 (λ i. omega arith) ∙ e;
      settles = zero_settled;
    }

-- the state by its parts
state-is : (s : State) (z m : List ℕ) (p : ℕ) (w : Bool) (ls : List Link)
    → z ≡ s.core.words → m ≡ s.core.mem → s.pc ≡ p → s.waiting ≡ w → ls ≡ s.links → s ≡ state_at (record { words = z; mem = m }) p w ls
state-is s z m p w ls a b d e f =
    ap (λ (q : ℕ). state_at s.core q s.waiting s.links) d
    ∙ ap (λ (v : Bool). state_at s.core p v s.links) e
    ∙ ap (λ (x : List ℕ). state_at (record { words = x; mem = s.core.mem }) p w s.links) (sym a)
    ∙ ap (λ (x : List ℕ). state_at (record { words = z; mem = x }) p w s.links) (sym b)
    ∙ ap (λ (x : List Link). state_at (record { words = z; mem = m }) p w x) (sym f)

-- the offset of the entry that an answer leads to
target_is : (r q : ℕ) → r ≡ toward q → r - answer_base ≡ entry_at q
target_is r q e = omega arith

-- an answer below 64: waiting where it stands, or stopped by a trap with nothing changed
pub data Ends (t : List ℕ) (b : ℕ) (z m : List ℕ) (ls : List Link) (r : ℕ) (z' m' : List ℕ) (ls' : List Link) : Type 0 where
  waiting : r ≡ outcome_number waits
      → step t (state_by b z m ls) ≡ awaits (state_at (record { words = z'; mem = m' }) (place_of b) true ls')
      → Ends t b z m ls r z' m' ls'
  stopped : (e : Trap) → r ≡ trap_number e → step t (state_by b z m ls) ≡ traps e → z' ≡ z → m' ≡ m → ls' ≡ ls
      → Ends t b z m ls r z' m' ls'

module _ {t : List ℕ} {b : ℕ} {z m l : List ℕ} {c : ℕ} (y : Running t b z m l c) where
  abbrev s : State
  s = state_by b z m (open_links l)

  -- what the rules say of the step
  claim : (x : Step) → step t s ≡ x → StepClaim t s s.links x
  claim x k = subst (StepClaim t s s.links) k (step_ok t y.checked s (parts t s y.passes) (real-part t s y.passes))

  placed : (x : Step) → step t s ≡ x → Placed s x
  placed x k = subst (Placed s) k (step-placed t s)

  zeroed : (x : Step) → step t s ≡ x → AfterStep Zeroed x
  zeroed x k = subst (AfterStep Zeroed) k (step_keeps Zeroed zero-lasting t y.checked s y.zero)

  low : (e : Trap) → step t s ≡ traps e → trap_number e ≤ 29
  unfolding stopping
  low e k = ok-le _ _ (and_r _ _ (claim (traps e) k))

  module _ {r : ℕ} {z' m' : List ℕ} (l' : List ℕ) (e : seen r z' m' (open_links l') ≡ step_seen t b z m (open_links l)) where
    shows : (x : Step) → step t s ≡ x → seen r z' m' (open_links l') ≡ stepped s x
    shows x k = e ∙ ap (stepped s) k

    -- the step goes on to the entry at r - 64, and runs from there
    pub goes_on_lem : answer_base ≤ r → length l' ≡ length l
        → (step t (state_by b z m (open_links l)) ≡ next (state_by (r - answer_base) z' m' (open_links l'))) × Running t (r - answer_base) z' m' l' c
    goes_on_lem h n = go (step t s) refl
      where
        go : (x : Step) → step t s ≡ x → (step t s ≡ next (state_by (r - answer_base) z' m' (open_links l'))) × Running t (r - answer_base) z' m' l' c
        go (next s') k =
            let a : seen r z' m' (open_links l') ≡ stepped s (next s') = shows (next s') k in
            let f : r - answer_base ≡ entry_at s'.pc = target_is r s'.pc (ap (λ (x : Seen). x.how) a) in
            let q : place_of (r - answer_base) ≡ s'.pc = place-of (r - answer_base) s'.pc f in
            let i : s' ≡ state_by (r - answer_base) z' m' (open_links l') =
            state-is s' z' m' (place_of (r - answer_base)) false (open_links l') (ap (λ (x : Seen). x.words) a) (ap (λ (x : Seen). x.mem) a) (sym q) (placed (next s') k) (ap (λ (x : Seen). x.links) a)
            in
            let o : Ok (state_ok t (state_by (r - answer_base) z' m' (open_links l'))) = subst (λ (x : State). Ok (state_ok t x)) i (claim (next s') k).passes in (
              k ∙ ap next i,
              record {
                checked = y.checked;
                starts = f ∙ ap entry_at (sym q);
                passes = o;
                room = n ∙ y.room;
                few = few-of l' (n ∙ y.room) (parts t (state_by (r - answer_base) z' m' (open_links l')) o).few;
                fixed = y.fixed;
                zero = ap (λ (x : List ℕ). x at 0) (ap (λ (x : Seen). x.words) a) ∙ zeroed (next s') k;
              },
            )
        go (awaits s') k = let a : r ≡ outcome_number waits = ap (λ (x : Seen). x.how) (shows (awaits s') k) in absurd (omega arith)
        go (traps d) k =
            let a : r ≡ trap_number d = ap (λ (x : Seen). x.how) (shows (traps d) k) in
            let i : trap_number d ≤ 29 = low d k in
            absurd (omega arith)
        go stuck k = absurd (claim stuck k)

    -- the step ends the run
    pub ends : r < answer_base → Ends t b z m (open_links l) r z' m' (open_links l')
    ends h = go (step t s) refl
      where
        go : (x : Step) → step t s ≡ x → Ends t b z m (open_links l) r z' m' (open_links l')
        go (next s') k = let a : r ≡ toward s'.pc = ap (λ (x : Seen). x.how) (shows (next s') k) in absurd (omega arith)
        go (awaits s') k =
            let a : seen r z' m' (open_links l') ≡ stepped s (awaits s') = shows (awaits s') k in
            let p = placed (awaits s') k in
            waiting (ap (λ (x : Seen). x.how) a)
            (k ∙ ap awaits (state-is s' z' m' (place_of b) true (open_links l') (ap (λ (x : Seen). x.words) a) (ap (λ (x : Seen). x.mem) a) p.0 p.1 (ap (λ (x : Seen). x.links) a)))
        go (traps d) k =
            let a : seen r z' m' (open_links l') ≡ stepped s (traps d) = shows (traps d) k in
            stopped d (ap (λ (x : Seen). x.how) a) k (ap (λ (x : Seen). x.words) a) (ap (λ (x : Seen). x.mem) a) (ap (λ (x : Seen). x.links) a)
        go stuck k = absurd (claim stuck k)
