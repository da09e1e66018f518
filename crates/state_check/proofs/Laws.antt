-- What later code takes from a state that passed its check on a table that passed its own, so that it tests no index.
-- Assumes nothing.
use Prim.Native.Nat.{ℕ, zero, suc, ◌+◌, ◌*◌, ◌-◌, ◌<◌, ◌≤◌}
use mathlib.Core.Path.{◌≡◌, refl, ap, subst}
use mathlib.Core.Bool.{Bool, true, false}
use mathlib.Core.List.{List, [], ◌∷◌}
use native.Mathlib.Omega.{arith}
use native.Mathlib.Numerals.{add-one}
use lib.ListN.{get_or, length, take}
use lib.Seq.{get_or-take, length-take-le}
use Rattle.base.specs.Test.{Ok, if}
use Rattle.base.proofs.Bool.{and-3, and_l, and_r, failed, ok-eq, ok-lt, passed, test-true}
use Rattle.ops.specs.Class.{Class, JSR, executes, is}
use Rattle.ops.proofs.Classes.{is_eq}
use Rattle.real_rules.proofs.Held.{RealOk}
use Rattle.rules.specs.Check.{layout_ok, table_ok}
use Rattle.rules.specs.State.{chain, held, is_external, state_ok, top_link, wait_ok}
use Rattle.rules.specs.Table.{Callee, body_at, callee, calls, class_at, declared, executable, exit_count, external, externals, field, names_external, names_procedure, procedure, size, table_length, unnamed, value}
use Rattle.rules.proofs.Exits.{reaches-executable}
use Rattle.rules.proofs.Facts.{in_table, rule-when}
use Rattle.rules.proofs.Steps.{Parts, parts, whole}
use Rattle.state_check.specs.Checked.{Checked, Waiting}
use Rattle.states.specs.Views.{links_of, state_of, words_of}
use Rattle.states.specs.declared.State.{State}
use Rattle.state_check.proofs.Called.{calls-inside}
use Rattle.state_check.proofs.Chained.{top-link}
use Rattle.states.proofs.Front.{links-front, links-length}
use Rattle.bodies.proofs.Numbers.{jsr-number}
use Rattle.bodies.proofs.Places.{arrives-inside, class_of}

-- the check, taken apart and put together
module _ (t mem : List ℕ) (s : State) (full : length s.links ≡ 256) where
  pub checked-of : Ok (state_ok t (state_of s mem)) → Checked t s.pc s.count s.links s.waiting (length mem)
  checked-of h =
      let x : Parts t (state_of s mem) = parts t (state_of s mem) h in
      let few : s.count ≤ 256 = omega (arith, x.few, links-length s.count s.links full) in
      let e : links_of s.count s.links ≡ take s.count s.links = links-front s.count s.links few in
      record {
        inside = arrives-inside t s.pc (test-true _ x.arrives);
        arrives = x.arrives;
        few = few;
        chained = subst (λ (ls : List ℕ). Ok (chain t 0 ls)) e x.chained;
        covered = subst (λ (ls : List ℕ). Ok (held t (body_at t s.pc) (top_link 0 ls))) e x.covered;
        waits = x.waits;
        fits = x.fits;
      }

  pub of-checked : Checked t s.pc s.count s.links s.waiting (length mem) → RealOk (words_of s) → Ok (state_ok t (state_of s mem))
  of-checked x real =
      let e : links_of s.count s.links ≡ take s.count s.links = links-front s.count s.links x.few in
      whole t (state_of s mem)
      (record {
        fits = x.fits;
        few = rw (links-length s.count s.links full) x.few;
        chained = rw e x.chained;
        arrives = x.arrives;
        covered = rw e x.covered;
        waits = x.waits;
      })
      real

-- each link is a JSR to a procedure
link-calls : (t : List ℕ) (b : ℕ) (ls : List ℕ) (i : ℕ) → Ok (chain t b ls) → i < length ls → 0 < calls t (get_or ls i 0)
link-calls t b [] i h g = absurd (omega arith)
link-calls t b (j ∷ ls) zero h g = ok-lt 0 (calls t j) (and_l _ _ h)
link-calls t b (j ∷ ls) (suc i) h g = link-calls t (suc j) ls i (and_r _ _ (and_r _ _ h)) (omega arith)

module _ (t : List ℕ) (k : ℕ) (l : List ℕ) (fits : k ≤ length l) (chained : Ok (chain t 0 (take k l))) where
  pub links-call : (i : ℕ) → i < k → 0 < calls t (get_or l i 0)
  links-call i g = rw (get_or-take k l i 0 g) at (link-calls t 0 (take k l) i chained (omega (arith, length-take-le k l fits)))

  -- and stands in the table
  pub links-inside : (i : ℕ) → i < k → get_or l i 0 < size t
  links-inside i g = let h = links-call i g in calls-inside t (get_or l i 0) (calls t (get_or l i 0)) refl (λ z. omega arith)

-- code of the procedure at q has a link open, and the youngest is a JSR to q
pub body-opened : (t : List ℕ) (k : ℕ) (l : List ℕ) → k ≤ length l → (b q : ℕ) → b ≡ suc q → Ok
    (held t b (top_link 0 (take k l)))
    → (0 < k) × (calls t (get_or l (k - 1) 0) ≡ suc q)
body-opened t zero l f b q e h = absurd (none (rw e at h))
  where
    none : Ok (held t (suc q) 0) → ⊥
    none z = let w : ◌≡◌ {A = ℕ} 0 (suc q) = ok-eq 0 (suc q) z in omega arith
body-opened t (suc k) l f b q e h =
    let top : top_link 0 (take (suc k) l) ≡ suc (get_or l (suc k - 1) 0) = top-link l (suc k) (λ z. omega arith) f in
    let o : Ok (held t (suc q) (suc (get_or l (suc k - 1) 0))) = subst (λ (x : ℕ). Ok (held t (suc q) x)) top (rw e at h) in
    (omega arith, ok-eq _ _ o)

-- a JSR goes on past its exits, to a place in the table
pub jsr-past : (t : List ℕ) → Ok (table_ok t) → (j : ℕ) → class_at t j ≡ executes JSR → j + declared t (callee t j) + 1 < size t
jsr-past t ok j e =
    let r : Ok (executable t (suc (j + declared t (callee t j)))) = reaches-executable t j _
    (and-3 _ _ _ _ (rule-when t ok j (executes JSR) e passed)) in
    rw (add-one (j + declared t (callee t j))) (arrives-inside t (suc (j + declared t (callee t j))) (test-true _ r))

-- a callee that is an EXP is named by kind and number
record Named (a b : Bool) (v : ℕ) (c : Callee) : Type 0 where
  pub names : Ok b
  pub is_its : c ≡ external v

named-external : (a b : Bool) (v : ℕ) → Ok (is_external (if a (procedure v) (if b (external v) unnamed))) → Named a b v
    (if a (procedure v) (if b (external v) unnamed))
unfolding if
named-external true b v h = absurd (failed h)
named-external false true v h = record { names = passed; is_its = refl }
named-external false false v h = absurd (failed h)

-- a state that waits stands at the JSR of an EXP, whose exit count lies in the table
pub waiting-at : (t : List ℕ) → Ok (table_ok t) → (p : ℕ) → Ok (wait_ok t p true) → Waiting t p (get_or t (8 + 8 * p + 3) 0)
unfolding callee declared names_external value field exit_count table_ok layout_ok table_length
waiting-at t ok p h =
    let c : class_at t p ≡ executes JSR = is_eq _ _ (and_l _ _ h) in
    let i : p < size t = in_table t p (rw c passed) in
    let n = named-external (names_procedure t p) (names_external t p) (get_or t (8 + 8 * p + 3) 0) (and_r _ _ h) in
    let v : get_or t (8 + 8 * p + 3) 0 < externals t = ok-lt _ _ (and_r _ _ n.names) in
    let long : length t ≡ table_length t = ok-eq _ _ (and_l _ _ (and_r _ _ (and_l _ _ ok))) in
    let d : declared t (callee t p) ≡ exit_count t (get_or t (8 + 8 * p + 3) 0) = ap (declared t) n.is_its in
    record {
      number = jsr-number _ (subst (λ (x : Class). Ok (is x (executes JSR))) (class_of t p i) (and_l _ _ h));
      kind = ok-eq _ _ (and_l _ _ n.names);
      named = refl;
      external = v;
      counted = omega arith;
      past = rw d at (jsr-past t ok p c);
    }
