-- The words that a call leaves are the machine that the rules leave: of start, run, resume and restore.
-- Assumes nothing.
use Prim.Native.Nat.{ℕ, ◌+◌, ◌-◌, ◌≤◌}
use mathlib.Core.Path.{◌≡◌, refl, sym, ap, subst, ◌∙◌}
use mathlib.Core.Bool.{Bool, true, false}
use mathlib.Core.List.{List, ◌++◌, append_assoc}
use native.Mathlib.Omega.{arith}
use lib.Dec.{eqb, ltb}
use lib.ListN.{length, take, drop, replicate, length-append, length-replicate}
use lib.Seq.{get_or-append-add, take_at}
use Rattle.base.specs.Test.{if, Ok}
use Rattle.base.specs.Lists.{◌at◌}
use Rattle.base.proofs.Bool.{by-if, true-ok, unless-no, unless-yes}
use Rattle.rules.specs.Number.{Outcome, Refusal, bad_state, bad_table}
use Rattle.rules.specs.Check.{table_ok}
use Rattle.rules.specs.Control.{state_at}
use Rattle.rules.specs.Start as Start
use Rattle.rules.specs.Start.{Mode, begun, initial, memory_begun, machine_words, start_on, unbegun}
use Rattle.rules.specs.Snapshot as Snapshot
use Rattle.rules.specs.Snapshot.{bit, memory_woken, restore_of, unwoken, woken}
use Rattle.rules.specs.State as Rules
use Rattle.rules.specs.State.{state_ok}
use Rattle.rules.specs.Run as Run
use Rattle.rules.specs.Run.{Call, answer, ended, left, nowhere, refused, resumes, verdict}
use Rattle.rules.proofs.Canonical.{BegunIs, Clean, WokenIs, answer-clean, begun-is, canonical-own, own-canonical, restore-clean, started-clean}
use Rattle.rules.proofs.Files.{bit_le, eqb-bit, state-limits}
use Rattle.rules.proofs.Restores.{restore-wakes}
use Rattle.rules.proofs.Runs.{ended-passes, resume-keeps}
use Rattle.rules.proofs.Snapshots.{restored-passes}
use Rattle.rules.proofs.Starts.{started-passes}
use Rattle.states.specs.declared.State.{State}
use Rattle.states.specs.Views.{code_of, links_of, state_of}
use Rattle.states.proofs.Coded.{code_view}
use Rattle.lent.specs.Lent.{lawful, state_from, tail_of, words_from}
use Rattle.host_claims.specs.Running.{call_words, start_words, words_begun, words_left}
use Rattle.host_claims.specs.Freezing.{restore_words, words_after}

-- Words and machines.

built : State → List ℕ → Bool → Bool → List ℕ → ℕ → ℕ → ℕ → Rules.State
built s mem flag waiting ls lo hi real =
    state_at
    (record {
      words =
          machine_words s.xl s.xr s.xs s.wa s.wb s.wc s.ia (bit flag) lo hi real;
      mem = mem;
    })
    s.pc waiting (links_of s.count ls)

-- word i behind 256 links
behind : (links tail rest : List ℕ) (i : ℕ) → length links ≡ 256 → (links ++ tail ++ rest) at (256 + i) ≡ (tail ++ rest) at i
behind links tail rest i n = rw (append_assoc links tail rest, ← n) (get_or-append-add links (tail ++ rest) i 0)

-- the words of a state are that state
pub state_from-words : (s : State) (rest mem : List ℕ) → length s.links ≡ 256 → state_from (words_from s ++ rest) mem ≡ state_of s mem
unfolding built
state_from-words s rest mem n =
    let x : List ℕ = s.links ++ tail_of s ++ rest in
    let front : take 256 x ≡ s.links = rw append_assoc (take_at s.links (tail_of s ++ rest) 256 n) in
    ap (λ (b : Bool). built s mem b (eqb (bit s.waiting) 1) (take 256 x) (x at 256) (x at 257) (x at 258)) (eqb-bit s.flag)
    ∙ ap (λ (b : Bool). built s mem s.flag b (take 256 x) (x at 256) (x at 257) (x at 258)) (eqb-bit s.waiting)
    ∙ ap (λ (l : List ℕ). built s mem s.flag s.waiting l (x at 256) (x at 257) (x at 258)) front
    ∙ ap (λ (v : ℕ). built s mem s.flag s.waiting s.links v (x at 257) (x at 258)) (behind s.links (tail_of s) rest 0 n)
    ∙ ap (λ (v : ℕ). built s mem s.flag s.waiting s.links s.ra_low v (x at 258)) (behind s.links (tail_of s) rest 1 n)
    ∙ ap (λ (v : ℕ). built s mem s.flag s.waiting s.links s.ra_low s.ra_high v) (behind s.links (tail_of s) rest 2 n)

-- a machine's words hold 256 links
pub full-links : (s : Rules.State) → length s.links ≤ 256 → length (code_of s).links ≡ 256
full-links s few =
    length-append s.links (replicate (256 - length s.links) 0)
    ∙ rw (length-replicate {A = ℕ} (256 - length s.links) 0) (omega (arith, few))

-- the words of a clean machine, with its memory, are that machine
pub words-machine : (s : Rules.State) (rest : List ℕ) → Clean s → length s.links ≤ 256
    → state_from (words_from (code_of s) ++ rest) s.core.mem ≡ s
words-machine s rest c few =
    state_from-words (code_of s) rest s.core.mem (full-links s few)
    ∙ code_view s s.core.mem (canonical-own s.core.words c.canonical) c.flagged.bit few

-- any words are a clean machine
pub words-clean : (ws mem : List ℕ) → Clean (state_from ws mem)
words-clean ws mem = record { canonical = own-canonical _ _ _ _ _ _ _ _ _ _ _; flagged = record { bit = bit_le (eqb (ws at 7) 1) } }

-- Runs and resumes.

abbrev ends : Run.Answer → ℕ
ends (refused e) = 0
ends (ended o k s) = 1
ends nowhere = 2

unended : (e : Refusal) (o : Outcome) (k : ℕ) (s : Rules.State) → refused e ≡ ended o k s → ⊥
unended e o k s h = let z : ◌≡◌ {A = ℕ} 0 1 = ap ends h in omega arith

-- a table that fails is told by 30 whatever is asked
answer-table : (t : List ℕ) (s : Rules.State) (c : Call) → table_ok t ≡ false → answer t s c ≡ refused bad_table
unfolding answer verdict if
answer-table t s c e = rw e

-- words that are a state: what is told of them is what the rules answer
pub words-answer : (t ws mem : List ℕ) (c : Call) → lawful ws ≡ true → call_words t ws mem c ≡ answer t (state_from ws mem) c
unfolding call_words
words-answer t ws mem c a = by-table (table_ok t) refl
  where
    by-table : (b : Bool) → table_ok t ≡ b → call_words t ws mem c ≡ answer t (state_from ws mem) c
    by-table true e = unless-yes _ _ _ e ∙ unless-yes _ _ _ a
    by-table false e = unless-no _ _ _ e ∙ sym (answer-table t (state_from ws mem) c e)

-- a call of a host that ends is the rules' call, on a table and a state that pass
pub record Granted (t ws mem : List ℕ) (c : Call) (o : Outcome) (k : ℕ) (s : Rules.State) : Type 0 where
  pub table : Ok (table_ok t)
  pub is_state : lawful ws ≡ true
  pub state : Ok (state_ok t (state_from ws mem))
  pub answers : answer t (state_from ws mem) c ≡ ended o k s

-- a call that ends is on a state that passes
answered-state : (t : List ℕ) (s : Rules.State) (c : Call) (o : Outcome) (k : ℕ) (s' : Rules.State) → table_ok t ≡ true → answer t s c ≡ ended o k s'
    → Ok (state_ok t s)
unfolding answer verdict if
answered-state t s c o k s' p = go (state_ok t s) refl
  where
    go : (b : Bool) → state_ok t s ≡ b → answer t s c ≡ ended o k s' → Ok (state_ok t s)
    go true r h = true-ok _ r
    go false r h = absurd (unended bad_state o k s' (rw (p, r) at h))

pub ended-granted : (t ws mem : List ℕ) (c : Call) (o : Outcome) (k : ℕ) (s : Rules.State) → call_words t ws mem c ≡ ended o k s
    → Granted t ws mem c o k s
unfolding call_words if
ended-granted t ws mem c o k s = go (table_ok t) refl (lawful ws) refl
  where
    go : (a : Bool) → table_ok t ≡ a → (b : Bool) → lawful ws ≡ b → call_words t ws mem c ≡ ended o k s → Granted t ws mem c o k s
    go true p true q h =
        let e : answer t (state_from ws mem) c ≡ ended o k s = rw (p, q) at h in
        record { table = true-ok _ p; is_state = q; state = answered-state t (state_from ws mem) c o k s p e; answers = e }
    go true p false q h = absurd (unended bad_state o k s (rw (p, q) at h))
    go false p b q h = absurd (unended bad_table o k s (rw p at h))

-- the words left are the machine that the rules leave
pub left-machine : (t ws mem : List ℕ) (c : Call) (after words : List ℕ) → after ≡ (left (state_from ws mem) (call_words t ws mem c)).core.mem
    → words ≡ words_left (call_words t ws mem c) ws → state_from words after ≡ left (state_from ws mem) (call_words t ws mem c)
left-machine t ws mem c after words = go (call_words t ws mem c) refl
  where
    go : (a : Run.Answer) → call_words t ws mem c ≡ a → after ≡ (left (state_from ws mem) a).core.mem → words ≡ words_left a ws
        → state_from words after ≡ left (state_from ws mem) a
    go (refused e) h m w = rw (m, w)
    go nowhere h m w = rw (m, w)
    go (ended o k s) h m w =
        let g = ended-granted t ws mem c o k s h in
        let s₀ : Rules.State = state_from ws mem in
        let fine : Ok (state_ok t s) = ended-passes t s₀ c o k s g.table g.state g.answers in
        let few = (state-limits t s fine).few in
        let clean : Clean s = subst (λ (a : Run.Answer). Clean (left s₀ a)) g.answers (answer-clean t s₀ c (words-clean ws mem)) in
        rw (m, w) (words-machine s (drop 270 ws) clean few)

-- a resume keeps memory
pub resumed-memory : (t ws mem : List ℕ) (x : ℕ) → mem ≡ (left (state_from ws mem) (call_words t ws mem (resumes x))).core.mem
unfolding call_words if
resumed-memory t ws mem x = go (table_ok t) refl (lawful ws) refl
  where
    go : (a : Bool) → table_ok t ≡ a → (b : Bool) → lawful ws ≡ b → mem ≡ (left (state_from ws mem) (call_words t ws mem (resumes x))).core.mem
    go true p true q = rw (p, q) (resume-keeps t (state_from ws mem) x)
    go true p false q = rw (p, q) refl
    go false p b q = rw p refl

-- Start and restore.

-- what a start of the rules begins, or what a restore wakes: on a table that passes, it passes, and it is clean
pub record Passing (t : List ℕ) (s : Rules.State) : Type 0 where
  pub table : Ok (table_ok t)
  pub state : Ok (state_ok t s)
  pub clean : Clean s

start-sound : (t m fs : List ℕ) (x : ℕ) → BegunIs (Passing t) (start_on t m fs x)
start-sound t m fs x =
    begun-is (Passing t) t m fs x
    (λ ok fits. record { table = ok; state = started-passes t m fs x ok fits; clean = started-clean t m fs x })

unbegins : (e : Refusal) (s : Rules.State) → unbegun e ≡ begun s → ⊥
unbegins e s h = let z : ◌≡◌ {A = ℕ} 0 1 = ap mark h in omega arith
  where
    mark : Start.Started → ℕ
    mark (begun s) = 1
    mark (unbegun e) = 0

-- a start of a host that begins is the rules' start
pub begun-sound : (k : Mode) (t lent fs : List ℕ) (x : ℕ) (ws : List ℕ) (s : Rules.State) → start_words k t lent fs x ws ≡ begun s → Passing t s
unfolding start_words
begun-sound k t lent fs x ws s h =
    subst (BegunIs (Passing t)) h
    (by-if (BegunIs (Passing t)) _ _ _ (λ e. tt) (λ a. by-if (BegunIs (Passing t)) _ _ _ (λ e. tt) (λ b. start-sound t (initial k lent) fs x)))

-- the words that it leaves are the started machine
pub begun-machine : (k : Mode) (t lent fs : List ℕ) (x : ℕ) (ws after words : List ℕ) → after ≡ memory_begun (start_words k t lent fs x ws) lent
    → words ≡ words_begun (start_words k t lent fs x ws) ws → (s : Rules.State) → start_words k t lent fs x ws ≡ begun s → state_from words after ≡ s
begun-machine k t lent fs x ws after words m w s h =
    let g = begun-sound k t lent fs x ws s h in
    let m' : after ≡ s.core.mem = m ∙ ap (λ (a : Start.Started). memory_begun a lent) h in
    let w' : words ≡ words_from (code_of s) ++ drop 270 ws = w ∙ ap (λ (a : Start.Started). words_begun a ws) h in
    rw (m', w') (words-machine s (drop 270 ws) g.clean (state-limits t s g.state).few)

-- a restore of a host that wakes a machine is the rules' restore
pub woken-wakes : (t file : List ℕ) (build : ℕ) (fs lent ws : List ℕ) (s : Rules.State) → restore_words t file build fs lent ws ≡ woken s
    → restore_of t file build fs lent ≡ woken s
unfolding restore_words if
woken-wakes t file build fs lent ws s = go (table_ok t) refl (ltb (length ws) 270) refl
  where
    mark : Snapshot.Restored → ℕ
    mark (woken s) = 1
    mark (unwoken e) = 0

    unwakes : (e : Refusal) → unwoken e ≡ woken s → ⊥
    unwakes e h = let z : ◌≡◌ {A = ℕ} 0 1 = ap mark h in omega arith

    go : (a : Bool) → table_ok t ≡ a → (b : Bool) → ltb (length ws) 270 ≡ b → restore_words t file build fs lent ws ≡ woken s
        → restore_of t file build fs lent ≡ woken s
    go true p false q h = rw (p, q) at h
    go true p true q h = absurd (unwakes bad_state (rw (p, q) at h))
    go false p b q h = absurd (unwakes bad_table (rw p at h))

pub woken-sound : (t file : List ℕ) (build : ℕ) (fs lent : List ℕ) (s : Rules.State) → restore_of t file build fs lent ≡ woken s → Passing t s
woken-sound t file build fs lent s e =
    record {
      table = (restore-wakes t file build fs lent s e).table;
      state = restored-passes t file build fs lent s e;
      clean = subst (WokenIs Clean) e (restore-clean t file build fs lent);
    }

-- the words that it leaves are the woken machine
pub woken-machine : (t file : List ℕ) (build : ℕ) (fs lent ws after words : List ℕ) → after ≡ memory_woken (restore_words t file build fs lent ws) lent
    → words ≡ words_after (restore_words t file build fs lent ws) ws → (s : Rules.State) → restore_words t file build fs lent ws ≡ woken s
    → state_from words after ≡ s
woken-machine t file build fs lent ws after words m w s h =
    let g = woken-sound t file build fs lent s (woken-wakes t file build fs lent ws s h) in
    let m' : after ≡ s.core.mem = m ∙ ap (λ (a : Snapshot.Restored). memory_woken a lent) h in
    let w' : words ≡ words_from (code_of s) ++ drop 270 ws = w ∙ ap (λ (a : Snapshot.Restored). words_after a ws) h in
    rw (m', w') (words-machine s (drop 270 ws) g.clean (state-limits t s g.state).few)
