-- What holds of both starts over the functions that a host calls, proved from their promises and from the rules' laws about any started machine.
-- Assumes nothing.
use Prim.Native.Nat.{ℕ, ◌<◌}
use mathlib.Core.Path.{◌≡◌, refl, sym, ap, subst, ◌∙◌}
use mathlib.Core.Bool.{Bool, true, false}
use mathlib.Core.List.{List}
use lib.Dec.{ltb}
use lib.ListN.{length}
use Rattle.base.specs.Test.{if}
use Rattle.base.specs.Lists.{◌at◌}
use Rattle.base.proofs.Bool.{by-if}
use Rattle.rules.specs.Check.{table_ok}
use Rattle.rules.specs.Start as Start
use Rattle.rules.specs.Start.{Mode, begun, initial, memory_begun, plain, started, start_on, unbegun, warm}
use Rattle.rules.specs.State as Rules
use Rattle.rules.specs.Table.{fresh_count, fresh_index}
use Rattle.rules.specs.Alike.{StartsAgree}
use Rattle.rules.proofs.Canonical.{BegunIs, begun-is}
use Rattle.rules.proofs.Memory.{length-loaded}
use Rattle.rules.proofs.Starts.{length-initial, plain-forgets, started-fresh, starts-agree}
use Rattle.host_claims.specs.Running.{HostStarts, start_number, start_words, words_begun}
use Rattle.host_claims.specs.Calls.{HostBegins, by_start}
use Rattle.host_claims.specs.Starts.{HostForgets, HostStartClaims, HostStartsAlike, StartClaim, StartsAlike}
use Rattle.host_claims.proofs.Begins.{host-begins, refused-number, start-begins}

-- One start.

-- the machine that begins on m: its length is that of m, and its fresh words are fs
record On (t m fs : List ℕ) (s : Rules.State) : Type 0 where
  pub memory_length : length s.core.mem ≡ length m
  pub fresh : (i : ℕ) → i < fresh_count t → s.core.mem at fresh_index t i ≡ fs at i

length-started : (t m fs : List ℕ) (x : ℕ) → length (started t m fs x).core.mem ≡ length m
unfolding started
length-started t m fs x = length-loaded t fs m

begun-on : (t m fs : List ℕ) (x : ℕ) → BegunIs (On t m fs) (start_on t m fs x)
begun-on t m fs x =
    begun-is (On t m fs) t m fs x (λ ok fits. record { memory_length = length-started t m fs x; fresh = started-fresh t m fs x ok fits })

words-on : (k : Mode) (t lent fs : List ℕ) (x : ℕ) (ws : List ℕ) → BegunIs (On t (initial k lent) fs) (start_words k t lent fs x ws)
unfolding start_words
words-on k t lent fs x ws =
    by-if (BegunIs (On t (initial k lent) fs)) _ _ _ (λ e. tt)
    (λ a. by-if (BegunIs (On t (initial k lent) fs)) _ _ _ (λ e. tt) (λ b. begun-on t (initial k lent) fs x))

pub host-start-claims : HostStartClaims
unfolding HostStartClaims HostBegins
host-start-claims k t lent fs x ws n mem words h = go (start_words k t lent fs x ws) refl (words-on k t lent fs x ws)
  where
    go : (a : Start.Started) → start_words k t lent fs x ws ≡ a → BegunIs (On t (initial k lent) fs) a → StartClaim t lent fs ws n mem words
    go (begun s) e o =
        let m : mem ≡ s.core.mem = h.memory ∙ ap (λ (a : Start.Started). memory_begun a lent) e in
        let z : n ≡ 0 = h.number ∙ ap start_number e in
        record {
          memory_length = rw m (o.memory_length ∙ length-initial k lent);
          refused_keeps = λ r. absurd (r z);
          fresh = λ q i l. rw m (o.fresh i l);
          passes = λ q. host-begins t words mem (by_start k lent fs x ws (subst (λ (r : ℕ). HostStarts k t lent fs x ws r mem words) z h));
        }
    go (unbegun e) h' o =
        let m : mem ≡ lent = h.memory ∙ ap (λ (a : Start.Started). memory_begun a lent) h' in
        let w : words ≡ ws = h.state ∙ ap (λ (a : Start.Started). words_begun a ws) h' in
        let z : n ≡ 0 → ⊥ = λ q. refused-number e (sym (h.number ∙ ap start_number h') ∙ q) in
        record { memory_length = rw m; refused_keeps = λ r. (m, w); fresh = λ q. absurd (z q); passes = λ q. absurd (z q) }

-- Both.

words-agree : (t lent fs : List ℕ) (x : ℕ) (ws : List ℕ) → StartsAgree t lent (start_words plain t lent fs x ws) (start_words warm t lent fs x ws)
unfolding start_words if
words-agree t lent fs x ws = go (table_ok t) refl (ltb (length ws) 270) refl
  where
    go : (a : Bool) → table_ok t ≡ a → (b : Bool) → ltb (length ws) 270 ≡ b
        → StartsAgree t lent (start_words plain t lent fs x ws) (start_words warm t lent fs x ws)
    go false p b q = rw p refl
    go true p true q = rw (p, q) refl
    go true p false q = rw (p, q) (starts-agree t lent fs x)

pub host-starts-alike : HostStartsAlike
unfolding HostStartsAlike
host-starts-alike t lent fs x ws n n' mem mem' words words' h h' =
    go (start_words plain t lent fs x ws) (start_words warm t lent fs x ws) (words-agree t lent fs x ws) h.number h'.number h.memory h'.memory h.state
    h'.state
  where
    go : (a b : Start.Started) → StartsAgree t lent a b → n ≡ start_number a → n' ≡ start_number b → mem ≡ memory_begun a lent → mem' ≡ memory_begun b lent
        → words ≡ words_begun a ws → words' ≡ words_begun b ws → StartsAlike t lent n n' mem mem' words words'
    go (begun p) (begun w) s i j m m' z z' =
        record {
          number = i ∙ sym j;
          state = z ∙ rw (s.pc, s.waiting, s.links, s.words) (sym z');
          program = λ q l. rw (m, m') (s.program q l);
          cleared = λ r q l. rw m (s.cleared q l);
          kept = λ q l. rw m' (s.kept q l);
        }
    go (unbegun e) (unbegun e') s i j m m' z z' =
        record {
          number = i ∙ ap (λ (a : Start.Started). start_number a) (ap unbegun s) ∙ sym j;
          state = z ∙ sym z';
          program = λ q l. rw (m, m');
          cleared = λ r. absurd (refused-number e (sym i ∙ r));
          kept = λ q l. rw m';
        }
    go (begun p) (unbegun e) s i j m m' z z' = absurd s
    go (unbegun e) (begun w) s i j m m' z z' = absurd s

-- The plain one.

pub host-forgets : HostForgets
unfolding HostForgets start_words
host-forgets t lent lent' fs x ws n n' mem mem' words words' e h h' =
    let u : start_words plain t lent fs x ws ≡ start_words plain t lent' fs x ws = rw (plain-forgets t lent lent' fs x e) in
    let i : n ≡ n' = h.number ∙ ap start_number u ∙ sym h'.number in
    (i, h.state ∙ ap (λ (a : Start.Started). words_begun a ws) u ∙ sym h'.state, same_memory u)
  where
    same_memory : start_words plain t lent fs x ws ≡ start_words plain t lent' fs x ws → n ≡ 0 → mem ≡ mem'
    same_memory u z =
        let b = start-begins (start_words plain t lent fs x ws) (sym h.number ∙ z) in
        h.memory ∙ ap (λ (a : Start.Started). memory_begun a lent) b.is
        ∙ sym (h'.memory ∙ ap (λ (a : Start.Started). memory_begun a lent') (sym u ∙ b.is))
