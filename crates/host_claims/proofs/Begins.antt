-- What a start or a restore leaves with the answer 0 passes the check, and is words of 32 bits.
-- Assumes nothing.
use Prim.Native.Nat.{ℕ}
use mathlib.Core.Path.{◌≡◌, refl, sym, ap, ◌∙◌}
use mathlib.Core.List.{List, ◌++◌}
use native.Mathlib.Omega.{arith}
use lib.ListN.{drop}
use Rattle.rules.specs.Number.{Refusal, unfit_memory, bad_table, bad_state, over_budget, not_resumable, bad_trailer, other_program, bad_frozen, fresh_count_off, memory_length_off, short_room, refusal_number}
use Rattle.rules.specs.Alike.{AreWords}
use Rattle.rules.specs.Snapshot as Snapshot
use Rattle.rules.specs.Snapshot.{unwoken, woken}
use Rattle.rules.specs.Start as Start
use Rattle.rules.specs.Start.{begun, unbegun}
use Rattle.rules.specs.State as Rules
use Rattle.rules.proofs.Files.{state-limits}
use Rattle.states.specs.Views.{code_of}
use Rattle.lent.specs.Lent.{state_from, words_from}
use Rattle.host_claims.specs.Running.{start_number, start_words, words_begun}
use Rattle.host_claims.specs.Freezing.{restore_words, woken_number, words_after}
use Rattle.host_claims.specs.Calls.{Begun, HostBegins, by_restore, by_start}
use Rattle.host_claims.proofs.Checked.{Checked, checked-number, lawful-words}
use Rattle.host_claims.proofs.Machines.{Passing, begun-sound, full-links, woken-sound, woken-wakes}

-- no refusal has the number 0
pub refused-number : (e : Refusal) → refusal_number e ≡ 0 → ⊥
refused-number unfit_memory h = omega arith
refused-number bad_table h = omega arith
refused-number bad_state h = omega arith
refused-number over_budget h = omega arith
refused-number not_resumable h = omega arith
refused-number bad_trailer h = omega arith
refused-number other_program h = omega arith
refused-number bad_frozen h = omega arith
refused-number fresh_count_off h = omega arith
refused-number memory_length_off h = omega arith
refused-number short_room h = omega arith

-- a start that answers 0 has begun, and a restore that answers 0 has woken
pub record Begins (x : Start.Started) : Type 0 where
  pub state : Rules.State
  pub is : x ≡ begun state

pub start-begins : (x : Start.Started) → start_number x ≡ 0 → Begins x
start-begins (begun s) h = record { state = s; is = refl }
start-begins (unbegun e) h = absurd (refused-number e h)

pub record Wakes (x : Snapshot.Restored) : Type 0 where
  pub state : Rules.State
  pub is : x ≡ woken state

pub restore-wakes : (x : Snapshot.Restored) → woken_number x ≡ 0 → Wakes x
restore-wakes (woken s) h = record { state = s; is = refl }
restore-wakes (unwoken e) h = absurd (refused-number e h)

-- words of a machine that passes, in front of others
passing-checked : (t : List ℕ) (s : Rules.State) (rest ws mem : List ℕ) → Passing t s → ws ≡ words_from (code_of s) ++ rest → state_from ws mem ≡ s
    → Checked t ws mem
passing-checked t s rest ws mem p w e =
    record {
      table = p.table;
      is_state = rw w (lawful-words (code_of s) rest (full-links s (state-limits t s p.state).few));
      state = rw e p.state;
    }

pub begun-checked : (t ws mem : List ℕ) → Begun t ws mem → Checked t ws mem
begun-checked t ws mem (by_start k lent fs x room h) =
    let b = start-begins (start_words k t lent fs x room) (sym h.number) in
    passing-checked t b.state (drop 270 room) ws mem (begun-sound k t lent fs x room b.state b.is)
    (h.state ∙ ap (λ (a : Start.Started). words_begun a room) b.is) (h.machine b.state b.is)
begun-checked t ws mem (by_restore file build fs lent room h) =
    let b = restore-wakes (restore_words t file build fs lent room) (sym h.number) in
    passing-checked t b.state (drop 270 room) ws mem
    (woken-sound t file build fs lent b.state (woken-wakes t file build fs lent room b.state b.is))
    (h.state ∙ ap (λ (a : Snapshot.Restored). words_after a room) b.is) (h.machine b.state b.is)

pub begun-words : (t ws mem : List ℕ) → Begun t ws mem → AreWords ws × AreWords mem
begun-words t ws mem (by_start k lent fs x room h) = (h.state_words, h.memory_words)
begun-words t ws mem (by_restore file build fs lent room h) = (h.state_words, h.memory_words)

pub host-begins : HostBegins
unfolding HostBegins
host-begins t ws mem b = checked-number t ws mem (begun-checked t ws mem b)
