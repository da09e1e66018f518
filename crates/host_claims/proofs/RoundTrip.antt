-- The round trip and the secrecy of fresh words over the functions that a host calls, proved from their promises and from the rules' theorems.
-- Assumes nothing.
use Prim.Native.Nat.{ℕ, ◌^◌, ◌<◌, ◌≤◌}
use mathlib.Core.Path.{◌≡◌, refl, sym, ap, subst, ◌∙◌}
use mathlib.Core.List.{List, [], ◌∷◌, ◌++◌}
use native.Mathlib.Omega.{arith}
use lib.Dec.{eqb}
use lib.ListN.{length, set, take, drop, length-drop}
use lib.Seq.{length-take-le}
use borrow.Author.Tests.{le-ltb}
use Rattle.base.specs.Test.{if}
use Rattle.base.specs.Lists.{◌at◌}
use Rattle.base.proofs.Bool.{test-true}
use Rattle.rules.specs.Alike.{AreWords, Plain}
use Rattle.rules.specs.Claim.{Write, to_ia, to_memory, to_register}
use Rattle.rules.specs.Run.{Call, resumes, runs}
use Rattle.rules.specs.Snapshot as Snapshot
use Rattle.rules.specs.Snapshot.{awakened, file_length, file_of, new_form, filled, restore_of, room_after, woken, write_of}
use Rattle.rules.specs.State as Rules
use Rattle.rules.specs.State.{Link}
use Rattle.rules.specs.Table.{fresh_count, fresh_index}
use Rattle.rules.proofs.Files.{are_words-set, bit_le, length-file_of}
use Rattle.rules.proofs.Plains.{are_words-own}
use Rattle.rules.proofs.Snapshots.{awakened-same, restore-written, restored-fresh, same-file, same-written}
use Rattle.states.proofs.Front.{links-length}
use Rattle.lent.specs.Lent.{links_lent, state_from}
use Rattle.host_claims.specs.Freezing.{HostRestores, HostWrites, file_number, restore_words, woken_number, write_words}
use Rattle.host_claims.specs.Calls.{AllPromised, HostCallClaims, HostCalls, Made, Promised, by_restore, memory_written, register_at, words_written}
use Rattle.host_claims.specs.RoundTrip.{Held, HostRoundTrip, HostSecret, Woken, WritesWords, last_memory, last_words}
use Rattle.host_claims.proofs.Begins.{begun-checked, begun-words}
use Rattle.host_claims.proofs.Calls.{host-calls}
use Rattle.host_claims.proofs.Checked.{Checked, checked-number, lawful-length, number-checked, written-checked}

-- Words stay words: of what calls leave by their promises, and where the host writes words.

record Words (ws mem : List ℕ) : Type 0 where
  pub state : AreWords ws
  pub memory : AreWords mem

left-words : (t ws mem : List ℕ) (c : Call) (m : Made) → Promised t ws mem c m → Words m.words m.memory
left-words t ws mem (runs k) m p = record { state = p.state_words; memory = p.memory_words }
left-words t ws mem (resumes x) m p = record { state = p.0.state_words; memory = rw p.1 p.0.memory_words }

last-words : (t : List ℕ) (ms : List Made) (ws mem : List ℕ) → AllPromised t ws mem ms → Words ws mem → Words (last_words ws ms) (last_memory mem ms)
last-words t [] ws mem p h = h
last-words t (m ∷ ms) ws mem p h = last-words t ms m.words m.memory p.1 (left-words t _ _ m.call m p.0)

written-words : (us : List Write) (ws mem : List ℕ) → WritesWords us → Words ws mem → Words (words_written ws us) (memory_written mem us)
written-words [] ws mem b h = h
written-words (to_memory i v ∷ us) ws mem b h =
    written-words us ws (set mem i v) b.1 (record { state = h.state; memory = are_words-set mem i v b.0 h.memory })
written-words (to_register r v ∷ us) ws mem b h =
    written-words us (set ws (register_at r) v) mem b.1 (record { state = are_words-set ws (register_at r) v b.0 h.state; memory = h.memory })
written-words (to_ia v ∷ us) ws mem b h =
    written-words us (set ws 6 v) mem b.1 (record { state = are_words-set ws 6 v b.0 h.state; memory = h.memory })

-- every machine of words is plain
words-plain : (ws mem : List ℕ) (build : ℕ) → Words ws mem → build < 2 ^ 32 → Plain (state_from ws mem) build
words-plain ws mem build h b =
    record {
      build_word = b;
      memory_words = h.memory;
      own_are_words =
          are_words-own (ws at 0) (ws at 1) (ws at 2) (ws at 3) (ws at 4) (ws at 5) (ws at 6) _ (ws at 267) (ws at 268) (ws at 269) (h.state.below 0) (h.state.below 1) (h.state.below 2)
          (h.state.below 3) (h.state.below 4) (h.state.below 5) (h.state.below 6) (omega (arith, bit_le (eqb (ws at 7) 1))) (h.state.below 267)
          (h.state.below 268) (h.state.below 269);
      own-layout = refl;
      flag_bit = bit_le (eqb (ws at 7) 1);
    }

-- The machine that a host has passes its check.

last-checked : (t : List ℕ) (ms : List Made) (ws mem : List ℕ) (b : List Link) → Checked t ws mem → HostCallClaims t ws mem b ms
    → Checked t (last_words ws ms) (last_memory mem ms)
last-checked t [] ws mem b h c = h
last-checked t (m ∷ ms) ws mem b h c = last-checked t ms m.words m.memory _ (number-checked t m.words m.memory c.0.passes) c.1

record Holds (t ws mem : List ℕ) : Type 0 where
  pub checked : Checked t ws mem
  pub words : Words ws mem

held : (t ws mem : List ℕ) → Held t ws mem → Holds t ws mem
unfolding HostCalls
held t ws mem h =
    let b : Checked t h.begun_with h.first_memory = begun-checked t h.begun_with h.first_memory h.begun in
    let w = begun-words t h.begun_with h.first_memory h.begun in
    let first : Words h.begun_with h.first_memory = record { state = w.0; memory = w.1 } in
    let claims = host-calls t h.begun_with h.first_memory h.calls (checked-number t h.begun_with h.first_memory b) h.promised in
    rw (h.words_are, h.memory_is)
    (record {
      checked = written-checked t _ _ h.last (last-checked t h.calls h.begun_with h.first_memory _ b claims);
      words = written-words h.last _ _ h.are_words (last-words t h.calls h.begun_with h.first_memory h.promised first);
    })

-- The writer, on words that pass.

module _ (t ws mem : List ℕ) (build : ℕ) (room : List ℕ) (h : Checked t ws mem) where
  written_is : write_words t ws mem build room ≡ write_of t (state_from ws mem) build room
  unfolding write_words if
  written_is = rw (test-true _ h.table, test-true _ h.is_state)

  -- as many links as the count says
  link-count : length (state_from ws mem).links ≡ ws at 10
  link-count =
      links-length (ws at 10) (links_lent ws)
      (length-take-le 256 (drop 11 ws) (simp length-drop (omega (arith, lawful-length ws h.is_state))))

  file-length : length (file_of t (state_from ws mem) build) ≡ file_length new_form (length mem) (ws at 10) (fresh_count t)
  file-length = length-file_of t (state_from ws mem) build ∙ ap (λ (k : ℕ). file_length new_form (length mem) k (fresh_count t)) link-count

  -- with room enough the file is written
  fits-written : file_length new_form (length mem) (ws at 10) (fresh_count t) ≤ length room
      → write_of t (state_from ws mem) build room
      ≡ filled (file_of t (state_from ws mem) build ++ drop (file_length new_form (length mem) (length (state_from ws mem).links) (fresh_count t)) room)
  unfolding write_of if
  fits-written l =
      rw (test-true _ h.table, test-true _ h.state, le-ltb (length room) (file_length new_form (length mem) (length (state_from ws mem).links) (fresh_count t)) (rw link-count l))

-- The round trip.

module _ (t ws mem : List ℕ) (g : Holds t ws mem) (build : ℕ) (b : build < 2 ^ 32) (room : List ℕ) (r : ℕ) (after : List ℕ)
    (wrote : HostWrites t ws mem build room r after) (fits : file_length new_form (length mem) (ws at 10) (fresh_count t) ≤ length room) where
  wrote-file :
      after ≡ file_of t (state_from ws mem) build ++ drop (file_length new_form (length mem) (length (state_from ws mem).links) (fresh_count t)) room
  wrote-file =
      wrote.bytes ∙ ap (λ (w : Snapshot.Written). room_after w room) (written_is t ws mem build room g.checked ∙ fits-written t ws mem build room g.checked fits)

  -- the rules' writer leaves what was left
  wrote-filled : write_of t (state_from ws mem) build room ≡ filled after
  wrote-filled = fits-written t ws mem build room g.checked fits ∙ ap filled (sym wrote-file)

  wrote-length : r ≡ length (file_of t (state_from ws mem) build)
  wrote-length =
      wrote.number
      ∙ ap (λ (w : Snapshot.Written). file_number w (length (file_of t (state_from ws mem) build))) (written_is t ws mem build room g.checked ∙ wrote-filled)

  module _ (front fs lent room' : List ℕ) (n : ℕ) (mem' ws' : List ℕ) (supply : length fs ≡ fresh_count t) (lending : length lent ≡ length mem)
      (space : 270 ≤ length room') (restored : HostRestores t (front ++ take r after) build fs lent room' n mem' ws') where
    wakes : restore_of t (front ++ take r after) build fs lent ≡ woken (awakened t fs (state_from ws mem))
    wakes =
        rw wrote-length
        (restore-written t (state_from ws mem) build room after wrote-filled front fs lent (words-plain ws mem build g.words b) supply lending)

    host-wakes : restore_words t (front ++ take r after) build fs lent room' ≡ woken (awakened t fs (state_from ws mem))
    unfolding restore_words if
    host-wakes = rw (test-true _ g.checked.table, le-ltb (length room') 270 space) wakes

    zero-told : n ≡ 0
    zero-told = restored.number ∙ ap woken_number host-wakes

    machine : state_from ws' mem' ≡ awakened t fs (state_from ws mem)
    machine = restored.machine (awakened t fs (state_from ws mem)) host-wakes

    woken-so : Woken t ws mem fs n mem' ws'
    woken-so =
        record {
          number = zero-told;
          same = rw machine (awakened-same t fs (state_from ws mem));
          fresh = λ i l. ap (λ (s : Rules.State). s.core.mem at fresh_index t i) machine ∙ restored-fresh t _ build fs lent _ wakes i l;
          passes =
              checked-number t ws' mem'
              (begun-checked t ws' mem'
              (by_restore _ build fs lent room' (subst (λ (k : ℕ). HostRestores t (front ++ take r after) build fs lent room' k mem' ws') zero-told restored)));
        }

pub host-round-trip : HostRoundTrip
unfolding HostRoundTrip
host-round-trip t ws mem h build b room r after wrote fits =
    let g : Holds t ws mem = held t ws mem h in (
      wrote-length t ws mem g build b room r after wrote fits ∙ file-length t ws mem build room g.checked,
      λ front fs lent room' n mem' ws'. woken-so t ws mem g build b room r after wrote fits front fs lent room' n mem' ws',
    )

-- Secrecy.

pub host-secret : HostSecret
unfolding HostSecret
host-secret t ws ws' mem mem' p p' same build room r r' after after' a a' =
    let h : Checked t ws mem = number-checked t ws mem p in
    let h' : Checked t ws' mem' = number-checked t ws' mem' p' in
    let e : write_words t ws mem build room ≡ write_words t ws' mem' build room =
    written_is t ws mem build room h ∙ same-written t (state_from ws mem) (state_from ws' mem') build room same
    ∙ sym (written_is t ws' mem' build room h') in
    let f : file_of t (state_from ws mem) build ≡ file_of t (state_from ws' mem') build = same-file t (state_from ws mem) (state_from ws' mem') build same in
    (a.number ∙ rw (e, f) (sym a'.number), a.bytes ∙ rw e (sym a'.bytes))
