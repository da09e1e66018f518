-- The file written part by part, and the writer's answers.
-- Assumes nothing.
use Prim.Native.Nat.{ℕ, ◌+◌, ◌*◌, ◌≤◌}
use mathlib.Core.Path.{◌≡◌, refl, sym, ◌∙◌}
use mathlib.Core.List.{List, [], ◌∷◌, ◌++◌, append_assoc}
use native.Mathlib.Omega.{arith}
use lib.ListN.{length, take, length-append}
use lib.Seq.{length-take-le}
use Rattle.base.specs.Test.{Ok}
use Rattle.ops.specs.Machine.{max_memory}
use Rattle.rules.specs.State.{state_ok}
use Rattle.rules.specs.Table.{constants, fresh_count, workings}
use Rattle.rules.specs.Snapshot.{bytes_from, file_by, file_of, file_words, fresh_list, hidden, new_form, real_part, trailer}
use Rattle.rules.proofs.Bytes.{length-bytes_from}
use Rattle.rules.proofs.Files.{StateLimits, length-fresh_list, link_words-links, state-limits}
use Rattle.rules.proofs.Memory.{length-refreshed}
use Rattle.states.specs.declared.State.{State}
use Rattle.states.specs.Views.{links_of, state_of, words_of}
use Rattle.states.proofs.Front.{links-front, links-length}
use Rattle.snap_core.specs.Buffers.{put}
use Rattle.snap_core.proofs.Puts.{put-put}

-- the sizes of a state that passes
pub record Measured (t mem : List ℕ) (s : State) : Type 0 where
  pub most : length mem ≤ max_memory
  pub own : constants t + workings t ≤ length mem
  pub few : s.count ≤ 256
  pub links : length (links_of s.count s.links) ≡ s.count

pub measured : (t mem : List ℕ) (s : State) → length s.links ≡ 256 → Ok (state_ok t (state_of s mem)) → Measured t mem s
measured t mem s full h =
    let l : StateLimits t (state_of s mem) = state-limits t (state_of s mem) h in
    let e : length (links_of s.count s.links) ≡ s.count = links-length s.count s.links full in
    record { most = l.high; own = omega (arith, l.room); few = omega (arith, l.few); links = e }

-- bytes of words behind words
bytes_from-append : (xs ys : List ℕ) → bytes_from (xs ++ ys) ≡ bytes_from xs ++ bytes_from ys
unfolding bytes_from
bytes_from-append [] ys = refl
bytes_from-append (x ∷ xs) ys = rw (bytes_from-append xs ys)

-- one part more behind the words that stand in front
pub put-more : (l p q xs ys : List ℕ) (a : ℕ) → p ≡ put l 0 (bytes_from xs) → a ≡ 4 * length xs → q ≡ put p a (bytes_from ys)
    → q ≡ put l 0 (bytes_from (xs ++ ys))
put-more l p q xs ys a e f h =
    let n : a ≡ 0 + length (bytes_from xs) = omega (arith, length-bytes_from xs) in
    rw (h, e, n, bytes_from-append xs ys) (put-put l 0 (bytes_from xs) (bytes_from ys) (omega arith))

-- memory, links, fresh addresses and trailer are the file
put-file : (t mem l q ls fs ws : List ℕ) (s : State) (build : ℕ) → ls ≡ links_of s.count s.links
    → fs ≡ fresh_list t 0 (fresh_count t) → ws ≡ real_part new_form (words_of s) ++ trailer new_form t (state_of s mem) build
    → q ≡ put l 0 (bytes_from (hidden t mem ++ ls ++ fs ++ ws)) → q ≡ put l 0 (file_of t (state_of s mem) build)
unfolding file_by file_words
put-file t mem l q ls fs ws s build a b c h =
    rw (link_words-links, append_assoc (hidden t mem ++ links_of s.count s.links ++ fresh_list t 0 (fresh_count t)) (real_part new_form (words_of s)) (trailer new_form t (state_of s mem) build)) (rw (a, b, c) at h)

-- the four parts, each just behind the one before, are the file
pub write-parts : (t mem room p q u v ls fs ws : List ℕ) (s : State) (build a b c k : ℕ) → Measured t mem s → length s.links ≡ 256
    → k ≡ s.count → ls ≡ take k s.links → fs ≡ fresh_list t 0 (fresh_count t) → ws ≡ real_part new_form (words_of s) ++ trailer new_form t (state_of s mem) build
    → p ≡ put room 0 (bytes_from (hidden t mem)) → q ≡ put p a (bytes_from ls) → u ≡ put q b (bytes_from fs) → v ≡ put u c (bytes_from ws)
    → a ≡ 4 * length mem → b ≡ a + 4 * k → c ≡ a + 4 * (k + fresh_count t) → v ≡ put room 0 (file_of t (state_of s mem) build)
write-parts t mem room p q u v ls fs ws s build a b c k d full e el ef ew hp hq hu hv na nb nc =
    let h0 : length (hidden t mem) ≡ length mem = length-refreshed t [] mem in
    let h1 : length ls ≡ k = rw el (length-take-le k s.links (omega (arith, d.few))) in
    let h2 : length fs ≡ fresh_count t = rw ef (length-fresh_list t 0 (fresh_count t)) in
    let links : ls ≡ links_of s.count s.links = el ∙ rw e (sym (links-front s.count s.links d.few)) in
    put-file t mem room v ls fs ws s build links ef ew
    (put-more room u v (hidden t mem ++ ls ++ fs) ws c
    (put-more room q u (hidden t mem ++ ls) fs b (put-more room p q (hidden t mem) ls a hp (omega arith) hq)
    (simp length-append (omega arith)) hu)
    (simp length-append (omega arith)) hv)
