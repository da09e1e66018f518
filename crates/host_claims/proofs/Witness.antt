-- The theorems say something: the reference program, started, with WA written by the host, is a machine that a host has. Computed.
-- Assumes nothing.
use Prim.Native.Nat.{ℕ}
use mathlib.Core.Path.{◌≡◌, refl}
use mathlib.Core.Bool.{Bool, true}
use mathlib.Core.List.{List, [], ◌∷◌, ◌++◌}
use native.Mathlib.Omega.{arith}
use lib.Dec.{ltb}
use lib.ListN.{drop, replicate}
use Rattle.base.specs.Test.{◌and◌, if, Ok}
use Rattle.base.proofs.Bool.{and_l, and_r, ok-lt}
use Rattle.rules.specs.Alike.{AreWords}
use Rattle.rules.specs.Claim.{to_register, wa}
use Rattle.rules.specs.Table.{constants, fresh_count, section4, start_word, workings}
use Rattle.rules.specs.Reference.{begins, reference}
use Rattle.rules.specs.Start.{begun, filled, loaded, plain, refreshed, started, supplied}
use Rattle.rules.specs.State as Rules
use Rattle.rules.proofs.Bytes.{are_words-cons, are_words-nil}
use Rattle.rules.proofs.Vectors.{reference-passes, reference-starts}
use Rattle.states.specs.Views.{code_of}
use Rattle.lent.specs.Lent.{words_from}
use Rattle.host_claims.specs.Calls.{by_start, words_written}
use Rattle.host_claims.specs.Running.{HostStarts, start_words}
use Rattle.host_claims.specs.RoundTrip.{Held}
use Rattle.host_claims.proofs.Machines.{begun-machine}

-- every element is a word, as a test
unfoldable all_words : List ℕ → Bool
all_words [] = true
all_words (w ∷ ws) = ltb w 4294967296 and all_words ws

all_words_lem : (l : List ℕ) → Ok (all_words l) → AreWords l
unfolding all_words
all_words_lem [] h = are_words-nil
all_words_lem (w ∷ ws) h = are_words-cons w ws (ok-lt w 4294967296 (and_l _ _ h)) (all_words_lem ws (and_r _ _ h))

abbrev first : Rules.State
first = begins reference 0

abbrev room : List ℕ
room = replicate 270 0

-- the plain start, in 256 words of 7, with room for its state
starts : start_words plain reference (replicate 256 7) [] 0 room ≡ begun first
unfolding start_words if
starts = rw reference-passes reference-starts

memory-small : Ok (all_words first.core.mem)
unfolding all_words ◌and◌ Ok started loaded refreshed supplied filled constants workings fresh_count start_word
memory-small = tt

state-small : Ok (all_words (words_from (code_of first) ++ drop 270 room))
unfolding all_words ◌and◌ Ok started loaded refreshed supplied filled constants workings fresh_count start_word section4
state-small = tt

reference-begun : HostStarts plain reference (replicate 256 7) [] 0 room 0 first.core.mem (words_from (code_of first) ++ drop 270 room)
reference-begun =
    record {
      number = rw starts;
      memory = rw starts;
      state = rw starts;
      machine = begun-machine plain reference (replicate 256 7) [] 0 room first.core.mem (words_from (code_of first) ++ drop 270 room) (rw starts) (rw starts);
      memory_words = all_words_lem _ memory-small;
      state_words = all_words_lem _ state-small;
    }

-- with WA written by the host
pub reference-held : Held reference (words_written (words_from (code_of first) ++ drop 270 room) (to_register wa 7 ∷ [])) first.core.mem
reference-held =
    record {
      begun_with = words_from (code_of first) ++ drop 270 room;
      first_memory = first.core.mem;
      begun = by_start plain (replicate 256 7) [] 0 room reference-begun;
      calls = [];
      promised = tt;
      last = to_register wa 7 ∷ [];
      are_words = (omega arith, tt);
      words_are = refl;
      memory_is = refl;
    }
