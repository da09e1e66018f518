-- A state that a host lends as words: XL XR XS WA WB WC IA, the flag, the place, whether the state waits, the count of its links, then
-- 256 links, oldest first, then RA's low word, its high word and its flag [02 Wish 5].
-- Taken where 01 is open: words behind these are not looked at; fewer words than these, or a flag or waiting word other than 0 or 1,
-- fail the state check.
-- Assumes nothing.
use Rattle.std.specs.Prelude.{ℕ, Bool, List, [], ◌∷◌, ◌++◌, eqb, leb, length, take, drop}
use Rattle.base.specs.Test.{◌and◌}
use Rattle.base.specs.Lists.{◌at◌}
use Rattle.ops.specs.Machine.{max_links}
use Rattle.rules.specs.Control.{state_at}
use Rattle.rules.specs.Snapshot.{bit}
use Rattle.rules.specs.Start.{machine_words}
use Rattle.rules.specs.State as Rules
use Rattle.states.specs.Views.{links_of}
use Rattle.states.specs.declared.State.{State}

-- enough words, and the flag and the waiting word are 0 or 1
unfoldable pub lawful : List ℕ → Bool
lawful ws = leb 270 (length ws) and leb (ws at 7) 1 and leb (ws at 9) 1

-- the 256 links
abbrev pub links_lent : List ℕ → List ℕ
links_lent ws = take max_links (drop 11 ws)

-- the state of these words with the memory mem
abbrev pub state_from : List ℕ → List ℕ → Rules.State
state_from ws mem =
    state_at
    (record {
      words =
          machine_words (ws at 0) (ws at 1) (ws at 2) (ws at 3) (ws at 4) (ws at 5) (ws at 6) (bit (eqb (ws at 7) 1)) (ws at 267) (ws at 268)
          (ws at 269);
      mem = mem;
    })
    (ws at 8) (eqb (ws at 9) 1) (links_of (ws at 10) (links_lent ws))

-- the same as the code holds it
abbrev pub code_from : List ℕ → State
code_from ws =
    record {
      xl = ws at 0;
      xr = ws at 1;
      xs = ws at 2;
      wa = ws at 3;
      wb = ws at 4;
      wc = ws at 5;
      ia = ws at 6;
      flag = eqb (ws at 7) 1;
      pc = ws at 8;
      waiting = eqb (ws at 9) 1;
      count = ws at 10;
      links = links_lent ws;
      ra_low = ws at 267;
      ra_high = ws at 268;
      real_flag = ws at 269;
    }

-- the words of a state: those in front of the links, those behind, and all 270
abbrev pub head_of : State → List ℕ
head_of s =
    s.xl ∷ s.xr ∷ s.xs ∷ s.wa ∷ s.wb ∷ s.wc ∷ s.ia ∷ bit s.flag ∷ s.pc ∷ bit s.waiting ∷ s.count ∷ []

abbrev pub tail_of : State → List ℕ
tail_of s = s.ra_low ∷ s.ra_high ∷ s.real_flag ∷ []

abbrev pub words_from : State → List ℕ
words_from s = head_of s ++ s.links ++ tail_of s
