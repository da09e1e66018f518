-- The code's state and its memory as the rules' state, and a state of the rules in code.
-- Assumes nothing.
use Rattle.std.specs.Prelude.{ℕ, ◌-◌, false, List, [], ◌++◌, eqb, length, replicate, take}
use Rattle.base.specs.Lists.{◌at◌}
use Rattle.ops.specs.Machine.{max_links, XL, XR, XS, WA, WB, WC, IA, FLAG, RA, RAHIGH, RFLAG}
use Rattle.rules.specs.Control.{state_at}
use Rattle.rules.specs.Snapshot.{bit}
use Rattle.rules.specs.Start.{first_words, machine_words}
use Rattle.rules.specs.State as Rules
use Rattle.rules.specs.Table.{section4}
use Rattle.states.specs.declared.State.{State}

-- k links of the array ls; where k is over the limit, a list of k links all the same, so that the rules refuse it
unfoldable pub links_of : ℕ → List ℕ → List ℕ
links_of k ls = take k ls ++ replicate (k - max_links) 0

-- the machine's own words
abbrev pub words_of : State → List ℕ
words_of s =
    machine_words s.xl s.xr s.xs s.wa s.wb s.wc s.ia (bit s.flag) s.ra_low s.ra_high s.real_flag

abbrev pub state_of : State → List ℕ → Rules.State
state_of s mem =
    state_at (record { words = words_of s; mem = mem }) s.pc s.waiting (links_of s.count s.links)

-- the code's state of a machine: registers, IA, flag, place, waiting, the links with 0 behind them, RA and its flag
abbrev pub code_of : Rules.State → State
code_of s =
    record {
      xl = s.core.words at XL;
      xr = s.core.words at XR;
      xs = s.core.words at XS;
      wa = s.core.words at WA;
      wb = s.core.words at WB;
      wc = s.core.words at WC;
      ia = s.core.words at IA;
      flag = eqb (s.core.words at FLAG) 1;
      pc = s.pc;
      waiting = s.waiting;
      count = length s.links;
      links = s.links ++ replicate (max_links - length s.links) 0;
      ra_low = s.core.words at RA;
      ra_high = s.core.words at RAHIGH;
      real_flag = s.core.words at RFLAG;
    }

-- nothing but 0: what stands beside a refusal where no state was lent
unfoldable pub blank : State
blank =
    record {
      xl = 0;
      xr = 0;
      xs = 0;
      wa = 0;
      wb = 0;
      wc = 0;
      ia = 0;
      flag = false;
      pc = 0;
      waiting = false;
      count = 0;
      links = replicate 256 0;
      ra_low = 0;
      ra_high = 0;
      real_flag = 0;
    }

-- the fresh state: section 4 begins with it, in m words of memory and with the argument x in WA
unfoldable pub fresh_of : List ℕ → ℕ → ℕ → State
fresh_of t m x = code_of (state_at (record { words = first_words t m x; mem = [] }) (section4 t) false [])
