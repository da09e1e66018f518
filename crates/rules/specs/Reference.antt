-- The reference runs and the reference program, as the paper lists them [S Reference runs].
-- Runs 1 to 7 are steps from place 0 of a small table; run 8 is a card, and its words are what the assembler makes of it.
-- Assumes nothing.
use Rattle.std.specs.Prelude.{ℕ, ◌-◌, false, List, [], ◌∷◌, ◌++◌, length, replicate}
use Rattle.base.specs.Lists.{◌at◌}
use Rattle.ops.specs.Machine.{XL, XR, XS, WA, WB, WC, IA}
use Rattle.rules.specs.Number.{outcome_number, refusal_number}
use Rattle.rules.specs.State.{State}
use Rattle.rules.specs.Control.{state_at}
use Rattle.rules.specs.Run.{Answer, Call, ended, nowhere, refused, runs}
use Rattle.rules.specs.Start.{own_words, started}

-- a table with two constant words and six working words, whose place 0 holds the entry e; it goes on to place 1 or branches to place 2
abbrev pub around : List ℕ → List ℕ
around e =
    (5 ∷ 2 ∷ 6 ∷ 0 ∷ 0 ∷ 0 ∷ 3 ∷ 4 ∷ []) ++ e
    ++ 102 ∷ 6 ∷ 0 ∷ 1 ∷ 0 ∷ 0 ∷ 0 ∷ 0
    ∷ 102 ∷ 6 ∷ 0 ∷ 2 ∷ 0 ∷ 0 ∷ 0 ∷ 0
    ∷ 102 ∷ 6 ∷ 0 ∷ 3 ∷ 0 ∷ 0 ∷ 0 ∷ 0
    ∷ 102 ∷ 6 ∷ 0 ∷ 4 ∷ 0 ∷ 0 ∷ 0 ∷ 0
    ∷ replicate 8 0

-- 256 words of memory, the first as given, the others 0
abbrev pub memory : List ℕ → List ℕ
memory l = l ++ replicate (256 - length l) 0

-- the machine with these words and this memory, at place 0
abbrev pub before : List ℕ → List ℕ → State
before z m = state_at (record { words = z; mem = memory m }) 0 false []

-- place, WA, WB, IA's bits after one step
abbrev pub outcome : Answer → List ℕ
outcome (refused n) = refusal_number n ∷ []
outcome nowhere = []
outcome (ended e k s) = s.pc ∷ s.core.words at WA ∷ s.core.words at WB ∷ s.core.words at IA ∷ []

-- the runs, as f answers a step of the entry e with WA a, WB b, IA's bits i and word 0 of memory v, and with the words that run 8's card gives
abbrev pub runs_by : (List ℕ → State → Call → Answer) → List ℕ → List (List ℕ)
runs_by f text =
    let one_step : List ℕ → ℕ → ℕ → ℕ → ℕ → List ℕ = λ e v a b i. outcome (f (around e) (before (own_words 0 0 0 a b 0 i 0) (v ∷ [])) (runs 1)) in
    -- (1) CTW of 32, of 0 and of 33 with 2
    one_step (807 ∷ 8 ∷ 4 ∷ 0 ∷ 1 ∷ 0 ∷ 2 ∷ 0 ∷ []) 0 32 0 0
    ∷ one_step (807 ∷ 8 ∷ 4 ∷ 0 ∷ 1 ∷ 0 ∷ 2 ∷ 0 ∷ []) 0 0 0 0
    ∷ one_step (807 ∷ 8 ∷ 4 ∷ 0 ∷ 1 ∷ 0 ∷ 2 ∷ 0 ∷ []) 0 33 0 0
    -- (2) CVD of -523
    ∷ one_step (812 ∷ 0 ∷ 0 ∷ 0 ∷ 0 ∷ 0 ∷ 0 ∷ 0 ∷ []) 0 0 0 4294966773
    -- (3) CVM of -214748364 with 56 and with 57
    ∷ one_step (811 ∷ 6 ∷ 0 ∷ 2 ∷ 0 ∷ 0 ∷ 0 ∷ 0 ∷ []) 0 0 56 4080218932
    ∷ one_step (811 ∷ 6 ∷ 0 ∷ 2 ∷ 0 ∷ 0 ∷ 0 ∷ 0 ∷ []) 0 0 57 4080218932
    -- (4) ADD 2 to 4294967295
    ∷ one_step (201 ∷ 1 ∷ 0 ∷ 2 ∷ 8 ∷ 4 ∷ 0 ∷ 0 ∷ []) 0 4294967295 0 0
    -- (5) AOV 1 to 2147483646 and to 2147483647
    ∷ one_step (217 ∷ 1 ∷ 0 ∷ 1 ∷ 8 ∷ 4 ∷ 0 ∷ 3 ∷ []) 0 2147483646 0 0
    ∷ one_step (217 ∷ 1 ∷ 0 ∷ 1 ∷ 8 ∷ 4 ∷ 0 ∷ 3 ∷ []) 0 2147483647 0 0
    -- (6) RMI and DVI of -7 by 2
    ∷ one_step (406 ∷ 3 ∷ 0 ∷ 0 ∷ 0 ∷ 0 ∷ 0 ∷ 0 ∷ []) 2 0 0 4294967289
    ∷ one_step (405 ∷ 3 ∷ 0 ∷ 0 ∷ 0 ∷ 0 ∷ 0 ∷ 0 ∷ []) 2 0 0 4294967289
    -- (7) MFI of -1 and of 2147483647
    ∷ one_step (804 ∷ 8 ∷ 4 ∷ 0 ∷ 6 ∷ 0 ∷ 2 ∷ 0 ∷ []) 0 5 0 4294967295
    ∷ one_step (804 ∷ 8 ∷ 4 ∷ 0 ∷ 6 ∷ 0 ∷ 2 ∷ 0 ∷ []) 0 5 0 2147483647
    -- (8) DTC /ABCDE/
    ∷ text
    ∷ []

-- what they give: place, WA, WB and IA's bits of each step, and run 8's words
abbrev pub runs_give : List ℕ → List (List ℕ)
runs_give text =
    (1 ∷ 10 ∷ 0 ∷ 0 ∷ []) ∷ (1 ∷ 2 ∷ 0 ∷ 0 ∷ []) ∷ (1 ∷ 11 ∷ 0 ∷ 0 ∷ [])
    ∷ (1 ∷ 51 ∷ 0 ∷ 4294967244 ∷ [])
    ∷ (1 ∷ 0 ∷ 0 ∷ 2147483648 ∷ []) ∷ (2 ∷ 0 ∷ 0 ∷ 4080218932 ∷ [])
    ∷ (1 ∷ 1 ∷ 0 ∷ 0 ∷ [])
    ∷ (1 ∷ 2147483647 ∷ 0 ∷ 0 ∷ []) ∷ (2 ∷ 2147483648 ∷ 0 ∷ 0 ∷ [])
    ∷ (1 ∷ 0 ∷ 0 ∷ 4294967295 ∷ []) ∷ (1 ∷ 0 ∷ 0 ∷ 4294967293 ∷ [])
    ∷ (2 ∷ 5 ∷ 0 ∷ 0 ∷ []) ∷ (1 ∷ 2147483647 ∷ 0 ∷ 0 ∷ [])
    ∷ text ∷ []

-- The table of the reference program: header, an entry to a line with its card, the exit count of SYSXX.
abbrev pub reference : List ℕ
reference =
    13 ∷ 0 ∷ 0 ∷ 0 ∷ 1 ∷ 0 ∷ 11 ∷ 12  -- n, c, w, fresh words, EXPs, starts of sections 4, 5, 6
    ∷ 101 ∷ 1 ∷ 0 ∷ 3 ∷ 8 ∷ 4 ∷ 0 ∷ 0  -- 0 START MOV =THREE,WA
    ∷ 109 ∷ 6 ∷ 0 ∷ 6 ∷ 0 ∷ 0 ∷ 0 ∷ 0  -- 1 JSR ADDUP
    ∷ 110 ∷ 6 ∷ 0 ∷ 3 ∷ 0 ∷ 0 ∷ 0 ∷ 0  -- 2 PPM DONE$
    ∷ 109 ∷ 23 ∷ 0 ∷ 0 ∷ 0 ∷ 0 ∷ 0 ∷ 0  -- 3 DONE$ JSR SYSXX
    ∷ 110 ∷ 0 ∷ 0 ∷ 0 ∷ 0 ∷ 0 ∷ 0 ∷ 0  -- 4 PPM .
    ∷ 102 ∷ 6 ∷ 0 ∷ 0 ∷ 0 ∷ 0 ∷ 0 ∷ 0  -- 5 BRN START
    ∷ 111 ∷ 1 ∷ 0 ∷ 1 ∷ 0 ∷ 0 ∷ 0 ∷ 0  -- 6 ADDUP PRC R,1
    ∷ 116 ∷ 8 ∷ 5 ∷ 0 ∷ 0 ∷ 0 ∷ 0 ∷ 0  -- 7 LOOPA ICV WB
    ∷ 216 ∷ 8 ∷ 4 ∷ 0 ∷ 6 ∷ 0 ∷ 7 ∷ 0  -- 8 BCT WA,LOOPA
    ∷ 112 ∷ 1 ∷ 0 ∷ 1 ∷ 0 ∷ 0 ∷ 0 ∷ 0  -- 9 EXI 1
    ∷ 113 ∷ 0 ∷ 0 ∷ 0 ∷ 0 ∷ 0 ∷ 0 ∷ 0  -- 10 ENP
    ∷ 115 ∷ 1 ∷ 0 ∷ 1 ∷ 0 ∷ 0 ∷ 0 ∷ 0  -- 11 ERB 1,STACK FULL
    ∷ 102 ∷ 6 ∷ 0 ∷ 0 ∷ 0 ∷ 0 ∷ 0 ∷ 0  -- 12 BRN START
    ∷ 1 ∷ []

-- the state that the host gets by start with m = 256, argument x and no fresh words, its memory lent as zeros
abbrev pub begins : List ℕ → ℕ → State
begins t x = started t (replicate 256 0) [] x

-- what the trial program prints: ending, steps, place, open links, XL, XR, XS, WA, WB, WC, IA
abbrev pub line : Answer → List ℕ
line (refused n) = refusal_number n ∷ []
line nowhere = []
line (ended e k s) =
    let z = s.core.words in
    outcome_number e ∷ k ∷ s.pc ∷ length s.links ∷ z at XL ∷ z at XR ∷ z at XS ∷ z at WA ∷ z at WB ∷ z at WC ∷ z at IA ∷ []
