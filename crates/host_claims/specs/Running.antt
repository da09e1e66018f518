-- What start, run and resume answer a host, and each word that is lent to them, in terms of the rules.
-- Taken where 01 is open: words that are no state are 31, and so is room of fewer words than a state has; both are judged after 30.
-- Wrong answers that the equations rule out: steps in the upper half, a refused run that changes the state's words, a start of 31 on a bad table,
-- a warm start that clears what was lent.
-- Assumes nothing.
use Rattle.std.specs.Prelude.{ℕ, ◌+◌, ◌≡◌, not, List, ◌++◌, ltb, length, drop}
use Rattle.base.specs.Test.{if}
use Rattle.rules.specs.Number.{refusal_number, outcome_number, bad_table, bad_state, upper}
use Rattle.rules.specs.Check.{table_ok}
use Rattle.rules.specs.State as Rules
use Rattle.rules.specs.Run as Run
use Rattle.rules.specs.Run.{Call, answer, ended, left, nowhere, refused, steps_in}
use Rattle.rules.specs.Start as Start
use Rattle.rules.specs.Start.{Mode, begun, memory_begun, start_of, unbegun}
use Rattle.rules.specs.Alike.{AreWords}
use Rattle.states.specs.Views.{code_of}
use Rattle.lent.specs.Lent.{lawful, state_from, words_from}

-- 30, or 31 where the table passes
unfoldable pub unread_number : List ℕ → ℕ
unread_number t = if (table_ok t) (refusal_number bad_state) (refusal_number bad_table)

-- 30, then 31 for words that are no state, then what the rules answer of the state that the words are
unfoldable pub call_words : List ℕ → List ℕ → List ℕ → Call → Run.Answer
call_words t ws mem c =
    if (not (table_ok t)) (refused bad_table) (if (not (lawful ws)) (refused bad_state) (answer t (state_from ws mem) c))

-- the number of an answer
abbrev pub call_number : Run.Answer → ℕ
call_number (refused e) = refusal_number e
call_number (ended o k s) = outcome_number o
call_number nowhere = 0

-- the lent state afterwards: the words of the state that is left in front, or as it was
abbrev pub words_left : Run.Answer → List ℕ → List ℕ
words_left (refused e) ws = ws
words_left (ended o k s) ws = words_from (code_of s) ++ drop 270 ws
words_left nowhere ws = ws

-- run's promise to a host: number and steps, the lent memory, the lent state's words, that these are the state that the rules leave, and that
-- all are words of 32 bits
pub record HostRuns (t ws mem : List ℕ) (c : Call) (r : ℕ) (after words : List ℕ) : Type 0 where
  pub number : r ≡ upper (call_number (call_words t ws mem c)) + steps_in (call_words t ws mem c)
  pub memory : after ≡ (left (state_from ws mem) (call_words t ws mem c)).core.mem
  pub state : words ≡ words_left (call_words t ws mem c) ws
  pub machine : state_from words after ≡ left (state_from ws mem) (call_words t ws mem c)
  pub memory_words : AreWords after
  pub state_words : AreWords words

-- resume's promise to a host: the number, the lent state's words, and the same of these; the lent memory is only read
pub record HostResumes (t ws mem : List ℕ) (c : Call) (r : ℕ) (words : List ℕ) : Type 0 where
  pub number : r ≡ call_number (call_words t ws mem c)
  pub state : words ≡ words_left (call_words t ws mem c) ws
  pub machine : state_from words mem ≡ left (state_from ws mem) (call_words t ws mem c)
  pub memory_words : AreWords mem
  pub state_words : AreWords words

-- 30, then 31 for too little room for a state, then what the rules start in this mode; of the lent state only its length counts
unfoldable pub start_words : Mode → List ℕ → List ℕ → List ℕ → ℕ → List ℕ → Start.Started
start_words k t lent fs x ws =
    if (not (table_ok t)) (unbegun bad_table) (if (ltb (length ws) 270) (unbegun bad_state) (start_of k t lent fs x))

abbrev pub start_number : Start.Started → ℕ
start_number (begun s) = 0
start_number (unbegun e) = refusal_number e

abbrev pub words_begun : Start.Started → List ℕ → List ℕ
words_begun (begun s) ws = words_from (code_of s) ++ drop 270 ws
words_begun (unbegun e) ws = ws

-- start's promise to a host, plain or warm [02 Wish 6]: the number, the lent memory, the lent state's words, that these are the started machine,
-- and that all are words
pub record HostStarts (k : Mode) (t lent fs : List ℕ) (x : ℕ) (ws : List ℕ) (r : ℕ) (after words : List ℕ) : Type 0 where
  pub number : r ≡ start_number (start_words k t lent fs x ws)
  pub memory : after ≡ memory_begun (start_words k t lent fs x ws) lent
  pub state : words ≡ words_begun (start_words k t lent fs x ws) ws
  pub machine : (s : Rules.State) → start_words k t lent fs x ws ≡ begun s → state_from words after ≡ s
  pub memory_words : AreWords after
  pub state_words : AreWords words
