-- A translation table in memory, a list of its characters, and what they have for a word.
-- Assumes nothing.
use Rattle.std.specs.Prelude.{ℕ, ◌+◌, ◌*◌, ◌≤◌, ◌<◌, ◌≡◌, List, length}
use Rattle.base.specs.Lists.{◌at◌}
use Rattle.ops.specs.Machine.{cfp_a}
use Rattle.words.specs.Words.{byte_of, word_of}
use Rattle.rules.specs.Operand.{char_in}

-- a table from the address t on has no character among the n from f on
abbrev pub Clear : ℕ → ℕ → ℕ → Type 0
Clear f n t = 0 < n → t < f + n → t + cfp_a ≤ f

-- the list l starts with the n characters from t on
abbrev pub Listed : ℕ → List ℕ → List ℕ → ℕ → Type 0
Listed n l m t = (i : ℕ) → i < n → l at i ≡ char_in m (t + i)

-- what the list l has for a character is below k
abbrev pub Below : ℕ → List ℕ → Type 0
Below k l = (i : ℕ) → i < cfp_a → l at i < k

-- the first n of the list k are those of l, each one place up in its word
abbrev pub Raised : ℕ → List ℕ → List ℕ → Type 0
Raised n k l = (i : ℕ) → i < n → k at i ≡ l at i * cfp_a

-- a list of characters, and three that have each of them one, two and three places up
pub record Lists (ones twos threes fours : List ℕ) : Type 0 where
  pub room : (cfp_a ≤ length ones) × (cfp_a ≤ length twos) × (cfp_a ≤ length threes) × (cfp_a ≤ length fours)
  pub chars : Below cfp_a ones
  pub second : Raised cfp_a twos ones
  pub third : Raised cfp_a threes twos
  pub fourth : Raised cfp_a fours threes

-- the word of what f has for the four characters of w
abbrev pub word_by : (ℕ → ℕ) → ℕ → ℕ
word_by f w = word_of (f (byte_of w 0)) (f (byte_of w 1)) (f (byte_of w 2)) (f (byte_of w 3))

-- what the table at t has for those of w, and what the list l has
abbrev pub mapped_word : List ℕ → ℕ → ℕ → ℕ
mapped_word m t w = word_by (λ b. char_in m (t + b)) w

abbrev pub listed_word : List ℕ → ℕ → ℕ
listed_word l w = word_by (λ b. l at b) w
