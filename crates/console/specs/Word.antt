-- A word as it is written in an argument: decimal digits, of a number up to the largest word.
-- Assumes nothing.
use Rattle.std.specs.Prelude.{ℕ, List, leb, Option, Some, None}
use Rattle.language.specs.Text.{Parsed, number_of, parsed, parsed_if, unparsed}
use Rattle.asm_types.specs.Views.{most_word}

-- a number that is a word
abbrev pub fitting : Parsed → Parsed
fitting (parsed n) = parsed_if (leb n most_word) n
fitting unparsed = unparsed

-- the word that a text's digits make
abbrev pub word_of : List ℕ → Parsed
word_of s = fitting (number_of s)

abbrev pub word_view : Option ℕ → Parsed
word_view (Some w) = parsed w
word_view None = unparsed
