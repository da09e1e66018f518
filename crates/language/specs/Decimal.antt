-- The operand of a DRC card: a real number as it is written, and its two words [M 11.3] [02 Wish 5].
-- Taken where the papers are open: leading zeros count as digits; a text of another form has the words 0, as its card has a fault.
-- Assumes nothing.
use Rattle.std.specs.Prelude.{ℕ, ◌+◌, ◌*◌, ◌-◌, ◌^◌, Bool, true, false, not, List, [], ◌∷◌, eqb, leb, ltb, length, take, drop}
use Rattle.base.specs.Test.{if}
use Rattle.base.specs.Lists.{◌at◌}
use Rattle.real_rules.specs.Real.{constant, high_word, low_word}
use Rattle.language.specs.Text.{Parsed, all, byte, decimal, is_digit, number_of, parsed, parsed_if, span, unparsed}

-- What a text says: negative or not, the whole number of all digits, and how many of them stand after the point; or it has another form.
pub data Decimal : Type 0 where
  written : Bool → ℕ → ℕ → Decimal
  unwritten : Decimal

-- one to nine digits before the point, up to six after it [02 Wish 5]
abbrev pub max_before : ℕ
max_before = 9

abbrev pub max_after : ℕ
max_after = 6

abbrev pub before_point : ℕ → Bool
before_point b = not (eqb b (byte "."))

-- digits, maybe none
abbrev pub digits : List ℕ → Parsed
digits s = parsed_if (all is_digit s) (decimal 0 s)

-- the number before the point and the k digits after it, as one whole number
abbrev pub joined : Bool → Parsed → Parsed → ℕ → Decimal
joined s (parsed a) (parsed b) k = written s (a * 10 ^ k + b) k
joined s (parsed a) unparsed k = unwritten
joined s unparsed b k = unwritten

-- a text without its sign, whose point is at i
abbrev pub pointed_at : Bool → List ℕ → ℕ → Decimal
pointed_at s t i =
    if (ltb i (length t))
    (if (leb i max_before)
    (if (leb (length t - (i + 1)) max_after) (joined s (number_of (take i t)) (digits (drop (i + 1) t)) (length t - (i + 1))) unwritten)
    unwritten)
    unwritten

unfoldable pub pointed : Bool → List ℕ → Decimal
pointed s t = pointed_at s t (span before_point t)

-- an optional sign, digits, a point, digits [02 Wish 5]
unfoldable pub decimal_of : List ℕ → Decimal
decimal_of s =
    if (eqb (s at 0) (byte "-")) (pointed true (drop 1 s))
    (if (eqb (s at 0) (byte "+")) (pointed false (drop 1 s)) (pointed false s))

-- the two words of a real number, the low one first [02 Wish 5]
abbrev pub real_words : Decimal → List ℕ
real_words (written s n k) = low_word (constant s n k) ∷ high_word (constant s n k) ∷ []
real_words unwritten = 0 ∷ 0 ∷ []
