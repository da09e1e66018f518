-- Real arithmetic [02 Wish 5]: RA is a 64-bit float, kept as two words, the low one first.
-- A float of the logic is `nan`, `inf s` or `fin s m e`, the number m × 2^e with sign s; what is believed of it is lib.Ieee: each operation is
-- the exact result, rounded once to the nearest, a tie to the even one.
-- Taken where the papers are open: a result too small is what rounding gives, a subnormal or a zero with its sign.
-- Assumes nothing.
use Rattle.std.specs.Prelude.{ℕ, ◌+◌, ◌*◌, ◌/◌, ◌%◌, ◌^◌, Bool, true, false, not, List, eqb, ltb, leb, ℤ, pos, neg_ℤ, set, Float}
use Rattle.std.specs.Float.{nan, inf, fin, binary64}
use Rattle.std.specs.Float.Ieee.{up, down, div, neg, is_nan, of_int, of_bits, to_bits}
use Rattle.base.specs.Test.{◌and◌, if}
use Rattle.base.specs.Lists.{◌at◌}
use Rattle.ops.specs.Machine.{cfp_n, RA, RAHIGH, RFLAG}
use Rattle.words.specs.Words.{signed, low, fits}

-- a real operation answers either a finite value or overflow
pub data Real : Type 0 where
  value : Float → Real
  overflow : Real

abbrev pub answer : Float → Real
answer nan = overflow
answer (inf s) = overflow
answer (fin s m e) = value (fin s m e)

-- the 64 bits of two words, the low one first, and the two words of a float
abbrev pub pair : ℕ → ℕ → ℕ
pair lo hi = lo + hi * 2 ^ cfp_n

abbrev pub low_word : Float → ℕ
low_word x = to_bits binary64 x % 2 ^ cfp_n

abbrev pub high_word : Float → ℕ
high_word x = to_bits binary64 x / 2 ^ cfp_n

-- what a word pair holds; a pair that is not finite is overflow
unfoldable pub real_of : ℕ → ℕ → Real
real_of lo hi = answer (of_bits binary64 (pair lo hi))

-- the pair is finite, by its high word: the exponent's field is not all ones
abbrev pub finite_high : ℕ → Bool
finite_high hi = ltb (hi % 2 ^ 31) (2047 * 2 ^ 20)

-- the answer of an operation on two reals, rounded once
abbrev pub both : (Float → Float → Float) → Real → Real → Real
both f (value x) (value y) = answer (f x y)
both f (value x) overflow = overflow
both f overflow y = overflow

abbrev pub negated : Real → Real
negated (value x) = value (neg x)
negated overflow = overflow

-- a value, where there is one, is no NaN
abbrev pub proper : Real → Bool
proper (value x) = not (is_nan x)
proper overflow = true

-- a test of a real; overflow passes none
abbrev pub tests : (Float → Bool) → Real → Bool
tests f (value x) = f x
tests f overflow = false

abbrev pub zero_real : Float
zero_real = fin false 0 (pos 0)

-- n with a sign, and the whole part of a float, cut toward zero
abbrev pub with_sign : Bool → ℕ → ℤ
with_sign s n = if s (neg_ℤ (pos n)) (pos n)

abbrev pub cut : Float → ℤ
cut nan = pos 0
cut (inf s) = pos 0
cut (fin s m e) = with_sign s (m * up e / down e)

-- RTI's answer: the word that IA takes, or none where the whole part is out of range [M 8.6]
pub data Whole : Type 0 where
  within : ℕ → Whole
  beyond : Whole

abbrev pub ranged : ℤ → Whole
ranged n = if (fits n) (within (low n)) beyond

abbrev pub whole_of : Real → Whole
whole_of (value x) = ranged (cut x)
whole_of overflow = beyond

-- RA and the words after an answer: a value goes to RA and lowers the flag, overflow raises it and RA stays
abbrev pub ra_of : List ℕ → Real
ra_of z = real_of (z at RA) (z at RAHIGH)

unfoldable pub settled : Real → List ℕ → List ℕ
settled (value x) z = set (set (set z RA (low_word x)) RAHIGH (high_word x)) RFLAG 0
settled overflow z = set z RFLAG 1

-- ITR: the float of IA [M 8.5]
abbrev pub of_word : ℕ → Real
of_word w = value (of_int binary64 (signed w))

-- what the state check asks of RA: it is finite, and its flag is 0 or 1
abbrev pub real_ok : List ℕ → Bool
real_ok z = finite_high (z at RAHIGH) and leb (z at RFLAG) 1

-- DRC: n, the whole number of all digits, divided once by 10^k for k digits after the point; zero is +0 [M 11.3]
unfoldable pub quotient : ℕ → ℕ → Float
quotient n k = div binary64 (of_int binary64 (pos n)) (of_int binary64 (pos (10 ^ k)))

unfoldable pub constant : Bool → ℕ → ℕ → Float
constant s n k = if (s and not (eqb n 0)) (neg (quotient n k)) (quotient n k)
