-- The texts of DRC: the words that each writes, or none; computed [M 11.3] [02 Wish 5].
-- Assumes nothing.
use Prim.Native.Nat.{ℕ}
use mathlib.Core.Path.{◌≡◌, refl}
use mathlib.Core.List.{List, [], ◌∷◌, map}
use lib.Ieee.{div, neg, of_int, to_bits}
use Rattle.base.specs.Test.{◌and◌, if}
use Rattle.real_rules.specs.Real.{constant, quotient}
use Rattle.language.specs.Text.{between, number_of}
use Rattle.language.specs.Decimal.{Decimal, decimal_of, pointed, real_words, unwritten, written}
use Rattle.language.proofs.Deck.{bytes}

abbrev words_read : Decimal → List ℕ
words_read (written s n k) = real_words (written s n k)
words_read unwritten = []

-- 0.1 is 3fb99999 9999999a; zero is +0 with either sign; the most digits
pub real-texts :
    map (λ s. words_read (decimal_of (bytes s)))
    ("0.1" ∷ "-0.1" ∷ "5." ∷ "-0." ∷ "+0.000000" ∷ "+999999999.999999" ∷ "000000001.5" ∷ [])
    ≡ (0x9999999a ∷ 0x3fb99999 ∷ []) ∷ (0x9999999a ∷ 0xbfb99999 ∷ []) ∷ (0 ∷ 0x40140000 ∷ []) ∷ (0 ∷ 0 ∷ []) ∷ (0 ∷ 0 ∷ [])
    ∷ (0xfffffff8 ∷ 0x41cdcd64 ∷ []) ∷ (0 ∷ 0x3ff80000 ∷ []) ∷ []
unfolding decimal_of pointed number_of between constant quotient if ◌and◌ div neg of_int to_bits
real-texts = refl

-- no point, no digit before it, ten digits before it, seven after it, two signs, an exponent, a second point, nothing
pub no-real-texts :
    map (λ s. words_read (decimal_of (bytes s)))
    ("5" ∷ ".5" ∷ "1234567890." ∷ "0.1234567" ∷ "+-5." ∷ "1.0E5" ∷ "1.5." ∷ "+." ∷ "" ∷ [])
    ≡ [] ∷ [] ∷ [] ∷ [] ∷ [] ∷ [] ∷ [] ∷ [] ∷ [] ∷ []
unfolding decimal_of pointed number_of between if ◌and◌
no-real-texts = refl
