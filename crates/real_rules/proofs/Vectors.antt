-- Reference values of real arithmetic, by their bits; antt computes each.
-- Assumes nothing.
use Prim.Native.Nat.{ℕ, ◌^◌, ◌%◌, ◌/◌}
use mathlib.Core.Path.{◌≡◌, refl}
use mathlib.Core.Bool.{true, false}
use mathlib.Core.List.{[], ◌∷◌, map}
use lib.Ieee.{binary64, add, sub, mul, div, neg, lt, eq, of_int, of_bits, to_bits}
use Rattle.base.specs.Test.{◌and◌, if}
use Rattle.words.specs.Words.{signed, fits}
use Rattle.real_rules.specs.Real.{quotient, constant, Real, value, overflow, both, negated, tests, zero_real, Whole, within, beyond, whole_of, of_word, real_of}

-- a pattern as a real, a real as its pattern, or 1 where it is overflow, which no sum, difference, product or quotient below gives as a value
abbrev x : ℕ → Real
x b = real_of (b % 2 ^ 32) (b / 2 ^ 32)

abbrev bits : Real → ℕ
bits (value v) = to_bits binary64 v
bits overflow = 1

-- 0.1 + 0.2; 1e308 × 10; 1 / 0; 0 / 0; -0 of 0; the least value halved; the largest value plus itself; 1 - 1; an infinite operand; a NaN operand; 1 / an infinite operand
pub reference-sums :
    bits (both (add binary64) (x 0x3fb999999999999a) (x 0x3fc999999999999a))
    ∷ bits (both (mul binary64) (x 0x7fe1ccf385ebc8a0) (x 0x4024000000000000))
    ∷ bits (both (div binary64) (x 0x3ff0000000000000) (x 0))
    ∷ bits (both (div binary64) (x 0) (x 0))
    ∷ bits (negated (x 0))
    ∷ bits (both (mul binary64) (x 1) (x 0x3fe0000000000000))
    ∷ bits (both (add binary64) (x 0x7fefffffffffffff) (x 0x7fefffffffffffff))
    ∷ bits (both (sub binary64) (x 0x3ff0000000000000) (x 0x3ff0000000000000))
    ∷ bits (both (add binary64) (x 0x3ff0000000000000) (x 0x7ff0000000000000))
    ∷ bits (both (add binary64) (x 0x3ff0000000000000) (x 0x7ff8000000000000))
    ∷ bits (both (div binary64) (x 0x3ff0000000000000) (x 0xfff0000000000000))
    ∷ []
    ≡ 0x3fd3333333333334 ∷ 1 ∷ 1 ∷ 1 ∷ 0x8000000000000000 ∷ 0 ∷ 1 ∷ 0 ∷ 1 ∷ 1 ∷ 1 ∷ []
unfolding real_of add sub mul div neg of_bits to_bits
reference-sums = refl

-- RTI. A pattern's whole part as a word, or 2^32 where it is out of range:
-- 0; -0; 0.999..; -0.999..; 1; -1.5; 2147483647; 2147483647.999; 2147483648; -2147483648; -2147483648.9; -2147483649; the largest value; the least; an infinity; a NaN
abbrev whole : Whole → ℕ
whole (within w) = w
whole beyond = 2 ^ 32

pub reference-wholes :
    map (λ b. whole (whole_of (x b)))
    (0 ∷ 0x8000000000000000 ∷ 0x3fefffffffffffff ∷ 0xbfefffffffffffff ∷ 0x3ff0000000000000 ∷ 0xbff8000000000000
    ∷ 0x41dfffffffc00000 ∷ 0x41dfffffffffef9e ∷ 0x41e0000000000000 ∷ 0xc1e0000000000000 ∷ 0xc1e00000001ccccd ∷ 0xc1e0000000200000
    ∷ 0x7fefffffffffffff ∷ 1 ∷ 0x7ff0000000000000 ∷ 0x7ff8000000000000 ∷ [])
    ≡ 0 ∷ 0 ∷ 0 ∷ 0 ∷ 1 ∷ 4294967295 ∷ 2147483647 ∷ 2147483647 ∷ 4294967296 ∷ 2147483648 ∷ 2147483648 ∷ 4294967296 ∷ 4294967296 ∷ 0 ∷ 4294967296 ∷ 4294967296 ∷ []
unfolding real_of of_bits fits if
reference-wholes = refl

-- ITR: 0, 1, -1, 2147483647, -2147483648
pub reference-words :
    map (λ w. bits (of_word w)) (0 ∷ 1 ∷ 4294967295 ∷ 2147483647 ∷ 2147483648 ∷ [])
    ≡ 0 ∷ 0x3ff0000000000000 ∷ 0xbff0000000000000 ∷ 0x41dfffffffc00000 ∷ 0xc1e0000000000000 ∷ []
unfolding signed if of_int to_bits
reference-words = refl

-- REQ and RLT of 0, -0, the least value, its negation
pub reference-tests :
    map (λ b. tests (λ v. eq v zero_real) (x b)) (0 ∷ 0x8000000000000000 ∷ 1 ∷ 0x8000000000000001 ∷ []) ≡ true ∷ true ∷ false ∷ false ∷ []
unfolding real_of of_bits eq
reference-tests = refl

pub reference-signs :
    map (λ b. tests (λ v. lt v zero_real) (x b)) (0 ∷ 0x8000000000000000 ∷ 1 ∷ 0x8000000000000001 ∷ []) ≡ false ∷ false ∷ false ∷ true ∷ []
unfolding real_of of_bits lt
reference-signs = refl

-- DRC: sign, digits and places as bits: 0.1; 999999999.999999; 1.000000; 0.0; -0.0; -0.5; 123.; 000000001.5
pub reference-constants :
    to_bits binary64 (constant false 1 1) ∷ to_bits binary64 (constant false 999999999999999 6) ∷ to_bits binary64 (constant false 1000000 6) ∷ to_bits binary64 (constant false 0 1)
    ∷ to_bits binary64 (constant true 0 1) ∷ to_bits binary64 (constant true 5 1) ∷ to_bits binary64 (constant false 123 0) ∷ to_bits binary64 (constant false 15 1) ∷ []
    ≡ 0x3fb999999999999a ∷ 0x41cdcd64fffffff8 ∷ 0x3ff0000000000000 ∷ 0 ∷ 0 ∷ 0xbfe0000000000000 ∷ 0x405ec00000000000 ∷ 0x3ff8000000000000 ∷ []
unfolding constant quotient if ◌and◌ div neg of_int to_bits
reference-constants = refl
