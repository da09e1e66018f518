-- A word in decimal digits, digit by digit.
-- Assumes nothing.
use Prim.Native.Nat.{ℕ, ◌+◌, ◌*◌, ◌-◌, ◌<◌, ◌≤◌}
use mathlib.Core.Path.{◌≡◌, refl}
use mathlib.Core.Bool.{Bool, true, false}
use mathlib.Core.List.{List, [], ◌∷◌}
use native.Mathlib.Numerals.{add-one}
use native.Mathlib.Omega.{arith}
use borrow.Author.Tests.{eq-eqb, ne_eqb, le-leb, lt-leb}
use lib.ListN.{drop, drop_of_length-le, length}
use lib.Seq.{drop-cons}
use Rattle.base.specs.Test.{◌and◌, if}
use Rattle.base.specs.Lists.{◌at◌}
use Rattle.language.specs.Text.{Parsed, all, byte, decimal, is_digit, number_of, parsed, parsed_if, unparsed}
use Rattle.asm_types.specs.Views.{most_word}
use Rattle.console.specs.Word.{fitting, word_of}

-- the word that digits make after a number n
abbrev pub more : ℕ → List ℕ → Parsed
more n s = fitting (parsed_if (all is_digit s) (decimal n s))

pub more-start : (s : List ℕ) → (length s ≡ 0 → ⊥) → more 0 s ≡ word_of s
unfolding number_of ◌and◌
more-start s h = rw (ne_eqb (length s) 0 h) refl

pub none-long : (s : List ℕ) → length s ≡ 0 → unparsed ≡ word_of s
unfolding number_of ◌and◌ if
none-long s h = rw (eq-eqb (length s) 0 h) refl

-- more digits make no smaller number
decimal-grows : (n : ℕ) (s : List ℕ) → n ≤ decimal n s
decimal-grows n [] = omega arith
decimal-grows n (b ∷ bs) = omega (arith, decimal-grows (10 * n + (b - byte "0")) bs)

-- a number over the largest word, whatever follows
pub more-over : (n : ℕ) (s : List ℕ) → most_word < n → unparsed ≡ more n s
unfolding if
more-over n s h = go (all is_digit s)
  where
    go : (t : Bool) → unparsed ≡ fitting (parsed_if t (decimal n s))
    go true = rw (lt-leb (decimal n s) most_word (omega (arith, decimal-grows n s))) refl
    go false = refl

module _ (n : ℕ) (s : List ℕ) (i : ℕ) where
  pub more-digit : i < length s → is_digit (s at i) ≡ true → more (10 * n + (s at i - byte "0")) (drop (i + 1) s) ≡ more n (drop i s)
  unfolding ◌and◌
  more-digit h e = rw (add-one, drop-cons s i 0 h, e) refl

  pub more-stop : i < length s → is_digit (s at i) ≡ false → unparsed ≡ more n (drop i s)
  unfolding ◌and◌ if
  more-stop h e = rw (drop-cons s i 0 h, e) refl

  pub more-out : length s ≤ i → n ≤ most_word → parsed n ≡ more n (drop i s)
  unfolding if
  more-out h l =
      let d : drop i s ≡ [] = drop_of_length-le s {i = i} h in
      rw (d, le-leb n most_word l) refl
