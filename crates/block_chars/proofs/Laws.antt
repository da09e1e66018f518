-- Characters read and stored in memory, by their address and by their word.
-- Assumes nothing.
use Prim.Native.Nat.{ℕ, ◌+◌, ◌*◌, ◌/◌, ◌%◌, ◌^◌, ◌<◌}
use mathlib.Core.Path.{◌≡◌, refl, sym, ap, ◌∙◌}
use mathlib.Core.Bool.{Bool, true, false}
use mathlib.Core.List.{List}
use native.Mathlib.Omega.{arith}
use lib.Dec.{eqb}
use lib.ListN.{length, set, length-set}
use lib.Seq.{get_or-set_same, get_or-set_other}
use borrow.Author.Tests.{eqb-true, eqb-false}
use Rattle.base.specs.Lists.{◌at◌}
use Rattle.words.specs.Words.{byte_of, with_byte, word_of}
use Rattle.words.proofs.Laws.{byte_of-lt, byte_of-with_byte-same, byte_of-with_byte-other, word_of-bytes}
use Rattle.rules.specs.Operand.{char_in, with_char}
use Rattle.block_chars.specs.Chars.{Within}

-- each element is a word
abbrev pub AllWords : List ℕ → Type 0
AllWords m = (i : ℕ) → m at i < 2 ^ 32

-- words with the same characters are equal
pub same_bytes : (u w : ℕ) → u < 2 ^ 32 → w < 2 ^ 32 → byte_of u 0 ≡ byte_of w 0 → byte_of u 1 ≡ byte_of w 1 → byte_of u 2 ≡ byte_of w 2 → byte_of u 3 ≡ byte_of w 3 → u ≡ w
same_bytes u w h k p q r s = sym (word_of-bytes u h) ∙ four p q r s ∙ word_of-bytes w k
  where
    four : {a b c d a' b' c' d' : ℕ} → a ≡ a' → b ≡ b' → c ≡ c' → d ≡ d' → word_of a b c d ≡ word_of a' b' c' d'
    four e f g h = rw (e, f, g, h)

-- the character k of the word i, read and stored
pub char_of : (m : List ℕ) (i k : ℕ) → k < 4 → char_in m (4 * i + k) ≡ byte_of (m at i) k
unfolding char_in
char_of m i k h = let q : (4 * i + k) / 4 ≡ i = omega arith in let r : (4 * i + k) % 4 ≡ k = omega arith in rw (q, r)

pub with-of : (m : List ℕ) (i k b : ℕ) → k < 4 → with_char m (4 * i + k) b ≡ set m i (with_byte (m at i) k b)
unfolding with_char
with-of m i k b h = let q : (4 * i + k) / 4 ≡ i = omega arith in let r : (4 * i + k) % 4 ≡ k = omega arith in rw (q, r)

-- a character stored changes no length
pub length-with_char : (m : List ℕ) (a v : ℕ) → length (with_char m a v) ≡ length m
unfolding with_char
length-with_char m a v = length-set m _ _

-- a character is below 256
pub char-lt : (m : List ℕ) (a : ℕ) → char_in m a < 256
unfolding char_in
char-lt m a = byte_of-lt (m at (a / 4)) (a % 4)

-- a character read where it was stored, and elsewhere
pub stored : (m : List ℕ) (a b : ℕ) → Within m a 1 → b < 256 → char_in (with_char m a b) a ≡ b
unfolding char_in with_char
stored m a b l h = rw (get_or-set_same m (a / 4) (with_byte (m at (a / 4)) (a % 4) b) 0 (omega arith)) (byte_of-with_byte-same (m at (a / 4)) (a % 4) h)

pub elsewhere : (m : List ℕ) (a b e : ℕ) → Within m a 1 → b < 256 → (e ≡ a → ⊥) → char_in (with_char m a b) e ≡ char_in m e
unfolding char_in with_char
elsewhere m a b e l h n = go (eqb (e / 4) (a / 4)) refl
  where
    go : (t : Bool) → eqb (e / 4) (a / 4) ≡ t → byte_of (set m (a / 4) (with_byte (m at (a / 4)) (a % 4) b) at (e / 4)) (e % 4) ≡ byte_of (m at (e / 4)) (e % 4)
    go true q =
        let p = eqb-true (e / 4) (a / 4) q in
        ap (λ (i : ℕ). byte_of (set m (a / 4) (with_byte (m at (a / 4)) (a % 4) b) at i) (e % 4)) p
        ∙ ap (λ (w : ℕ). byte_of w (e % 4)) (get_or-set_same m (a / 4) (with_byte (m at (a / 4)) (a % 4) b) 0 (omega arith))
        ∙ byte_of-with_byte-other (m at (a / 4)) (a % 4) h (λ (x : e % 4 ≡ a % 4). n (omega (arith, x, p)))
        ∙ ap (λ (i : ℕ). byte_of (m at i) (e % 4)) (sym p)
    go false q = ap (λ (w : ℕ). byte_of w (e % 4)) (get_or-set_other m (a / 4) (e / 4) (with_byte (m at (a / 4)) (a % 4) b) 0 (eqb-false (e / 4) (a / 4) q))
