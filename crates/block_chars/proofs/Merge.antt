-- The word of four characters: merged of two words, and put together one by one.
-- Assumes nothing.
use Prim.Native.Nat.{ℕ, zero, suc, ◌+◌, ◌-◌, ◌*◌, ◌/◌, ◌%◌, ◌^◌, ◌≤◌, ◌<◌}
use mathlib.Core.Path.{◌≡◌, refl, sym, ap, ◌∙◌}
use mathlib.Core.Bool.{Bool, true, false}
use mathlib.Core.List.{List}
use native.Mathlib.Omega.{arith}
use lib.Dec.{eqb}
use lib.ListN.{length, set}
use lib.Seq.{get_or-set_same, get_or-set_other}
use borrow.Author.Tests.{eqb-true, eqb-false}
use Rattle.base.specs.Lists.{◌at◌}
use Rattle.words.specs.Words.{byte_of, with_byte, word_of}
use Rattle.words.proofs.Laws.{byte_of-lt, byte_of-with_byte-same, byte_of-with_byte-other, with_byte-lt, word_of-lt}
use Rattle.rules.specs.Operand.{char_in}
use Rattle.block_chars.specs.Chars.{merged_word}
use Rattle.block_chars.proofs.Laws.{same_bytes, char_of}

-- ---- the merged word

-- by shifts
pub shifted : (u v r : ℕ) → 0 < r → r < 4 → u / 2 ^ (8 * r) + v * 2 ^ (32 - 8 * r) % 2 ^ 32 ≡ merged_word u v r
shifted u v zero h k = absurd (omega arith)
shifted u v (suc zero) h k = omega arith
shifted u v (suc (suc zero)) h k = omega arith
shifted u v (suc (suc (suc zero))) h k = omega arith
shifted u v (suc (suc (suc (suc r)))) h k = absurd (omega arith)

pub merged-lt : (u v r : ℕ) → 0 < r → r < 4 → u < 2 ^ 32 → merged_word u v r < 2 ^ 32
merged-lt u v zero h k l = absurd (omega arith)
merged-lt u v (suc zero) h k l = omega arith
merged-lt u v (suc (suc zero)) h k l = omega arith
merged-lt u v (suc (suc (suc zero))) h k l = omega arith
merged-lt u v (suc (suc (suc (suc r)))) h k l = absurd (omega arith)

-- by characters
pub merged-one : (u v : ℕ) → u < 2 ^ 32 → word_of (byte_of u 1) (byte_of u 2) (byte_of u 3) (byte_of v 0) ≡ merged_word u v 1
merged-one u v h = omega arith

pub merged-two : (u v : ℕ) → u < 2 ^ 32 → word_of (byte_of u 2) (byte_of u 3) (byte_of v 0) (byte_of v 1) ≡ merged_word u v 2
merged-two u v h = omega arith

pub merged-three : (u v : ℕ) → u < 2 ^ 32 → word_of (byte_of u 3) (byte_of v 0) (byte_of v 1) (byte_of v 2) ≡ merged_word u v 3
merged-three u v h = omega arith

-- ---- four characters put one by one

-- o with its characters replaced by a, b, c, d, from the lowest on
abbrev pub one : ℕ → ℕ → ℕ
one o a = with_byte o 0 a

abbrev pub two : ℕ → ℕ → ℕ → ℕ
two o a b = with_byte (one o a) 1 b

abbrev pub three : ℕ → ℕ → ℕ → ℕ → ℕ
three o a b c = with_byte (two o a b) 2 c

abbrev pub four : ℕ → ℕ → ℕ → ℕ → ℕ → ℕ
four o a b c d = with_byte (three o a b c) 3 d

past : (o k b j : ℕ) → b < 256 → (j ≡ k → ⊥) → byte_of (with_byte o k b) j ≡ byte_of o j
past o k b j l h = byte_of-with_byte-other o k l h

module _ (o a b c d : ℕ) (ha : a < 256) (hb : b < 256) (hc : c < 256) (hd : d < 256) where
  -- what stands above what was put
  pub after_one : (j : ℕ) → 1 ≤ j → byte_of (one o a) j ≡ byte_of o j
  after_one j h = past o 0 a j ha (λ e. omega arith)

  pub after_two : (j : ℕ) → 2 ≤ j → byte_of (two o a b) j ≡ byte_of o j
  after_two j h = past (one o a) 1 b j hb (λ e. omega arith) ∙ after_one j (omega arith)

  pub after-three : (j : ℕ) → 3 ≤ j → byte_of (three o a b c) j ≡ byte_of o j
  after-three j h = past (two o a b) 2 c j hc (λ e. omega arith) ∙ after_two j (omega arith)

  -- the characters of the word of four
  char-0 : a ≡ byte_of (word_of a b c d) 0
  char-0 = omega arith

  char-1 : b ≡ byte_of (word_of a b c d) 1
  char-1 = omega arith

  char-2 : c ≡ byte_of (word_of a b c d) 2
  char-2 = omega arith

  char-3 : d ≡ byte_of (word_of a b c d) 3
  char-3 = omega arith

  pub four_is : o < 2 ^ 32 → four o a b c d ≡ word_of a b c d
  four_is h =
      same_bytes (four o a b c d) (word_of a b c d)
      (with_byte-lt (three o a b c) 3 (with_byte-lt (two o a b) 2 (with_byte-lt (one o a) 1 (with_byte-lt o 0 h (omega arith) ha) (omega arith) hb) (omega arith) hc) (omega arith) hd)
      (word_of-lt a b c d ha hb hc hd)
      (past (three o a b c) 3 d 0 hd (λ e. omega arith) ∙ past (two o a b) 2 c 0 hc (λ e. omega arith) ∙ past (one o a) 1 b 0 hb (λ e. omega arith) ∙ byte_of-with_byte-same o 0 ha ∙ char-0)
      (past (three o a b c) 3 d 1 hd (λ e. omega arith) ∙ past (two o a b) 2 c 1 hc (λ e. omega arith) ∙ byte_of-with_byte-same (one o a) 1 hb ∙ char-1)
      (past (three o a b c) 3 d 2 hd (λ e. omega arith) ∙ byte_of-with_byte-same (two o a b) 2 hc ∙ char-2)
      (byte_of-with_byte-same (three o a b c) 3 hd ∙ char-3)

chars-of : (a b c d w : ℕ) → a < 256 → b < 256 → c < 256 → d < 256 → word_of a b c d ≡ w → (a ≡ byte_of w 0) × (b ≡ byte_of w 1) × (c ≡ byte_of w 2) × (d ≡ byte_of w 3)
chars-of a b c d w ha hb hc hd e =
    (char-0 0 a b c d ha hb hc hd ∙ ap (λ (x : ℕ). byte_of x 0) e, char-1 0 a b c d ha hb hc hd ∙ ap (λ (x : ℕ). byte_of x 1) e, char-2 0 a b c d ha hb hc hd ∙ ap (λ (x : ℕ). byte_of x 2) e, char-3 0 a b c d ha hb hc hd ∙ ap (λ (x : ℕ). byte_of x 3) e)

-- the characters of a word that is merged
module _ (u v w : ℕ) (h : u < 2 ^ 32) where
  pub merged-one-chars : merged_word u v 1 ≡ w → (byte_of u 1 ≡ byte_of w 0) × (byte_of u 2 ≡ byte_of w 1) × (byte_of u 3 ≡ byte_of w 2) × (byte_of v 0 ≡ byte_of w 3)
  merged-one-chars e = chars-of (byte_of u 1) (byte_of u 2) (byte_of u 3) (byte_of v 0) w (byte_of-lt u 1) (byte_of-lt u 2) (byte_of-lt u 3) (byte_of-lt v 0) (merged-one u v h ∙ e)

  pub merged-two-chars : merged_word u v 2 ≡ w → (byte_of u 2 ≡ byte_of w 0) × (byte_of u 3 ≡ byte_of w 1) × (byte_of v 0 ≡ byte_of w 2) × (byte_of v 1 ≡ byte_of w 3)
  merged-two-chars e = chars-of (byte_of u 2) (byte_of u 3) (byte_of v 0) (byte_of v 1) w (byte_of-lt u 2) (byte_of-lt u 3) (byte_of-lt v 0) (byte_of-lt v 1) (merged-two u v h ∙ e)

  pub merged-three-chars : merged_word u v 3 ≡ w → (byte_of u 3 ≡ byte_of w 0) × (byte_of v 0 ≡ byte_of w 1) × (byte_of v 1 ≡ byte_of w 2) × (byte_of v 2 ≡ byte_of w 3)
  merged-three-chars e = chars-of (byte_of u 3) (byte_of v 0) (byte_of v 1) (byte_of v 2) w (byte_of-lt u 3) (byte_of-lt v 0) (byte_of-lt v 1) (byte_of-lt v 2) (merged-three u v h ∙ e)

-- ---- one word while it is made

module _ (m : List ℕ) (g : ℕ) (l : g < length m) where
  -- character i of word f, while word g is w: as it was, if w keeps it
  pub read : (f w i a : ℕ) → a ≡ 4 * f + i → i < 4 → (f ≡ g → byte_of w i ≡ byte_of (m at g) i) → char_in (set m g w) a ≡ byte_of (m at f) i
  read f w i a e h k = ap (λ (x : ℕ). char_in (set m g w) x) e ∙ char_of (set m g w) f i h ∙ go (eqb f g) refl
    where
      go : (t : Bool) → eqb f g ≡ t → byte_of (set m g w at f) i ≡ byte_of (m at f) i
      go true q = ap (λ (x : ℕ). byte_of (set m g w at x) i) (eqb-true f g q) ∙ ap (λ (x : ℕ). byte_of x i) (get_or-set_same m g w 0 l) ∙ k (eqb-true f g q) ∙ ap (λ (x : ℕ). byte_of (m at x) i) (sym (eqb-true f g q))
      go false q = ap (λ (v : ℕ). byte_of v i) (get_or-set_other m g f w 0 (eqb-false f g q))
