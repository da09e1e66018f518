-- Translating by words is translating by characters, where the table is elsewhere.
-- Assumes nothing.
use Prim.Native.Nat.{ℕ, zero, suc, ◌+◌, ◌-◌, ◌*◌, ◌/◌, ◌%◌, ◌^◌, ◌≤◌, ◌<◌}
use mathlib.Core.Path.{◌≡◌, refl, sym, ap, ◌∙◌}
use mathlib.Core.Bool.{Bool, true, false}
use mathlib.Core.List.{List}
use native.Mathlib.Omega.{arith}
use lib.Dec.{eqb}
use lib.ListN.{length, set}
use lib.Seq.{set-set, set-get_or, get_or-set_same, get_or-set_other}
use borrow.Author.Tests.{eqb-true, eqb-false}
use Rattle.base.specs.Lists.{◌at◌}
use Rattle.words.specs.Words.{byte_of, with_byte}
use Rattle.words.proofs.Laws.{byte_of-lt}
use Rattle.rules.specs.Operand.{char_in, with_char}
use Rattle.rules.specs.Exec.{translated}
use Rattle.block_chars.proofs.Laws.{with-of, char-lt}
use Rattle.block_chars.proofs.Merge.{read, one, two, three, after_one, after_two, after-three, four_is}
use Rattle.block_table.specs.Table.{Clear, Lists, word_by, listed_word}

-- no characters left
pub translated-none : (n f g : ℕ) (m : List ℕ) → n ≤ 0 → translated n f g m ≡ m
unfolding translated
translated-none zero f g m h = refl
translated-none (suc n) f g m h = absurd (omega arith)

-- equal counts and addresses
pub same-counts : (t : ℕ) (m : List ℕ) {n n' f f' : ℕ} → n ≡ n' → f ≡ f' → translated n f t m ≡ translated n' f' t m
same-counts t m p q = rw (p, q)

-- a table is not in the words that are translated, where it is elsewhere
away : (end g t : ℕ) → g < end → Clear (4 * g) (4 * (end - g)) t → (i : ℕ) → i < 256 → (t + i) / 4 ≡ g → ⊥
away end g t z k i h e = let q : t < 4 * g + 4 * (end - g) = omega (arith, e) in omega (arith, e, h, k (omega arith) q)

-- what a table has for each character
abbrev pub Has : (ℕ → ℕ) → List ℕ → ℕ → Type 0
Has has m t = (i : ℕ) → i < 256 → has i ≡ char_in m (t + i)

-- the words from g up to the one before `end`
module _ (end g t : ℕ) (m : List ℕ) (has : ℕ → ℕ) (z : g < end) (k : Clear (4 * g) (4 * (end - g)) t) (same : Has has m t) where
  -- the same while word g is w
  pub has_kept : (w : ℕ) → Has has (set m g w) t
  unfolding char_in
  has_kept w i h = same i h ∙ sym (ap (λ (x : ℕ). byte_of x ((t + i) % 4)) (get_or-set_other m g ((t + i) / 4) w 0 (away end g t z k i h)))

  -- what it has is a character
  has-lt : (j : ℕ) → has (byte_of (m at g) j) < 256
  has-lt j = rw (same (byte_of (m at g) j) (byte_of-lt (m at g) j)) (char-lt m (t + byte_of (m at g) j))

  -- character j of word g put, which is w so far
  put_step : (r w j : ℕ) → g < length m → j < 4 → byte_of w j ≡ byte_of (m at g) j → translated (suc r) (4 * g + j) t (set m g w) ≡ translated r (4 * g + (j + 1)) t (set m g (with_byte w j (has (byte_of (m at g) j))))
  unfolding translated
  put_step r w j l h e =
      let b = has (byte_of (m at g) j) in
      ap (λ (x : ℕ). translated r (suc (4 * g + j)) t (with_char (set m g w) (4 * g + j) (char_in (set m g w) (t + x)))) (read m g l g w j (4 * g + j) refl h (λ q. e))
      ∙ ap (λ (x : ℕ). translated r (suc (4 * g + j)) t (with_char (set m g w) (4 * g + j) x)) (sym (has_kept w (byte_of (m at g) j) (byte_of-lt (m at g) j)))
      ∙ ap (λ (y : List ℕ). translated r (suc (4 * g + j)) t y)
      (with-of (set m g w) g j b h ∙ set-set m g w (with_byte (set m g w at g) j b) ∙ ap (λ (v : ℕ). set m g (with_byte v j b)) (get_or-set_same m g w 0 l))
      ∙ ap (λ (i : ℕ). translated r i t (set m g (with_byte w j b))) {x = suc (4 * g + j)} {y = 4 * g + (j + 1)} (omega arith)

  put_four : (r : ℕ) → g < length m → m at g < 2 ^ 32 → translated (suc (suc (suc (suc r)))) (4 * g + 0) t m ≡ translated r (4 * g + 4) t (set m g (word_by has (m at g)))
  put_four r l h =
      let o = m at g in
      let a = has (byte_of o 0) in
      let b = has (byte_of o 1) in
      let c = has (byte_of o 2) in
      let d = has (byte_of o 3) in
      let ha = has-lt 0 in
      let hb = has-lt 1 in
      let hc = has-lt 2 in
      let hd = has-lt 3 in
      ap (λ (y : List ℕ). translated (suc (suc (suc (suc r)))) (4 * g + 0) t y) (sym (set-get_or m g 0))
      ∙ put_step (suc (suc (suc r))) o 0 l (omega arith) refl
      ∙ put_step (suc (suc r)) (one o a) 1 l (omega arith) (after_one o a b c d ha hb hc hd 1 (omega arith))
      ∙ put_step (suc r) (two o a b) 2 l (omega arith) (after_two o a b c d ha hb hc hd 2 (omega arith))
      ∙ put_step r (three o a b c) 3 l (omega arith) (after-three o a b c d ha hb hc hd 3 (omega arith))
      ∙ ap (λ (v : ℕ). translated r (4 * g + 4) t (set m g v)) (four_is o a b c d ha hb hc hd h)

  -- one turn of a loop by words
  pub table_step : g < length m → m at g < 2 ^ 32 → translated (4 * (end - g)) (4 * g) t m ≡ translated (4 * (end - (g + 1))) (4 * (g + 1)) t (set m g (word_by has (m at g)))
  table_step l h =
      same-counts t m {n = 4 * (end - g)} {n' = suc (suc (suc (suc (4 * (end - (g + 1))))))} {f = 4 * g} {f' = 4 * g + 0} (omega arith) (omega arith)
      ∙ put_four (4 * (end - (g + 1))) l h
      ∙ same-counts t (set m g (word_by has (m at g))) {n = 4 * (end - (g + 1))} {n' = 4 * (end - (g + 1))} {f = 4 * g + 4} {f' = 4 * (g + 1)} refl (omega arith)

-- a list with one more
pub list-more : (has : ℕ → ℕ) (i v : ℕ) (l : List ℕ) → i < length l → ((j : ℕ) → j < i → l at j ≡ has j) → v ≡ has i → (j : ℕ) → j < i + 1 → set l i v at j ≡ has j
list-more has i v l b k e j h = go (eqb j i) refl
  where
    go : (q : Bool) → eqb j i ≡ q → set l i v at j ≡ has j
    go true q = ap (λ (x : ℕ). set l i v at x) (eqb-true j i q) ∙ get_or-set_same l i v 0 b ∙ e ∙ ap has (sym (eqb-true j i q))
    go false q = get_or-set_other l i j v 0 (eqb-false j i q) ∙ k j (omega (arith, eqb-false j i q))

-- what the lists have for four characters is the word of what the first has
module _ (ones twos threes fours : List ℕ) (k : Lists ones twos threes fours) where
  twos-is : (i : ℕ) → i < 256 → twos at i ≡ ones at i * 256
  twos-is i h = k.second i h

  threes-is : (i : ℕ) → i < 256 → threes at i ≡ ones at i * 65536
  threes-is i h = omega (arith, k.second i h, k.third i h)

  fours_is : (i : ℕ) → i < 256 → fours at i ≡ ones at i * 16777216
  fours_is i h = omega (arith, k.second i h, k.third i h, k.fourth i h)

  -- each is a character in its place
  pub bounds : (w : ℕ) → (ones at byte_of w 0 ≤ 255) × (twos at byte_of w 1 ≤ 65280) × (threes at byte_of w 2 ≤ 16711680) × (fours at byte_of w 3 ≤ 4278190080)
  bounds w =
      (omega (arith, k.chars (byte_of w 0) (byte_of-lt w 0)), omega (arith, k.chars (byte_of w 1) (byte_of-lt w 1), twos-is (byte_of w 1) (byte_of-lt w 1)), omega (arith, k.chars (byte_of w 2) (byte_of-lt w 2), threes-is (byte_of w 2) (byte_of-lt w 2)), omega (arith, k.chars (byte_of w 3) (byte_of-lt w 3), fours_is (byte_of w 3) (byte_of-lt w 3)))

  pub lists-sum : (w : ℕ) → ones at byte_of w 0 + twos at byte_of w 1 + threes at byte_of w 2 + fours at byte_of w 3 ≡ listed_word ones w
  lists-sum w = omega (arith, twos-is (byte_of w 1) (byte_of-lt w 1), threes-is (byte_of w 2) (byte_of-lt w 2), fours_is (byte_of w 3) (byte_of-lt w 3))
