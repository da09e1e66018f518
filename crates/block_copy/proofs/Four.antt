-- Four characters that are copied to a word, one by one.
-- Assumes nothing.
use Prim.Native.Nat.{ℕ, suc, ◌+◌, ◌*◌, ◌^◌, ◌<◌}
use mathlib.Core.Path.{◌≡◌, sym, ap, ◌∙◌}
use mathlib.Core.List.{List}
use native.Mathlib.Omega.{arith}
use lib.ListN.{length, set}
use lib.Seq.{set-set, set-get_or, get_or-set_same}
use Rattle.base.specs.Lists.{◌at◌}
use Rattle.words.specs.Words.{with_byte, word_of}
use Rattle.rules.specs.Operand.{char_in, with_char}
use Rattle.rules.specs.Exec.{copied_chars}
use Rattle.block_chars.proofs.Laws.{with-of}
use Rattle.block_chars.proofs.Merge.{one, two, three, four_is}

-- equal counts and addresses
pub same-counts : (m : List ℕ) {n n' f f' g g' : ℕ} → n ≡ n' → f ≡ f' → g ≡ g' → copied_chars n f g m ≡ copied_chars n' f' g' m
same-counts m p q r = rw (p, q, r)

module _ (m : List ℕ) (g : ℕ) (l : g < length m) where
  -- character k of word g put, which is w so far
  put_step : (n w k a b : ℕ) → k < 4 → char_in (set m g w) a ≡ b → copied_chars (suc n) a (4 * g + k) (set m g w) ≡ copied_chars n (suc a) (4 * g + (k + 1)) (set m g (with_byte w k b))
  unfolding copied_chars
  put_step n w k a b h e =
      ap (λ (x : ℕ). copied_chars n (suc a) (suc (4 * g + k)) (with_char (set m g w) (4 * g + k) x)) e
      ∙ ap (λ (y : List ℕ). copied_chars n (suc a) (suc (4 * g + k)) y)
      (with-of (set m g w) g k b h ∙ set-set m g w (with_byte (set m g w at g) k b) ∙ ap (λ (v : ℕ). set m g (with_byte v k b)) (get_or-set_same m g w 0 l))
      ∙ ap (λ (i : ℕ). copied_chars n (suc a) i (set m g (with_byte w k b))) {x = suc (4 * g + k)} {y = 4 * g + (k + 1)} (omega arith)

  pub put_four : (n s a b c d : ℕ) → m at g < 2 ^ 32 → a < 256 → b < 256 → c < 256 → d < 256
      → char_in (set m g (m at g)) s ≡ a
      → char_in (set m g (one (m at g) a)) (suc s) ≡ b
      → char_in (set m g (two (m at g) a b)) (suc (suc s)) ≡ c
      → char_in (set m g (three (m at g) a b c)) (suc (suc (suc s))) ≡ d
      → copied_chars (suc (suc (suc (suc n)))) s (4 * g + 0) m ≡ copied_chars n (suc (suc (suc (suc s)))) (4 * g + 4) (set m g (word_of a b c d))
  put_four n s a b c d h ha hb hc hd ea eb ec ed =
      let o = m at g in
      ap (λ (y : List ℕ). copied_chars (suc (suc (suc (suc n)))) s (4 * g + 0) y) (sym (set-get_or m g 0))
      ∙ put_step (suc (suc (suc n))) o 0 s a (omega arith) ea
      ∙ put_step (suc (suc n)) (one o a) 1 (suc s) b (omega arith) eb
      ∙ put_step (suc n) (two o a b) 2 (suc (suc s)) c (omega arith) ec
      ∙ put_step n (three o a b c) 3 (suc (suc (suc s))) d (omega arith) ed
      ∙ ap (λ (v : ℕ). copied_chars n (suc (suc (suc (suc s)))) (4 * g + 4) (set m g v)) (four_is o a b c d ha hb hc hd h)
