-- Copying by words that are merged of two is copying by characters, where the target's addresses are words' and the source's are not.
-- Assumes nothing.
use Prim.Native.Nat.{ℕ, zero, suc, ◌+◌, ◌-◌, ◌*◌, ◌^◌, ◌<◌}
use mathlib.Core.Path.{◌≡◌, refl, sym, ap, ◌∙◌}
use mathlib.Core.List.{List}
use native.Mathlib.Omega.{arith}
use lib.ListN.{length, set}
use Rattle.base.specs.Lists.{◌at◌}
use Rattle.words.specs.Words.{byte_of}
use Rattle.words.proofs.Laws.{byte_of-lt}
use Rattle.rules.specs.Operand.{char_in}
use Rattle.rules.specs.Exec.{copied_chars}
use Rattle.block_chars.specs.Chars.{merged_word}
use Rattle.block_chars.proofs.Laws.{AllWords}
use Rattle.block_chars.proofs.Merge.{merged-one, merged-two, merged-three, one, two, three, after_one, after_two, read}
use Rattle.block_copy.proofs.Four.{same-counts, put_four}

module _ (m : List ℕ) (g : ℕ) (l : g < length m) (f : ℕ) (away : f + 1 ≡ g → ⊥) (hf : m at f < 2 ^ 32) (hg : m at g < 2 ^ 32) where
  abbrev u : ℕ
  u = m at f

  abbrev v : ℕ
  v = m at (f + 1)

  abbrev o : ℕ
  o = m at g

  -- word f is read above what was put in word g; word f + 1 is not word g
  low : (w i a : ℕ) → a ≡ 4 * f + i → i < 4 → byte_of w i ≡ byte_of (m at g) i → char_in (set m g w) a ≡ byte_of (m at f) i
  low w i a e h k = read m g l f w i a e h (λ q. k)

  high : (w i a : ℕ) → a ≡ 4 * (f + 1) + i → i < 4 → char_in (set m g w) a ≡ byte_of (m at (f + 1)) i
  high w i a e h = read m g l (f + 1) w i a e h (λ q. absurd (away q))

  step-one : (n : ℕ) → copied_chars (suc (suc (suc (suc n)))) (4 * f + 1) (4 * g + 0) m ≡ copied_chars n (suc (suc (suc (suc (4 * f + 1))))) (4 * g + 4) (set m g (merged_word u v 1))
  step-one n =
      let a = byte_of u 1 in
      let b = byte_of u 2 in
      let c = byte_of u 3 in
      let d = byte_of v 0 in
      put_four m g l n (4 * f + 1) a b c d hg (byte_of-lt u 1) (byte_of-lt u 2) (byte_of-lt u 3) (byte_of-lt v 0)
      (low o 1 (4 * f + 1) refl (omega arith) refl)
      (low (one o a) 2 (suc (4 * f + 1)) (omega arith) (omega arith) (after_one o a b c d (byte_of-lt u 1) (byte_of-lt u 2) (byte_of-lt u 3) (byte_of-lt v 0) 2 (omega arith)))
      (low (two o a b) 3 (suc (suc (4 * f + 1))) (omega arith) (omega arith) (after_two o a b c d (byte_of-lt u 1) (byte_of-lt u 2) (byte_of-lt u 3) (byte_of-lt v 0) 3 (omega arith)))
      (high (three o a b c) 0 (suc (suc (suc (4 * f + 1)))) (omega arith) (omega arith))
      ∙ ap (λ (x : ℕ). copied_chars n (suc (suc (suc (suc (4 * f + 1))))) (4 * g + 4) (set m g x)) (merged-one u v hf)

  step-two : (n : ℕ) → copied_chars (suc (suc (suc (suc n)))) (4 * f + 2) (4 * g + 0) m ≡ copied_chars n (suc (suc (suc (suc (4 * f + 2))))) (4 * g + 4) (set m g (merged_word u v 2))
  step-two n =
      let a = byte_of u 2 in
      let b = byte_of u 3 in
      let c = byte_of v 0 in
      let d = byte_of v 1 in
      put_four m g l n (4 * f + 2) a b c d hg (byte_of-lt u 2) (byte_of-lt u 3) (byte_of-lt v 0) (byte_of-lt v 1)
      (low o 2 (4 * f + 2) refl (omega arith) refl)
      (low (one o a) 3 (suc (4 * f + 2)) (omega arith) (omega arith) (after_one o a b c d (byte_of-lt u 2) (byte_of-lt u 3) (byte_of-lt v 0) (byte_of-lt v 1) 3 (omega arith)))
      (high (two o a b) 0 (suc (suc (4 * f + 2))) (omega arith) (omega arith))
      (high (three o a b c) 1 (suc (suc (suc (4 * f + 2)))) (omega arith) (omega arith))
      ∙ ap (λ (x : ℕ). copied_chars n (suc (suc (suc (suc (4 * f + 2))))) (4 * g + 4) (set m g x)) (merged-two u v hf)

  step-three : (n : ℕ) → copied_chars (suc (suc (suc (suc n)))) (4 * f + 3) (4 * g + 0) m ≡ copied_chars n (suc (suc (suc (suc (4 * f + 3))))) (4 * g + 4) (set m g (merged_word u v 3))
  step-three n =
      let a = byte_of u 3 in
      let b = byte_of v 0 in
      let c = byte_of v 1 in
      let d = byte_of v 2 in
      put_four m g l n (4 * f + 3) a b c d hg (byte_of-lt u 3) (byte_of-lt v 0) (byte_of-lt v 1) (byte_of-lt v 2)
      (low o 3 (4 * f + 3) refl (omega arith) refl)
      (high (one o a) 0 (suc (4 * f + 3)) (omega arith) (omega arith))
      (high (two o a b) 1 (suc (suc (4 * f + 3))) (omega arith) (omega arith))
      (high (three o a b c) 2 (suc (suc (suc (4 * f + 3)))) (omega arith) (omega arith))
      ∙ ap (λ (x : ℕ). copied_chars n (suc (suc (suc (suc (4 * f + 3))))) (4 * g + 4) (set m g x)) (merged-three u v hf)

  step : (n r : ℕ) → 0 < r → r < 4 → copied_chars (suc (suc (suc (suc n)))) (4 * f + r) (4 * g + 0) m ≡ copied_chars n (suc (suc (suc (suc (4 * f + r))))) (4 * g + 4) (set m g (merged_word u v r))
  step n zero h k = absurd (omega arith)
  step n (suc zero) h k = step-one n
  step n (suc (suc zero)) h k = step-two n
  step n (suc (suc (suc zero))) h k = step-three n
  step n (suc (suc (suc (suc r)))) h k = absurd (omega arith)

-- word i of n
pub merged-step : (n i f g r : ℕ) (m : List ℕ) → i < n → 0 < r → r < 4 → g + i < length m → (g ≡ f + 1 → ⊥) → AllWords m
    → copied_chars (4 * (n - i)) (4 * (f + i) + r) (4 * (g + i)) m ≡ copied_chars (4 * (n - (i + 1))) (4 * (f + (i + 1)) + r) (4 * (g + (i + 1))) (set m (g + i) (merged_word (m at (f + i)) (m at (f + i + 1)) r))
merged-step n i f g r m z h k l away a =
    same-counts m {n = 4 * (n - i)} {n' = suc (suc (suc (suc (4 * (n - (i + 1))))))} {f = 4 * (f + i) + r} {f' = 4 * (f + i) + r} {g = 4 * (g + i)} {g' = 4 * (g + i) + 0} (omega arith) refl (omega arith)
    ∙ step m (g + i) l (f + i) (λ e. away (omega (arith, e))) (a (f + i)) (a (g + i)) (4 * (n - (i + 1))) r h k
    ∙ same-counts (set m (g + i) (merged_word (m at (f + i)) (m at (f + i + 1)) r)) {n = 4 * (n - (i + 1))} {n' = 4 * (n - (i + 1))} {f = suc (suc (suc (suc (4 * (f + i) + r))))} {f' = 4 * (f + (i + 1)) + r} {g = 4 * (g + i) + 4} {g' = 4 * (g + (i + 1))} refl (omega arith) (omega arith)
