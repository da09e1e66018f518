-- Translating by characters: one turn, and in parts.
-- Assumes nothing.
use Prim.Native.Nat.{ℕ, zero, suc, ◌+◌, ◌-◌, ◌≤◌, ◌<◌}
use mathlib.Core.Path.{◌≡◌, refl, sym, ap, ◌∙◌}
use mathlib.Core.List.{List}
use native.Mathlib.Omega.{arith}
use Rattle.rules.specs.Operand.{char_in, with_char}
use Rattle.rules.specs.Exec.{translated}
use Rattle.block_table.proofs.Table.{same-counts}

-- one turn, of those up to the one before `end`
pub translated-char : (end f g : ℕ) (m : List ℕ) → f < end → translated (end - f) f g m ≡ translated (end - (f + 1)) (f + 1) g (with_char m f (char_in m (g + char_in m f)))
unfolding translated
translated-char end f g m h =
    same-counts g m {n = end - f} {n' = suc (end - (f + 1))} {f = f} {f' = f} (omega arith) refl
    ∙ same-counts g (with_char m f (char_in m (g + char_in m f))) {n = end - (f + 1)} {n' = end - (f + 1)} {f = suc f} {f' = f + 1} refl (omega arith)

-- what is translated in parts
split : (i j f t : ℕ) (m : List ℕ) → translated (i + j) f t m ≡ translated j (f + i) t (translated i f t m)
unfolding translated
split zero j f t m = same-counts t m {n = 0 + j} {n' = j} {f = f} {f' = f + 0} (omega arith) (omega arith)
split (suc i) j f t m =
    let y = with_char m f (char_in m (t + char_in m f)) in
    same-counts t m {n = suc i + j} {n' = suc (i + j)} {f = f} {f' = f} (omega arith) refl
    ∙ split i j (suc f) t y
    ∙ same-counts t (translated i (suc f) t y) {n = j} {n' = j} {f = suc f + i} {f' = f + suc i} refl (omega arith)

-- the first i, the next j, which start at g, and what is left
pub in_parts : (n i j f g t : ℕ) (m m1 m2 : List ℕ) → i + j ≤ n → f + i ≡ g → m1 ≡ translated i f t m → m2 ≡ translated j g t m1 → translated n f t m ≡ translated (n - (i + j)) (f + (i + j)) t m2
in_parts n i j f g t m m1 m2 l p e q =
    same-counts t m {n = n} {n' = i + j + (n - (i + j))} {f = f} {f' = f} (omega arith) refl
    ∙ split (i + j) (n - (i + j)) f t m
    ∙ ap (λ (y : List ℕ). translated (n - (i + j)) (f + (i + j)) t y)
    (split i j f t m
    ∙ ap (λ (y : List ℕ). translated j (f + i) t y) (sym e)
    ∙ same-counts t m1 {n = j} {n' = j} refl p
    ∙ sym q)
