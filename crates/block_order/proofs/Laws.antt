-- One turn of a comparison by characters, and its end.
-- Assumes nothing.
use Prim.Native.Nat.{ℕ, zero, suc, ◌+◌, ◌-◌, ◌≤◌, ◌<◌}
use mathlib.Core.Path.{◌≡◌, refl}
use mathlib.Core.List.{List}
use native.Mathlib.Omega.{arith}
use native.Mathlib.Numerals.{add-one, sub-one}
use borrow.Author.Tests.{lt-ltb, le-ltb, ne_eqb, eq-eqb}
use Rattle.base.specs.Test.{if}
use Rattle.rules.specs.Operand.{char_in}
use Rattle.rules.specs.Exec.{compared}

-- equal counts and addresses
pub same-counts : (m : List ℕ) {n n' f f' g g' : ℕ} → n ≡ n' → f ≡ f' → g ≡ g' → compared n f g m ≡ compared n' f' g' m
same-counts m p q r = rw (p, q, r)

-- one equal character
pub same-char : (m : List ℕ) (n a e : ℕ) → char_in m a ≡ char_in m e → compared (suc n) a e m ≡ compared n (suc a) (suc e) m
unfolding compared if
same-char m n a e q = rw (eq-eqb (char_in m a) (char_in m e) q)

-- characters that are equal, and that are not
pub compared-equal : (n f g : ℕ) (m : List ℕ) → 0 < n → char_in m f ≡ char_in m g → compared n f g m ≡ compared (n - 1) (f + 1) (g + 1) m
compared-equal zero f g m h e = absurd (omega arith)
compared-equal (suc n) f g m h e = rw (same-char m n f g e, sub-one, add-one f, add-one g)

pub compared-below : (n f g : ℕ) (m : List ℕ) → 0 < n → char_in m f < char_in m g → compared n f g m ≡ 1
unfolding compared if
compared-below zero f g m h e = absurd (omega arith)
compared-below (suc n) f g m h e = rw (ne_eqb (char_in m f) (char_in m g) (λ q. omega arith), lt-ltb (char_in m f) (char_in m g) e)

pub compared-above : (n f g : ℕ) (m : List ℕ) → 0 < n → char_in m g < char_in m f → compared n f g m ≡ 2
unfolding compared if
compared-above zero f g m h e = absurd (omega arith)
compared-above (suc n) f g m h e = rw (ne_eqb (char_in m f) (char_in m g) (λ q. omega arith), le-ltb (char_in m f) (char_in m g) (omega arith))

-- nothing is left
pub compared-none : (n f g : ℕ) (m : List ℕ) → n ≤ 0 → compared n f g m ≡ 0
unfolding compared
compared-none zero f g m h = refl
compared-none (suc n) f g m h = absurd (omega arith)
