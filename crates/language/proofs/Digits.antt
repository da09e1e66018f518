-- Decimal digits: their number is below a power of ten, and the digits of two texts, read on, are one number.
-- Assumes nothing.
use Prim.Native.Nat.{ℕ, ◌+◌, ◌*◌, ◌-◌, ◌^◌, ◌<◌, ◌≤◌}
use mathlib.Core.Path.{◌≡◌, refl, sym, ap, subst, ◌∙◌}
use mathlib.Core.Bool.{Bool, true, false}
use mathlib.Core.List.{List, [], ◌∷◌, ◌++◌}
use native.Mathlib.Nat.{mul_comm, mul_assoc, mul_left_comm, add-mul, add_assoc, zero-add, pow-suc, mul-le-mul_right, le_trans, le_of_eq, lt_of_lt_of_le}
use native.Mathlib.Omega.{arith}
use borrow.Author.Tests.{leb-true}
use lib.Dec.{leb}
use lib.ListN.{length}
use Rattle.base.specs.Test.{◌and◌}
use Rattle.language.specs.Text.{all, between, byte, decimal, is_digit}

digit-le : (b : ℕ) → is_digit b ≡ true → b - byte "0" ≤ 9
unfolding between ◌and◌
digit-le b e = go (leb (byte "0") b) refl e
  where
    go : (t : Bool) → leb (byte "0") b ≡ t → (t and leb b (byte "9")) ≡ true → b - byte "0" ≤ 9
    go true q f = let z : b ≤ 57 = leb-true b (byte "9") f in omega arith
    go false q f = let z : ◌≡◌ {A = ℕ} 0 1 = cc in absurd (omega arith)

first-digit : (b : ℕ) (bs : List ℕ) → all is_digit (b ∷ bs) ≡ true → (is_digit b ≡ true) × (all is_digit bs ≡ true)
unfolding ◌and◌
first-digit b bs e = go (is_digit b) refl e
  where
    go : (t : Bool) → is_digit b ≡ t → (t and all is_digit bs) ≡ true → (is_digit b ≡ true) × (all is_digit bs ≡ true)
    go true q f = (q, f)
    go false q f = let z : ◌≡◌ {A = ℕ} 0 1 = cc in absurd (omega arith)

one_more_lem : (n d c : ℕ) → d ≤ 9 → (10 * n + d + 1) * c ≤ (n + 1) * (c * 10)
one_more_lem n d c h = le_trans (mul-le-mul_right c (ten n d h)) (le_of_eq (simp (mul_assoc, mul_comm, mul_left_comm)))
  where
    ten : (n d : ℕ) → d ≤ 9 → 10 * n + d + 1 ≤ (n + 1) * 10
    ten n d g = omega arith

pub decimal-lt : (n : ℕ) (s : List ℕ) → all is_digit s ≡ true → decimal n s < (n + 1) * 10 ^ length s
decimal-lt n [] e = omega arith
decimal-lt n (b ∷ bs) e =
    let f = first-digit b bs e in
    lt_of_lt_of_le (decimal-lt (10 * n + (b - byte "0")) bs f.1)
    (subst (λ (c : ℕ). (10 * n + (b - byte "0") + 1) * 10 ^ length bs ≤ (n + 1) * c) (sym (pow-suc 10 (length bs))) (one_more_lem n (b - byte "0") (10 ^ length bs) (digit-le b f.0)))

-- the digits before the point and after it, read as one number
shift_in : (n d c v : ℕ) → (10 * n + d) * c + v ≡ n * (c * 10) + ((10 * 0 + d) * c + v)
shift_in n d c v =
    ap (λ (x : ℕ). x + v) (add-mul (10 * n) d c) ∙ ap (λ (x : ℕ). x + d * c + v) (tens n c) ∙ add_assoc (n * (c * 10)) (d * c) v
    ∙ ap (λ (x : ℕ). n * (c * 10) + (x * c + v)) (sym (zero-add d))
  where
    tens : (n c : ℕ) → 10 * n * c ≡ n * (c * 10)
    tens n c = simp (mul_assoc, mul_comm, mul_left_comm)

pub decimal-append : (n : ℕ) (s : List ℕ) → decimal n s ≡ n * 10 ^ length s + decimal 0 s
decimal-append n [] = omega arith
decimal-append n (b ∷ bs) =
    let d = b - byte "0" in
    decimal-append (10 * n + d) bs ∙ shift_in n d (10 ^ length bs) (decimal 0 bs)
    ∙ ap (λ (x : ℕ). n * (10 ^ length bs * 10) + x) (sym (decimal-append (10 * 0 + d) bs))
    ∙ ap (λ (x : ℕ). n * x + decimal (10 * 0 + d) bs) (sym (pow-suc 10 (length bs)))

-- all digits, read on, are the number before the point times the power of ten, with the digits after it
pub all_digits : (s r : List ℕ) → decimal 0 (s ++ r) ≡ decimal 0 s * 10 ^ length r + decimal 0 r
all_digits s r = on 0 s ∙ decimal-append (decimal 0 s) r
  where
    on : (n : ℕ) (s : List ℕ) → decimal n (s ++ r) ≡ decimal (decimal n s) r
    on n [] = refl
    on n (b ∷ bs) = on (10 * n + (b - byte "0")) bs
