-- What [02 Wish 5] promises of RA and its flag, for all values: overflow leaves RA and raises the flag, a value goes to RA and lowers it; a zero divisor and
-- an operand that is not finite are overflow; a DRC of zero is +0.
-- Assumes nothing.
use Prim.Native.Nat.{ℕ, zero, suc, ◌≤◌}
use mathlib.Core.Path.{◌≡◌, refl, ◌∙◌}
use mathlib.Core.Bool.{Bool, true, false}
use mathlib.Core.List.{List}
use native.Mathlib.Omega.{arith}
use lib.Dec.{T, eqb}
use lib.IntN.{pos}
use lib.ListN.{length, set, length-set}
use lib.Seq.{get_or-set_same, get_or-set_other}
use lib.Ieee.{Float, nan, inf, fin, binary64, div, fits, of_int, unlike}
use Rattle.base.specs.Lists.{◌at◌}
use Rattle.base.specs.Test.{◌and◌, if}
use Rattle.ops.specs.Machine.{RA, RAHIGH, RFLAG}
use Rattle.real_rules.specs.Real.{Real, value, overflow, answer, both, constant, high_word, low_word, quotient, ra_of, settled, zero_real}
use Rattle.real_rules.proofs.Held.{real-words}
use Rattle.real_rules.proofs.Laws.{by_cond}

module _ (z : List ℕ) (n : length z ≡ 16) where
  -- overflow: RA's words are as they were, the flag is on
  pub overflow-settles : (settled overflow z at RA ≡ z at RA) × (settled overflow z at RAHIGH ≡ z at RAHIGH) × (settled overflow z at RFLAG ≡ 1)
  unfolding settled
  overflow-settles = (
    get_or-set_other z RFLAG RA 1 0 (λ e. omega arith),
    get_or-set_other z RFLAG RAHIGH 1 0 (λ e. omega arith),
    get_or-set_same z RFLAG 1 0 (omega arith),
  )

  -- a value: RA is it, the flag is off
  pub value-settles : (x : Float) → T (fits binary64 x) → answer x ≡ value x
      → (ra_of (settled (value x) z) ≡ value x) × (settled (value x) z at RFLAG ≡ 0)
  unfolding settled
  value-settles x h e =
      let one : List ℕ = set z RA (low_word x) in
      let two : List ℕ = set one RAHIGH (high_word x) in
      let l : length one ≡ 16 = length-set z RA (low_word x) ∙ n in
      let m : length two ≡ 16 = length-set one RAHIGH (high_word x) ∙ l in
      let low : set two RFLAG 0 at RA ≡ low_word x =
      get_or-set_other two RFLAG RA 0 0 (λ q. omega arith) ∙ get_or-set_other one RAHIGH RA (high_word x) 0 (λ q. omega arith)
      ∙ get_or-set_same z RA (low_word x) 0 (omega arith) in
      let high : set two RFLAG 0 at RAHIGH ≡ high_word x =
      get_or-set_other two RFLAG RAHIGH 0 0 (λ q. omega arith) ∙ get_or-set_same one RAHIGH (high_word x) 0 (omega arith) in
      (rw (low, high) (real-words x h ∙ e), get_or-set_same two RFLAG 0 0 (omega arith))

-- an operand that is not finite, on either side
pub operand-overflows : (f : Float → Float → Float) (a : Real) → both f a overflow ≡ overflow
operand-overflows f (value x) = refl
operand-overflows f overflow = refl

-- a divisor of +0 or -0, also of 0
pub zero-divides : (a : Real) (s : Bool) → both (div binary64) a (value (fin s 0 (pos 0))) ≡ overflow
unfolding div
zero-divides (value nan) s = refl
zero-divides (value (inf t)) s = refl
zero-divides (value (fin t m e)) s = by_cond (λ (x : Float). answer x ≡ overflow) (eqb m 0) nan (inf (unlike t s)) (λ q. refl) (λ q. refl)
zero-divides overflow s = refl

-- a DRC of zero is +0 with either sign
pub zero-constant : (s : Bool) (k : ℕ) → k ≤ 6 → constant s 0 k ≡ zero_real
unfolding constant quotient div of_int if ◌and◌
zero-constant s k h = by-places k h s
  where
    by-places : (k : ℕ) → k ≤ 6 → (s : Bool) → constant s 0 k ≡ zero_real
    by-places zero h true = refl
    by-places zero h false = refl
    by-places (suc zero) h true = refl
    by-places (suc zero) h false = refl
    by-places (suc (suc zero)) h true = refl
    by-places (suc (suc zero)) h false = refl
    by-places (suc (suc (suc zero))) h true = refl
    by-places (suc (suc (suc zero))) h false = refl
    by-places (suc (suc (suc (suc zero)))) h true = refl
    by-places (suc (suc (suc (suc zero)))) h false = refl
    by-places (suc (suc (suc (suc (suc zero))))) h true = refl
    by-places (suc (suc (suc (suc (suc zero))))) h false = refl
    by-places (suc (suc (suc (suc (suc (suc zero)))))) h true = refl
    by-places (suc (suc (suc (suc (suc (suc zero)))))) h false = refl
    by-places (suc (suc (suc (suc (suc (suc (suc k))))))) h s = absurd (omega arith)
