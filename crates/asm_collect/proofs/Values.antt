-- The value of a label by the number of its sort.
-- Assumes nothing.
use Prim.Native.Nat.{ℕ, zero, suc, ◌-◌, ◌<◌, ◌≤◌}
use mathlib.Core.Path.{◌≡◌, refl}
use mathlib.Core.List.{List}
use native.Mathlib.Omega.{arith}
use Rattle.language.specs.Card.{Card}
use Rattle.language.specs.Symbol.{Symbol}
use Rattle.language.specs.Image.{symbol_value}
use Rattle.asm_types.specs.Views.{sort_at}

module _ (all : List Symbol) (c : Card) where
  -- the sorts of sections 4 to 6 have the place
  from-entry : (b : ℕ) → symbol_value (sort_at (suc (suc (suc (suc (suc (suc (suc b)))))))) all c ≡ c.spot.place
  from-entry zero = refl
  from-entry (suc zero) = refl
  from-entry (suc (suc zero)) = refl
  from-entry (suc (suc (suc zero))) = refl
  from-entry (suc (suc (suc (suc b)))) = refl

  pub placed-value : (a : ℕ) → 7 ≤ a → symbol_value (sort_at a) all c ≡ c.spot.place
  placed-value a h = let e : a ≡ suc (suc (suc (suc (suc (suc (suc (a - 7))))))) = omega arith in rw e (from-entry (a - 7))

  -- the others, but for EXP, INP, EQU and words, have none
  pub no_value : (a : ℕ) → a < 7 → (a ≡ 6 → ⊥) → (a ≡ 5 → ⊥) → (a ≡ 2 → ⊥) → (a ≡ 1 → ⊥) → symbol_value (sort_at a) all c ≡ 0
  no_value zero h w e i x = refl
  no_value (suc zero) h w e i x = absurd (x refl)
  no_value (suc (suc zero)) h w e i x = absurd (i refl)
  no_value (suc (suc (suc zero))) h w e i x = refl
  no_value (suc (suc (suc (suc zero)))) h w e i x = refl
  no_value (suc (suc (suc (suc (suc zero))))) h w e i x = absurd (e refl)
  no_value (suc (suc (suc (suc (suc (suc zero)))))) h w e i x = absurd (w refl)
  no_value (suc (suc (suc (suc (suc (suc (suc a))))))) h w e i x = absurd (omega arith)
