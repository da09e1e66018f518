-- Laws of the layout's rules in the terms of the code: limits and length as facts, one fresh address, the exit counts.
-- Assumes nothing.
use Prim.Native.Nat.{ℕ, zero, suc, ◌+◌, ◌*◌, ◌-◌, ◌/◌, ◌%◌, ◌<◌, ◌≤◌}
use mathlib.Core.Path.{◌≡◌, refl, sym, ◌∙◌}
use mathlib.Core.Bool.{Bool, true, false}
use mathlib.Core.List.{List}
use native.Mathlib.Omega.{arith}
use native.Mathlib.Numerals.{add-one}
use lib.Dec.{eqb, ltb, leb}
use lib.ListN.{length, get_or}
use borrow.Author.Tests.{ne_eqb}
use Rattle.base.specs.Test.{◌and◌, Ok}
use Rattle.base.proofs.Bool.{and_l, and_r, ok-le, true-ok}
use Rattle.ops.specs.Machine.{cfp_m}
use Rattle.rules.specs.Check.{limits_ok, fresh_ok, counts_ok, layout_ok}
use Rattle.rules.specs.Table.{size, constants, workings, fresh_count, externals, fresh_at, fresh_index, start_word, exit_count, table_length}
use Rattle.table_layout.specs.Below.{below}
use Rattle.table_layout.specs.Laid.{Limited, Laid}
use Rattle.table_layout.proofs.Belows.{and-false}

-- a table too short for its header
pub short-fails : (t : List ℕ) → length t < 8 → false ≡ layout_ok t
unfolding layout_ok table_length ◌and◌
short-fails t h = rw (ne_eqb (length t) (8 + 8 * size t + fresh_count t + externals t + constants t + workings t) (λ e. omega arith)) (sym (and-false (limits_ok t)))

-- what passed limits say
pub limited : (t : List ℕ) → 8 ≤ length t → limits_ok t ≡ true → Limited t
unfolding limits_ok size fresh_count externals constants workings
limited t g e =
    let h : Ok (limits_ok t) = true-ok _ e in
    record {
      header = g;
      few = let k = ok-le (get_or t 0 0) 1024 (and_l _ _ h) in omega arith;
      fresh = let k = ok-le (get_or t 3 0) 32 (and_l _ _ (and_r _ _ h)) in omega arith;
      externals = let k = ok-le (get_or t 4 0) 512 (and_l _ _ (and_r _ _ (and_r _ _ h))) in omega arith;
      words = let k = ok-le (get_or t 1 0 + get_or t 2 0) 8128 (and_r _ _ (and_r _ _ (and_r _ _ h))) in omega arith;
    }

pub laid : (t : List ℕ) → Limited t → length t ≡ table_length t → Laid t
unfolding table_length size fresh_count externals constants workings
laid t l e = record { limits = l; exact = e }

-- fresh address a, number i of f
pub fresh-next : (t : List ℕ) (low i f n e c w a : ℕ) → i < f → f ≡ get_or t 3 0 → n ≡ get_or t 0 0 → e ≡ get_or t 4 0 → c ≡ get_or t 1 0
    → w ≡ get_or t 2 0 → a ≡ get_or t (8 + 8 * n + i) 0
    → fresh_ok t low i (f - i)
    ≡ leb low a and ltb a (4 * (c + w)) and eqb (a % 4) 0 and eqb (get_or t (8 + 8 * n + f + e + a / 4) 0) 0
    and fresh_ok t (a + 1) (i + 1) (f - (i + 1))
unfolding fresh_ok fresh_at start_word size fresh_count externals constants workings
fresh-next t low i f n e c w a h q₁ q₂ q₃ q₄ q₅ q₆ =
    let z : f - i ≡ suc (f - (i + 1)) = omega arith in rw (z, q₆, q₁, q₂, q₃, q₄, q₅, add-one, add-one) refl

pub fresh-done : (t : List ℕ) (low i f : ℕ) → f ≤ i → true ≡ fresh_ok t low i (f - i)
unfolding fresh_ok
fresh-done t low i f h = let z : f - i ≡ 0 = omega arith in rw z refl

-- the exit counts as a test at each EXP
pub count_ok : List ℕ → ℕ → Bool
count_ok t i = leb (exit_count t i) cfp_m

pub counts-below : (t : List ℕ) (k : ℕ) → counts_ok t k ≡ below (count_ok t) k
unfolding counts_ok below count_ok
counts-below t zero = refl
counts-below t (suc k) = rw (counts-below t k)

pub count-is : (t : List ℕ) (i n f : ℕ) → n ≡ get_or t 0 0 → f ≡ get_or t 3 0 → count_ok t i ≡ leb (get_or t (8 + 8 * n + f + i) 0) cfp_m
unfolding count_ok exit_count size fresh_count
count-is t i n f p q = rw (p, q) refl
