-- What a table that passes its check has: its fresh addresses behind the entries.
-- Assumes nothing.
use Prim.Native.Nat.{ℕ, zero, suc, ◌+◌, ◌-◌, ◌<◌, ◌≤◌}
use mathlib.Core.Path.{◌≡◌, refl, ap}
use mathlib.Core.List.{List, ◌∷◌}
use native.Mathlib.Omega.{arith}
use lib.ListN.{length, take, drop}
use lib.Seq.{drop-cons}
use Rattle.base.specs.Test.{Ok}
use Rattle.rules.specs.Table.{entry_at, fresh_at, fresh_count, size}
use Rattle.rules.specs.Check.{table_ok}
use Rattle.rules.specs.Snapshot.{fresh_list}
use Rattle.loading.proofs.Sizes.{sizes}

-- the fresh addresses are a part of the table
fresh_list-from : (t : List ℕ) (i k : ℕ) → entry_at (size t) + i + k ≤ length t → take k (drop (entry_at (size t) + i) t) ≡ fresh_list t i k
unfolding fresh_at
fresh_list-from t i zero h = refl
fresh_list-from t i (suc k) h =
    let b : entry_at (size t) + i < length t = omega arith in
    let e : suc (entry_at (size t) + i) ≡ entry_at (size t) + suc i = omega arith in
    rw (drop-cons t (entry_at (size t) + i) 0 b, e) (ap (λ (l : List ℕ). fresh_at t i ∷ l) (fresh_list-from t (suc i) k (omega arith)))

pub fresh_list-part : (t : List ℕ) → Ok (table_ok t) → take (fresh_count t) (drop (entry_at (size t)) t) ≡ fresh_list t 0 (fresh_count t)
unfolding size fresh_count
fresh_list-part t ok =
    let e : entry_at (size t) + 0 ≡ entry_at (size t) = omega arith in
    rw e at (fresh_list-from t 0 (fresh_count t) (omega (arith, sizes t ok)))

-- the part that code takes of the table
pub fresh-part : (t : List ℕ) (b f : ℕ) → Ok (table_ok t) → b ≡ entry_at (size t) → f ≡ fresh_count t
    → take (b + f - b) (drop b t) ≡ fresh_list t 0 (fresh_count t)
fresh-part t b f ok e g =
    let n : b + f - b ≡ fresh_count t = omega arith in
    rw (n, e) (fresh_list-part t ok)

-- it lies in the table
pub fresh-inside : (t : List ℕ) → Ok (table_ok t) → entry_at (size t) + fresh_count t ≤ length t
unfolding size fresh_count
fresh-inside t ok = (sizes t ok).inside
