-- The sizes that a table that passes its check has.
-- Assumes nothing.
use Prim.Native.Nat.{ℕ, ◌+◌, ◌*◌, ◌≤◌}
use mathlib.Core.Path.{◌≡◌}
use mathlib.Core.List.{List}
use native.Mathlib.Omega.{arith}
use lib.ListN.{length}
use Rattle.base.specs.Test.{Ok}
use Rattle.base.specs.Lists.{◌at◌}
use Rattle.base.proofs.Bool.{both, ok-eq}
use Rattle.ops.specs.Machine.{max_instrs, max_fresh, max_words}
use Rattle.rules.specs.Table.{constants, externals, fresh_count, size, table_length, workings}
use Rattle.rules.specs.Check.{layout_ok, table_ok}
use Rattle.rules.proofs.Files.{TableLimits, table-limits}

pub record Sizes (t : List ℕ) : Type 0 where
  pub instrs : t at 0 ≤ max_instrs
  pub fresh : t at 3 ≤ max_fresh
  pub own : t at 1 + t at 2 ≤ max_words
  pub whole : 8 + 8 * t at 0 + t at 3 + t at 4 + t at 1 + t at 2 ≡ length t
  pub inside : 8 + 8 * t at 0 + t at 3 ≤ length t

-- a table that passes its check has them
pub sizes : (t : List ℕ) → Ok (table_ok t) → Sizes t
unfolding table_ok layout_ok table_length size fresh_count constants workings externals
sizes t ok =
    let e : length t ≡ table_length t = ok-eq _ _ (search both depth 9) in
    let l : TableLimits t = table-limits t ok in
    record { instrs = l.instrs; fresh = l.fresh; own = l.own; whole = omega arith; inside = omega arith }
