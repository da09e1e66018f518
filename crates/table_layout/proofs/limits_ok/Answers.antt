-- `table_layout::limits_ok` meets its contract: each return rewrites with the tests that led there.
use Rattle.rules.specs.Table.{size, constants, workings, fresh_count, externals}
use Rattle.rules.specs.Check.{limits_ok}
use Rattle.base.specs.Test.{◌and◌}
use borrow.Author.Tests.{le-leb, lt-leb}
use lib.ListN.{get_or}
use native.Mathlib.Omega.{arith}
use mathlib.Core.Path.{refl}
use Rattle.table_layout.proofs.limits_ok.Goals as goal

pub returns-then-index-gt-MAX_INSTRS : goal.returns-then-index-gt-MAX_INSTRS
unfolding limits_ok size ◌and◌
returns-then-index-gt-MAX_INSTRS c = let t = c.args.table.now in rw (lt-leb (get_or t 0 0) 1024 (omega arith)) refl

pub returns-then-index-gt-MAX_FRESH : goal.returns-then-index-gt-MAX_FRESH
unfolding limits_ok size fresh_count ◌and◌
returns-then-index-gt-MAX_FRESH c = let t = c.args.table.now in rw (le-leb (get_or t 0 0) 1024 (omega arith), lt-leb (get_or t 3 0) 32 (omega arith)) refl

pub returns-then-index-gt-MAX_EXTERNALS : goal.returns-then-index-gt-MAX_EXTERNALS
unfolding limits_ok size fresh_count externals ◌and◌
returns-then-index-gt-MAX_EXTERNALS c =
    let t = c.args.table.now in
    rw (le-leb (get_or t 0 0) 1024 (omega arith), le-leb (get_or t 3 0) 32 (omega arith), lt-leb (get_or t 4 0) 512 (omega arith)) refl

pub returns : goal.returns
unfolding limits_ok size fresh_count externals constants workings ◌and◌
returns c =
    let t = c.args.table.now in
    rw (le-leb (get_or t 0 0) 1024 (omega arith), le-leb (get_or t 3 0) 32 (omega arith), le-leb (get_or t 4 0) 512 (omega arith), c.sum.ensures) refl
