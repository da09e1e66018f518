-- `entries::fields::address_ok` meets its contract: each return rewrites with the tests that led there.
use Rattle.rules.specs.Table.{constants, workings}
use lib.ListN.{get_or}
use Prim.Native.Nat.{◌+◌, ◌*◌}
use Rattle.base.specs.Test.{◌and◌}
use borrow.Author.Tests.{lt-ltb, le-ltb}
use native.Mathlib.Omega.{arith}
use mathlib.Core.Path.{refl}
use Rattle.entries.proofs.fields.address_ok.Goals as goal

pub returns-then-sum-index : goal.returns-then-sum-index
unfolding constants workings ◌and◌
returns-then-sum-index c = let t = c.args.table.now in rw (le-ltb c.args.v (4 * (get_or t 1 0 + get_or t 2 0)) (omega arith)) refl

pub returns : goal.returns
unfolding constants workings ◌and◌
returns c = let t = c.args.table.now in rw (lt-ltb c.args.v (4 * (get_or t 1 0 + get_or t 2 0)) (omega arith)) refl
