-- `shape_core::reach::class_at` meets its contract: each return rewrites with the tests that led there.
use Rattle.shape_core.proofs.Codes.{code-past}
use Rattle.rules.specs.Table.{size}
use native.Mathlib.Omega.{arith}
use Rattle.shape_core.proofs.reach.Places.class_at.Goals as goal

pub returns-then-self-q : goal.returns-then-self-q
unfolding size
returns-then-self-q c = code-past c.args.self.now.table.now c.args.q (omega arith)

pub returns : goal.returns
returns c = c.args.self.now.known.classes c.args.q (omega arith)
