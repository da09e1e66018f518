-- `snap_core::memory_ok` meets its contract.
use mathlib.Core.Path.{sym}
use borrow.Author.Tests.{le-leb, lt-leb}
use Rattle.rules.specs.Check.{among}
use Rattle.snap_core.proofs.Trailers.{and_no, and_yes}
use Rattle.snap_core.proofs.trailer.memory_ok.Goals as goal

pub returns-then-m-lt-MIN_MEMORY : goal.returns-then-m-lt-MIN_MEMORY
unfolding among
returns-then-m-lt-MIN_MEMORY c = sym (and_no _ _ (lt-leb _ _ c.if-m-lt-MIN_MEMORY.true))

pub returns : goal.returns
unfolding among
returns c = sym (and_yes _ _ (le-leb _ _ c.if-m-lt-MIN_MEMORY.false))
