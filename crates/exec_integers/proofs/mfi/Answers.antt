use mathlib.Core.Path.{sym, ◌∙◌}
use native.Mathlib.Omega.{arith}
use lib.Dec.{leb}
use Rattle.base.specs.Lists.{◌at◌}
use Rattle.base.specs.Test.{if}
use Rattle.ops.specs.Machine.{cfp_m, IA}
use Rattle.rules.specs.Exec.{mfi_of, changes}
use Rattle.rules.specs.Operand.{given}
use Rattle.exec_core.proofs.Laws.{reads}
use Rattle.exec_core.specs.Views.{way_of}
use Rattle.exec_integers.proofs.Laws.{cleared-zero, put_back}
use Rattle.exec_integers.proofs.mfi.Goals as goal

pub fetch-requires : goal.fetch-requires
fetch-requires c = (rw c.operand-one.ensures (reads c.requires.one), cleared-zero c.args.z.now c.requires.zero)

pub returns-in_default : goal.returns-in_default
unfolding mfi_of changes given
returns-in_default c = rw (put_back c.args.z.now, ← c.operand-one.ensures, ← c.fetch.ensures, c.in_default.is)

pub store-requires : goal.store-requires
store-requires c = (rw c.operand-one.ensures c.requires.one, cleared-zero c.args.z.now c.requires.zero, omega arith)

pub returns : goal.returns
unfolding mfi_of changes given
returns c = c.store.ensures (way_of c.args.t.now c.args.b) (if (leb (c.args.z.now at IA) cfp_m) 0 2) (sym c.after_range-on.ensures) ∙ rw (put_back c.args.z.now, c.in_range_or-v.ensures, ← c.operand-one.ensures, ← c.fetch.ensures, c.in-Some.is)
