-- `exec_reals::arithmetic` meets its contract: RA with the pair that operand one names, by the operation that is asked for.
use Rattle.reals.specs.Views.{real_view, on_values}
use Rattle.exec_reals.proofs.Laws.{computes-missing, computes-words, proper-by}
use Rattle.exec_reals.proofs.arithmetic.Goals as goal

pub returns-in_default : goal.returns-in_default
returns-in_default c = let a = c.args in computes-missing a.t.now a.b _ _ a.o c.load.ensures c.in_default.is

pub settle-requires : goal.settle-requires
settle-requires c = proper-by (on_values c.args.o) (real_view c.ra.result) (real_view c.real_of.result) c.compute-x.ensures

pub returns : goal.returns
returns c = let a = c.args in computes-words a.t.now a.b _ _ a.o c.load.ensures c.in-Some.is c.settle.ensures c.compute-x.ensures c.ra.ensures c.real_of.ensures
