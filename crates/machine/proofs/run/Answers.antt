-- `machine::run` meets its contract: 30, 31, or the run of a state that passed its check.
use mathlib.Core.Path.{◌≡◌, refl}
use lib.ListN.{length}
use Rattle.rules.specs.Number.{bad_state, bad_table}
use Rattle.resuming.specs.declared.answers.Answer.TheVariants.{BadState, BadTable}
use Rattle.resuming.proofs.Granted.{passed-by, refused-by}
use Rattle.machine.proofs.Promised.{run-refused}
use borrow.Author.Rules.{rules}
use Rattle.machine.proofs.run.Goals as goal

pub run_passed-requires : goal.run_passed-requires
run_passed-requires c = let full : length c.args.state.links ≡ 256 = search rules in passed-by _ _ _ full (rw c.in-Ok.is at (c.check_state.ensures c.args.memory.now refl))

pub returns-in-Err-BadTable : goal.returns-in-Err-BadTable
returns-in-Err-BadTable c = run-refused _ _ _ _ _ BadTable bad_table refl (refused-by _ _ _ _ (rw (c.in-Err-BadTable.is, c.in-Err-BadTable.field-0-is) at (c.check_state.ensures c.args.memory.now refl))) c.refused.ensures

pub returns-in-Err-BadState : goal.returns-in-Err-BadState
returns-in-Err-BadState c = run-refused _ _ _ _ _ BadState bad_state refl (refused-by _ _ _ _ (rw (c.in-Err-BadState.is, c.in-Err-BadState.field-0-is) at (c.check_state.ensures c.args.memory.now refl))) c.refused-in-Err-BadState.ensures
