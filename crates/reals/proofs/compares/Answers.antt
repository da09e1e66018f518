-- `reals::compares` meets its contract: by cases of the comparison.
use lib.Ieee.{of_bits}
use Rattle.reals.proofs.Views.{tests_by}
use Rattle.reals.proofs.compares.Goals as goal

pub returns-in-Equal : goal.returns-in-Equal
unfolding of_bits
returns-in-Equal c = tests_by c.in-Equal.is c.in-Finite.is

pub returns-in-NotLess : goal.returns-in-NotLess
unfolding of_bits
returns-in-NotLess c = tests_by c.in-NotLess.is c.in-Finite.is

pub returns-in-Greater : goal.returns-in-Greater
unfolding of_bits
returns-in-Greater c = tests_by c.in-Greater.is c.in-Finite.is

pub returns-in-NotGreater : goal.returns-in-NotGreater
unfolding of_bits
returns-in-NotGreater c = tests_by c.in-NotGreater.is c.in-Finite.is

pub returns-in-Less : goal.returns-in-Less
unfolding of_bits
returns-in-Less c = tests_by c.in-Less.is c.in-Finite.is

pub returns-in-NotEqual : goal.returns-in-NotEqual
unfolding of_bits
returns-in-NotEqual c = tests_by c.in-NotEqual.is c.in-Finite.is
