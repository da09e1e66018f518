-- The rows of these operations take what their code requires of an entry.
-- Assumes nothing.
use Rattle.base.specs.Test.{Ok, if, ◌and◌, ◌or◌}
use Rattle.base.specs.Lists.{member}
use Rattle.ops.specs.Ops.{rows}
use Rattle.rules.specs.Check.{among}
use Rattle.exec_core.specs.Entry.{readable, in_register, pointing, going, all_take, format_takes, takes}

pub plc-takes : Ok (takes in_register readable going 601 rows)
unfolding Ok takes format_takes all_take readable in_register pointing among member rows if ◌and◌ ◌or◌
plc-takes = tt

pub psc-takes : Ok (takes in_register readable going 602 rows)
unfolding Ok takes format_takes all_take readable in_register pointing among member rows if ◌and◌ ◌or◌
psc-takes = tt

pub lch-takes : Ok (takes in_register pointing going 603 rows)
unfolding Ok takes format_takes all_take readable in_register pointing among member rows if ◌and◌ ◌or◌
lch-takes = tt

pub sch-takes : Ok (takes in_register pointing going 604 rows)
unfolding Ok takes format_takes all_take readable in_register pointing among member rows if ◌and◌ ◌or◌
sch-takes = tt
