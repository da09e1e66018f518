-- The row of SSS takes what its code requires of an entry.
-- Assumes nothing.
use Rattle.base.specs.Test.{Ok, if, ◌and◌, ◌or◌}
use Rattle.base.specs.Lists.{member}
use Rattle.ops.specs.Ops.{rows}
use Rattle.rules.specs.Check.{among}
use Rattle.exec_core.specs.Entry.{readable, in_register, is_place, going, all_take, format_takes, takes}

pub sss-takes : Ok (takes readable readable going 121 rows)
unfolding Ok takes format_takes all_take readable is_place in_register among member rows if ◌and◌ ◌or◌
sss-takes = tt
