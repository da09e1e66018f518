-- The rows of these operations take what their code requires of an entry.
-- Assumes nothing.
use Rattle.base.specs.Test.{Ok, if, ◌and◌, ◌or◌}
use Rattle.base.specs.Lists.{member}
use Rattle.ops.specs.Ops.{rows}
use Rattle.rules.specs.Check.{among}
use Rattle.exec_core.specs.Entry.{readable, in_register, is_place, going, all_take, format_takes, takes}

pub brn-takes : Ok (takes is_place readable going 102 rows)
unfolding Ok takes format_takes all_take readable is_place in_register among member rows if ◌and◌ ◌or◌
brn-takes = tt

pub bsw-takes : Ok (takes in_register readable going 103 rows)
unfolding Ok takes format_takes all_take readable is_place in_register among member rows if ◌and◌ ◌or◌
bsw-takes = tt

pub bri-takes : Ok (takes readable readable going 107 rows)
unfolding Ok takes format_takes all_take readable is_place in_register among member rows if ◌and◌ ◌or◌
bri-takes = tt

pub lei-takes : Ok (takes in_register readable going 108 rows)
unfolding Ok takes format_takes all_take readable is_place in_register among member rows if ◌and◌ ◌or◌
lei-takes = tt

pub jmg-takes : Ok (takes is_place readable going 123 rows)
unfolding Ok takes format_takes all_take readable is_place in_register among member rows if ◌and◌ ◌or◌
jmg-takes = tt
