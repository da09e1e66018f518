-- The rows of these operations take what their code requires of an entry.
-- Assumes nothing.
use Rattle.base.specs.Test.{Ok, if, ◌and◌, ◌or◌}
use Rattle.base.specs.Lists.{member}
use Rattle.ops.specs.Ops.{rows}
use Rattle.rules.specs.Check.{among}
use Rattle.exec_core.specs.Entry.{readable, is_place, going, all_take, format_takes, takes}

pub cmc-takes : Ok (takes is_place is_place going 608 rows)
unfolding Ok takes format_takes all_take readable is_place among member rows if ◌and◌ ◌or◌
cmc-takes = tt

pub trc-takes : Ok (takes readable readable going 609 rows)
unfolding Ok takes format_takes all_take readable is_place among member rows if ◌and◌ ◌or◌
trc-takes = tt

pub mvc-takes : Ok (takes readable readable going 901 rows)
unfolding Ok takes format_takes all_take readable is_place among member rows if ◌and◌ ◌or◌
mvc-takes = tt

pub mvw-takes : Ok (takes readable readable going 903 rows)
unfolding Ok takes format_takes all_take readable is_place among member rows if ◌and◌ ◌or◌
mvw-takes = tt
