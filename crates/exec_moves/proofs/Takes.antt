-- The rows of these operations take what their code requires of an entry.
-- Assumes nothing.
use Rattle.base.specs.Test.{Ok, if, ◌and◌, ◌or◌}
use Rattle.base.specs.Lists.{member}
use Rattle.ops.specs.Ops.{rows}
use Rattle.rules.specs.Check.{among}
use Rattle.exec_core.specs.Entry.{readable, writable, in_register, going, branching, all_take, format_takes, takes}

pub mov-takes : Ok (takes readable writable going 101 rows)
unfolding Ok takes format_takes all_take readable writable in_register among member rows if ◌and◌ ◌or◌
mov-takes = tt

pub icv-takes : Ok (takes writable readable going 116 rows)
unfolding Ok takes format_takes all_take readable writable in_register among member rows if ◌and◌ ◌or◌
icv-takes = tt

pub dcv-takes : Ok (takes writable readable going 117 rows)
unfolding Ok takes format_takes all_take readable writable in_register among member rows if ◌and◌ ◌or◌
dcv-takes = tt

pub zer-takes : Ok (takes writable readable going 118 rows)
unfolding Ok takes format_takes all_take readable writable in_register among member rows if ◌and◌ ◌or◌
zer-takes = tt

pub mnz-takes : Ok (takes writable readable going 119 rows)
unfolding Ok takes format_takes all_take readable writable in_register among member rows if ◌and◌ ◌or◌
mnz-takes = tt

pub ssl-takes : Ok (takes writable readable going 120 rows)
unfolding Ok takes format_takes all_take readable writable in_register among member rows if ◌and◌ ◌or◌
ssl-takes = tt

pub add-takes : Ok (takes readable writable going 201 rows)
unfolding Ok takes format_takes all_take readable writable in_register among member rows if ◌and◌ ◌or◌
add-takes = tt

pub sub-takes : Ok (takes readable writable going 202 rows)
unfolding Ok takes format_takes all_take readable writable in_register among member rows if ◌and◌ ◌or◌
sub-takes = tt

pub ica-takes : Ok (takes writable readable going 203 rows)
unfolding Ok takes format_takes all_take readable writable in_register among member rows if ◌and◌ ◌or◌
ica-takes = tt

pub dca-takes : Ok (takes writable readable going 204 rows)
unfolding Ok takes format_takes all_take readable writable in_register among member rows if ◌and◌ ◌or◌
dca-takes = tt

pub lct-takes : Ok (takes in_register readable going 215 rows)
unfolding Ok takes format_takes all_take readable writable in_register among member rows if ◌and◌ ◌or◌
lct-takes = tt

pub aov-takes : Ok (takes readable writable branching 217 rows)
unfolding Ok takes format_takes all_take readable writable in_register among member rows if ◌and◌ ◌or◌
aov-takes = tt
