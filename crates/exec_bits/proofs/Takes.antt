-- The rows of these operations take what their code requires of an entry.
-- Assumes nothing.
use Rattle.base.specs.Test.{Ok, if, ◌and◌, ◌or◌}
use Rattle.base.specs.Lists.{member}
use Rattle.ops.specs.Ops.{rows}
use Rattle.rules.specs.Check.{among}
use Rattle.exec_core.specs.Entry.{readable, in_register, held_here, going, all_take, format_takes, takes}

pub anb-takes : Ok (takes readable in_register going 701 rows)
unfolding Ok takes format_takes all_take readable in_register held_here among member rows if ◌and◌ ◌or◌
anb-takes = tt

pub orb-takes : Ok (takes readable in_register going 702 rows)
unfolding Ok takes format_takes all_take readable in_register held_here among member rows if ◌and◌ ◌or◌
orb-takes = tt

pub xob-takes : Ok (takes readable in_register going 703 rows)
unfolding Ok takes format_takes all_take readable in_register held_here among member rows if ◌and◌ ◌or◌
xob-takes = tt

pub cmb-takes : Ok (takes in_register readable going 704 rows)
unfolding Ok takes format_takes all_take readable in_register held_here among member rows if ◌and◌ ◌or◌
cmb-takes = tt

pub rsh-takes : Ok (takes in_register held_here going 705 rows)
unfolding Ok takes format_takes all_take readable in_register held_here among member rows if ◌and◌ ◌or◌
rsh-takes = tt

pub lsh-takes : Ok (takes in_register held_here going 706 rows)
unfolding Ok takes format_takes all_take readable in_register held_here among member rows if ◌and◌ ◌or◌
lsh-takes = tt

pub rsx-takes : Ok (takes in_register held_here going 707 rows)
unfolding Ok takes format_takes all_take readable in_register held_here among member rows if ◌and◌ ◌or◌
rsx-takes = tt

pub lsx-takes : Ok (takes in_register held_here going 708 rows)
unfolding Ok takes format_takes all_take readable in_register held_here among member rows if ◌and◌ ◌or◌
lsx-takes = tt

pub wtb-takes : Ok (takes in_register readable going 801 rows)
unfolding Ok takes format_takes all_take readable in_register held_here among member rows if ◌and◌ ◌or◌
wtb-takes = tt

pub btw-takes : Ok (takes in_register readable going 802 rows)
unfolding Ok takes format_takes all_take readable in_register held_here among member rows if ◌and◌ ◌or◌
btw-takes = tt

pub ctw-takes : Ok (takes in_register held_here going 807 rows)
unfolding Ok takes format_takes all_take readable in_register held_here among member rows if ◌and◌ ◌or◌
ctw-takes = tt

pub ctb-takes : Ok (takes in_register held_here going 808 rows)
unfolding Ok takes format_takes all_take readable in_register held_here among member rows if ◌and◌ ◌or◌
ctb-takes = tt

pub wtc-takes : Ok (takes in_register readable going 810 rows)
unfolding Ok takes format_takes all_take readable in_register held_here among member rows if ◌and◌ ◌or◌
wtc-takes = tt
