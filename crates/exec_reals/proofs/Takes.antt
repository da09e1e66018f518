-- The rows of these operations take what their code requires of an entry.
-- Assumes nothing.
use Rattle.base.specs.Test.{Ok, if, ◌and◌, ◌or◌}
use Rattle.base.specs.Lists.{member}
use Rattle.ops.specs.Ops.{rows}
use Rattle.rules.specs.Check.{among}
use Rattle.exec_core.specs.Entry.{readable, is_place, steady, going, all_take, format_takes, takes}

pub ldr-takes : Ok (takes steady readable going 501 rows)
unfolding Ok takes format_takes all_take readable steady among member rows if ◌and◌ ◌or◌
ldr-takes = tt

pub str-takes : Ok (takes steady readable going 502 rows)
unfolding Ok takes format_takes all_take readable steady among member rows if ◌and◌ ◌or◌
str-takes = tt

pub adr-takes : Ok (takes steady readable going 503 rows)
unfolding Ok takes format_takes all_take readable steady among member rows if ◌and◌ ◌or◌
adr-takes = tt

pub sbr-takes : Ok (takes steady readable going 504 rows)
unfolding Ok takes format_takes all_take readable steady among member rows if ◌and◌ ◌or◌
sbr-takes = tt

pub mlr-takes : Ok (takes steady readable going 505 rows)
unfolding Ok takes format_takes all_take readable steady among member rows if ◌and◌ ◌or◌
mlr-takes = tt

pub dvr-takes : Ok (takes steady readable going 506 rows)
unfolding Ok takes format_takes all_take readable steady among member rows if ◌and◌ ◌or◌
dvr-takes = tt

pub rov-takes : Ok (takes is_place readable going 507 rows)
unfolding Ok takes format_takes all_take readable is_place among member rows if ◌and◌ ◌or◌
rov-takes = tt

pub rno-takes : Ok (takes is_place readable going 508 rows)
unfolding Ok takes format_takes all_take readable is_place among member rows if ◌and◌ ◌or◌
rno-takes = tt

pub ngr-takes : Ok (takes readable readable going 509 rows)
unfolding Ok takes format_takes all_take readable among member rows if ◌and◌ ◌or◌
ngr-takes = tt

pub req-takes : Ok (takes is_place readable going 510 rows)
unfolding Ok takes format_takes all_take readable is_place among member rows if ◌and◌ ◌or◌
req-takes = tt

pub rge-takes : Ok (takes is_place readable going 511 rows)
unfolding Ok takes format_takes all_take readable is_place among member rows if ◌and◌ ◌or◌
rge-takes = tt

pub rgt-takes : Ok (takes is_place readable going 512 rows)
unfolding Ok takes format_takes all_take readable is_place among member rows if ◌and◌ ◌or◌
rgt-takes = tt

pub rle-takes : Ok (takes is_place readable going 513 rows)
unfolding Ok takes format_takes all_take readable is_place among member rows if ◌and◌ ◌or◌
rle-takes = tt

pub rlt-takes : Ok (takes is_place readable going 514 rows)
unfolding Ok takes format_takes all_take readable is_place among member rows if ◌and◌ ◌or◌
rlt-takes = tt

pub rne-takes : Ok (takes is_place readable going 515 rows)
unfolding Ok takes format_takes all_take readable is_place among member rows if ◌and◌ ◌or◌
rne-takes = tt

pub itr-takes : Ok (takes readable readable going 805 rows)
unfolding Ok takes format_takes all_take readable among member rows if ◌and◌ ◌or◌
itr-takes = tt

pub rti-takes : Ok (takes readable readable going 806 rows)
unfolding Ok takes format_takes all_take readable among member rows if ◌and◌ ◌or◌
rti-takes = tt
