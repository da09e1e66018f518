-- The rows of these operations take what their code requires of an entry.
-- Assumes nothing.
use Rattle.base.specs.Test.{Ok, if, ◌and◌, ◌or◌}
use Rattle.base.specs.Lists.{member}
use Rattle.ops.specs.Ops.{rows}
use Rattle.rules.specs.Check.{among}
use Rattle.exec_core.specs.Entry.{readable, writable, is_place, steady, going, all_take, format_takes, takes}

pub ldi-takes : Ok (takes steady readable going 401 rows)
unfolding Ok takes format_takes all_take readable steady among member rows if ◌and◌ ◌or◌
ldi-takes = tt

pub adi-takes : Ok (takes steady readable going 402 rows)
unfolding Ok takes format_takes all_take readable steady among member rows if ◌and◌ ◌or◌
adi-takes = tt

pub mli-takes : Ok (takes steady readable going 403 rows)
unfolding Ok takes format_takes all_take readable steady among member rows if ◌and◌ ◌or◌
mli-takes = tt

pub sbi-takes : Ok (takes steady readable going 404 rows)
unfolding Ok takes format_takes all_take readable steady among member rows if ◌and◌ ◌or◌
sbi-takes = tt

pub dvi-takes : Ok (takes steady readable going 405 rows)
unfolding Ok takes format_takes all_take readable steady among member rows if ◌and◌ ◌or◌
dvi-takes = tt

pub rmi-takes : Ok (takes steady readable going 406 rows)
unfolding Ok takes format_takes all_take readable steady among member rows if ◌and◌ ◌or◌
rmi-takes = tt

pub sti-takes : Ok (takes writable readable going 407 rows)
unfolding Ok takes format_takes all_take readable writable among member rows if ◌and◌ ◌or◌
sti-takes = tt

pub ngi-takes : Ok (takes readable readable going 408 rows)
unfolding Ok takes format_takes all_take readable among member rows if ◌and◌ ◌or◌
ngi-takes = tt

pub mti-takes : Ok (takes readable readable going 803 rows)
unfolding Ok takes format_takes all_take readable among member rows if ◌and◌ ◌or◌
mti-takes = tt

pub mfi-takes : Ok (takes writable readable going 804 rows)
unfolding Ok takes format_takes all_take readable writable among member rows if ◌and◌ ◌or◌
mfi-takes = tt

pub cvm-takes : Ok (takes is_place readable going 811 rows)
unfolding Ok takes format_takes all_take readable is_place among member rows if ◌and◌ ◌or◌
cvm-takes = tt

pub cvd-takes : Ok (takes readable readable going 812 rows)
unfolding Ok takes format_takes all_take readable among member rows if ◌and◌ ◌or◌
cvd-takes = tt
