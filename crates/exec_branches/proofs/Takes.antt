-- The rows of these operations take what their code requires of an entry.
-- Assumes nothing.
use Rattle.base.specs.Test.{Ok, if, ◌and◌, ◌or◌}
use Rattle.base.specs.Lists.{member}
use Rattle.ops.specs.Ops.{rows}
use Rattle.rules.specs.Check.{among}
use Rattle.exec_core.specs.Entry.{readable, in_register, is_place, going, branching, all_take, format_takes, takes}

pub beq-takes : Ok (takes readable readable branching 205 rows)
unfolding Ok takes format_takes all_take readable in_register is_place among member rows if ◌and◌ ◌or◌
beq-takes = tt

pub bne-takes : Ok (takes readable readable branching 206 rows)
unfolding Ok takes format_takes all_take readable in_register is_place among member rows if ◌and◌ ◌or◌
bne-takes = tt

pub bgt-takes : Ok (takes readable readable branching 207 rows)
unfolding Ok takes format_takes all_take readable in_register is_place among member rows if ◌and◌ ◌or◌
bgt-takes = tt

pub bge-takes : Ok (takes readable readable branching 208 rows)
unfolding Ok takes format_takes all_take readable in_register is_place among member rows if ◌and◌ ◌or◌
bge-takes = tt

pub blt-takes : Ok (takes readable readable branching 209 rows)
unfolding Ok takes format_takes all_take readable in_register is_place among member rows if ◌and◌ ◌or◌
blt-takes = tt

pub ble-takes : Ok (takes readable readable branching 210 rows)
unfolding Ok takes format_takes all_take readable in_register is_place among member rows if ◌and◌ ◌or◌
ble-takes = tt

pub blo-takes : Ok (takes readable readable branching 211 rows)
unfolding Ok takes format_takes all_take readable in_register is_place among member rows if ◌and◌ ◌or◌
blo-takes = tt

pub bhi-takes : Ok (takes readable readable branching 212 rows)
unfolding Ok takes format_takes all_take readable in_register is_place among member rows if ◌and◌ ◌or◌
bhi-takes = tt

pub bnz-takes : Ok (takes readable is_place going 213 rows)
unfolding Ok takes format_takes all_take readable in_register is_place among member rows if ◌and◌ ◌or◌
bnz-takes = tt

pub bze-takes : Ok (takes readable is_place going 214 rows)
unfolding Ok takes format_takes all_take readable in_register is_place among member rows if ◌and◌ ◌or◌
bze-takes = tt

pub bct-takes : Ok (takes in_register is_place going 216 rows)
unfolding Ok takes format_takes all_take readable in_register is_place among member rows if ◌and◌ ◌or◌
bct-takes = tt

pub ino-takes : Ok (takes is_place readable going 409 rows)
unfolding Ok takes format_takes all_take readable in_register is_place among member rows if ◌and◌ ◌or◌
ino-takes = tt

pub iov-takes : Ok (takes is_place readable going 410 rows)
unfolding Ok takes format_takes all_take readable in_register is_place among member rows if ◌and◌ ◌or◌
iov-takes = tt

pub ieq-takes : Ok (takes is_place readable going 411 rows)
unfolding Ok takes format_takes all_take readable in_register is_place among member rows if ◌and◌ ◌or◌
ieq-takes = tt

pub ige-takes : Ok (takes is_place readable going 412 rows)
unfolding Ok takes format_takes all_take readable in_register is_place among member rows if ◌and◌ ◌or◌
ige-takes = tt

pub igt-takes : Ok (takes is_place readable going 413 rows)
unfolding Ok takes format_takes all_take readable in_register is_place among member rows if ◌and◌ ◌or◌
igt-takes = tt

pub ile-takes : Ok (takes is_place readable going 414 rows)
unfolding Ok takes format_takes all_take readable in_register is_place among member rows if ◌and◌ ◌or◌
ile-takes = tt

pub ilt-takes : Ok (takes is_place readable going 415 rows)
unfolding Ok takes format_takes all_take readable in_register is_place among member rows if ◌and◌ ◌or◌
ilt-takes = tt

pub ine-takes : Ok (takes is_place readable going 416 rows)
unfolding Ok takes format_takes all_take readable in_register is_place among member rows if ◌and◌ ◌or◌
ine-takes = tt

pub ceq-takes : Ok (takes readable readable branching 606 rows)
unfolding Ok takes format_takes all_take readable in_register is_place among member rows if ◌and◌ ◌or◌
ceq-takes = tt

pub cne-takes : Ok (takes readable readable branching 607 rows)
unfolding Ok takes format_takes all_take readable in_register is_place among member rows if ◌and◌ ◌or◌
cne-takes = tt

pub nzb-takes : Ok (takes readable is_place going 709 rows)
unfolding Ok takes format_takes all_take readable in_register is_place among member rows if ◌and◌ ◌or◌
nzb-takes = tt

pub zrb-takes : Ok (takes readable is_place going 710 rows)
unfolding Ok takes format_takes all_take readable in_register is_place among member rows if ◌and◌ ◌or◌
zrb-takes = tt
