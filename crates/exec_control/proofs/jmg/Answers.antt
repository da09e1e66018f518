use Rattle.exec_core.specs.Seen.{state_by}
use Rattle.exec_core.specs.Entry.{readable, is_place, going}
use Rattle.exec_core.proofs.Laws.{place-kind}
use Rattle.exec_control.proofs.Jumps.{entry-bare, first_goes}
use Rattle.exec_control.proofs.Takes.{jmg-takes}
use Rattle.exec_control.proofs.jmg.Goals as goal

pub to_first-requires : goal.to_first-requires
to_first-requires c = (c.requires.inside, place-kind (entry-bare c.requires is_place readable going jmg-takes).one)

pub returns : goal.returns
returns c = λ k z m ls. first_goes c.requires (place-kind (entry-bare c.requires is_place readable going jmg-takes).one) _ c.to_first.ensures (state_by c.args.b z m ls) z m ls
