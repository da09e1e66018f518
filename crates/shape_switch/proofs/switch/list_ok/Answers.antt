-- `shape_switch::switch::list_ok` meets its contract: the IFFs are counted, then closed, then judged.
use Rattle.shape_switch.proofs.Switches.{switch-open, switch-closed}
use mathlib.Core.Path.{◌∙◌}
use Rattle.shape_switch.proofs.switch.list_ok.Goals as goal

pub returns-then-class_at-ne-ESW : goal.returns-then-class_at-ne-ESW
returns-then-class_at-ne-ESW c = switch-open c.args.places.now.table.now c.args.p c.count_iffs-k.result c.class_at.result c.count_iffs-k.ensures.all c.class_at.ensures c.if-class_at-ne-ESW.true

pub returns : goal.returns
returns c = c.are_distinct.ensures ∙ switch-closed c.args.places.now.table.now c.args.p c.count_iffs-k.result c.class_at.result c.count_iffs-k.ensures.all c.class_at.ensures c.if-class_at-ne-ESW.false c.word.ensures
