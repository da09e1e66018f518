-- `assembler::shape::shape_fault` meets its contract: a card that holds no place has none.
use Rattle.language.specs.Fault.{shape_fault}
use Rattle.base.proofs.Bool.{if_no, if_yes}
use mathlib.Core.Path.{sym, ◌∙◌}
use Rattle.assembler.proofs.shape.shape_fault.Goals as goal

pub returns-then-not-holds_place : goal.returns-then-not-holds_place
unfolding shape_fault
returns-then-not-holds_place c cs = sym (if_no _ _ _ (sym (c.holds_place.ensures c.args.s.now) ∙ c.if-not-holds_place.true))

pub place_fault-requires : goal.place_fault-requires
place_fault-requires c =
    (c.requires.0, c.requires.1, c.requires.2 (sym (c.holds_place.ensures c.args.s.now) ∙ c.if-not-holds_place.false), c.requires.3)

pub returns : goal.returns
unfolding shape_fault
returns c cs =
    c.place_fault.ensures cs ∙ sym (if_yes _ _ _ (sym (c.holds_place.ensures c.args.s.now) ∙ c.if-not-holds_place.false))
