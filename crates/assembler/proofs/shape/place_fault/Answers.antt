-- `assembler::shape::place_fault` meets its contract: the rules of the place, or those that can be asked.
use Rattle.language.specs.Fault.{place_fault}
use Rattle.base.proofs.Bool.{if_no, if_yes}
use native.Mathlib.Omega.{arith}
use mathlib.Core.Path.{sym, ◌∙◌}
use Rattle.assembler.proofs.shape.place_fault.Goals as goal

pub is_judged-requires : goal.is_judged-requires
is_judged-requires c = (c.requires.0, c.requires.2)

pub fault_at-requires : goal.fault_at-requires
fault_at-requires c = (omega (arith, c.index-p.ensures, c.requires.2), c.requires.0, c.requires.3)

pub returns-then-is_judged : goal.returns-then-is_judged
unfolding place_fault
returns-then-is_judged c cs = rw (c.fault_at.ensures, c.index-p.ensures) (sym (if_yes _ _ _ (sym (c.is_judged.ensures cs) ∙ c.if-is_judged.true)))

pub loose_fault-requires : goal.loose_fault-requires
loose_fault-requires c = omega (arith, c.index-p.ensures, c.requires.2)

pub returns : goal.returns
unfolding place_fault
returns c cs =
    rw (c.loose_fault.ensures, c.declared_count-count.ensures.0, c.first_name-name.ensures, c.index-p.ensures)
    (sym (if_no _ _ _ (sym (c.is_judged.ensures cs) ∙ c.if-is_judged.false)))
