use Rattle.exec_control.proofs.Jumps.{checks-below, checks-on}
use Rattle.exec_control.proofs.chk.Goals as goal

pub returns-then-index-m : goal.returns-then-index-m
returns-then-index-m c = λ k ls. checks-below _ _ _ _ ls k _ c.index.ensures c.if-index-m.true _ c.to_place.ensures

pub returns : goal.returns
returns c = λ k ls. checks-on _ _ _ _ ls k _ c.index.ensures c.if-index-m.false c.requires.0.starts
