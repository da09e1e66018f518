use native.Mathlib.Omega.{arith}
use mathlib.Core.Path.{◌∙◌, sym, ap}
use Rattle.rules.specs.Operand.{fetch_of, got}
use Rattle.exec_core.specs.Views.{cell_of}
use Rattle.exec_core.proofs.Laws.{fetch-here, word_in}
use Rattle.exec_core.proofs.operands.fetch.Goals as goal

pub returns-then-held_here : goal.returns-then-held_here
returns-then-held_here c = let j = c.joined.ensures in ap got j.0 ∙ rw c.index-x.ensures (sym (fetch-here _ _ c.requires.1 _ c.requires.0 (sym c.held_here.ensures ∙ c.if-held_here.true) (rw c.index-x.ensures at j.1) j.2))

pub address-requires : goal.address-requires
address-requires c = (c.requires.0, c.requires.1, sym c.held_here.ensures ∙ c.if-held_here.false)

pub offset_bounds-m-i : goal.offset_bounds-m-i
offset_bounds-m-i c = omega (arith, word_in _ _ _ (sym c.word_at.ensures ∙ ap cell_of c.in_ok-i.was))

pub bounds-m-i : goal.bounds-m-i
bounds-m-i c = word_in _ _ _ (sym c.word_at.ensures ∙ ap cell_of c.in_ok-i.was)

pub returns : goal.returns
unfolding fetch_of
returns c = rw (c.address.ensures, ← c.word_at.ensures, c.in_ok-i.was)

pub returns-in_err-i : goal.returns-in_err-i
unfolding fetch_of
returns-in_err-i c = rw (c.from_residual.ensures, c.address.ensures, ← c.in_err-i.ensures)
