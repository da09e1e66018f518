-- `asm_shapes::faults::list_fault` meets its contract: the list is judged before the place past it.
use Rattle.asm_shapes.proofs.ByClass.{list-broken, list_lawful, list-stuck}
use Rattle.rules.specs.Check.{reaches}
use Prim.Native.Nat.{ℕ, ◌+◌}
use mathlib.Core.Path.{sym, ap, ◌∙◌}
use Rattle.asm_shapes.proofs.faults.list_fault.Goals as goal

pub returns-then-not-exit_list : goal.returns-then-not-exit_list
returns-then-not-exit_list c = list-broken c.args.places.now.table.now c.args.p c.args.k (sym c.exit_list.ensures ∙ c.if-not-exit_list.true)

pub returns-then-not-reaches : goal.returns-then-not-reaches
returns-then-not-reaches c = list-stuck c.args.places.now.table.now c.args.p c.args.k (sym c.exit_list.ensures ∙ c.if-not-exit_list.false) (ap (λ (x : ℕ). reaches c.args.places.now.table.now c.args.p (c.args.p + 1 + x)) (sym c.index.ensures) ∙ sym c.reaches.ensures ∙ c.if-not-reaches.true)

pub returns : goal.returns
returns c = list_lawful c.args.places.now.table.now c.args.p c.args.k (sym c.exit_list.ensures ∙ c.if-not-exit_list.false) (ap (λ (x : ℕ). reaches c.args.places.now.table.now c.args.p (c.args.p + 1 + x)) (sym c.index.ensures) ∙ sym c.reaches.ensures ∙ c.if-not-reaches.false)
