-- `asm_forms::texts::text_count` meets its contract. Invariant: the count so far and the texts from place i on are one more than all.
use Prim.Native.Nat.{ℕ, ◌+◌}
use mathlib.Core.Path.{sym, ap}
use mathlib.Core.List.{List}
use native.Mathlib.Omega.{arith}
use lib.ListN.{length}
use Rattle.asm_forms.proofs.Divided.{comma, count-out, count-step, texts-long, texts-none}
use borrow.Author.Rules.{rules}
use Rattle.asm_forms.proofs.texts.text_count.Goals as goal

pub returns-then-f-eq0 : goal.returns-then-f-eq0
returns-then-f-eq0 c = sym (ap length (texts-none c.args.f.now c.if-f-eq0.true))

pub loop-i-init : goal.loop-i-init
loop-i-init c = (ap (λ (l : List (List ℕ)). 1 + length l) (texts-long c.args.f.now c.if-f-eq0.false), search rules)

pub loop-i-preserved : goal.loop-i-preserved
loop-i-preserved c = (omega (arith, count-step comma c.args.f.now c.loop-i.i c.loop-i-test.true, c.ends_text-n.ensures.0, c.loop-i.invariant.0), search rules)

pub returns : goal.returns
returns c = omega (arith, count-out comma c.args.f.now c.loop-i.i c.loop-i-test.false, c.loop-i.invariant.0)
