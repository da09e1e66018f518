use native.Mathlib.Omega.{arith}
use mathlib.Core.Path.{sym, ◌∙◌}
use Rattle.block_order.proofs.Order.{order-first, order-rest}
use Rattle.block_order.proofs.order_chars.Goals as goal

pub to_word-head-requires : goal.to_word-head-requires
to_word-head-requires c = tt

pub returns-then-k-ne0 : goal.returns-then-k-ne0
returns-then-k-ne0 c = (c.compare_chars-k.ensures.0 ∙ sym (order-first _ _ _ _ _ c.if-head-n.true (λ z. c.if-k-ne0.true (c.compare_chars-k.ensures.0 ∙ z))), c.compare_chars-k.ensures.1)

pub overflow_add-a : goal.overflow_add-a
overflow_add-a c = omega arith

pub overflow_add-e : goal.overflow_add-e
overflow_add-e c = omega arith

pub overflow_mul-done : goal.overflow_mul-done
overflow_mul-done c = omega arith

pub overflow_add-done : goal.overflow_add-done
overflow_add-done c = omega arith

pub overflow_add-a-then-head-n : goal.overflow_add-a-then-head-n
overflow_add-a-then-head-n c = omega arith

pub overflow_add-e-then-head-n : goal.overflow_add-e-then-head-n
overflow_add-e-then-head-n c = omega arith

pub overflow_sub-n-then-head-n : goal.overflow_sub-n-then-head-n
overflow_sub-n-then-head-n c = omega arith

pub returns-then-head-n : goal.returns-then-head-n
returns-then-head-n c = (c.compare_chars.ensures.0 ∙ sym (order-rest c.args.n c.to_word-head.result c.same_fours-same.result c.args.a c.args.e c.args.m.now (omega arith) (sym c.compare_chars-k.ensures.0 ∙ c.if-k-ne0.false) c.same_fours-same.ensures.1), c.compare_chars.ensures.1)
