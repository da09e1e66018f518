-- `states::body::bodies` meets its contract. The loop's invariant: b is the body open before p, and the places up to p have theirs.
use Prim.Native.Nat.{ℕ, ◌+◌, ◌*◌, ◌<◌}
use Rattle.ops.specs.Ops.{class_in, rows}
use Rattle.rules.specs.Table.{body_after, body_at}
use Rattle.bodies.proofs.Places.{body-zero, body-step, follows-zero, follows-suc}
use lib.ListN.{length, get_or, length-set}
use mathlib.Core.Path.{◌≡◌, refl, sym, ap, ◌∙◌}
use native.Mathlib.Omega.{arith}
use Rattle.bodies.proofs.body.bodies.Goals as goal

pub loop-p-init : goal.loop-p-init
loop-p-init c =
    let args = c.args in (
      refl,
      sym (body-zero _),
      follows-zero (body_at args.t.now) args.body.now 0 (omega arith)
          (sym (body-zero _)),
    )

pub bounds-body-p : goal.bounds-body-p
bounds-body-p c =
    let args = c.args in
    omega (arith, length-set args.body.now 0 0)

pub loop-p-preserved : goal.loop-p-preserved
loop-p-preserved c =
    let args = c.args in
    let loop = c.loop-p in
    let t = args.t.now in
    let p = loop.p in
    let body = loop.body in
    let v = c.after_entry-b.result in
    let i = loop.invariant in
    let fits : p + 1 < length body = omega (arith, length-set args.body.now 0 0) in
    let step : v ≡ body_at t (p + 1) =
    c.after_entry-b.ensures ∙ ap (λ (x : ℕ). body_after (class_in (get_or t (8 + 8 * p) 0) rows) p x) i.1 ∙ sym
    (body-step t p (omega arith)) in
    (length-set body (p + 1) v ∙ i.0, step, follows-suc (body_at t) body p v fits step i.2)

pub shape_of-body : goal.shape_of-body
shape_of-body c =
    let args = c.args in
    c.loop-p.invariant.0 ∙ length-set args.body.now 0 0

pub returns : goal.returns
returns c =
    let args = c.args in
    record {
      room = omega (arith, c.loop-p.invariant.0, length-set args.body.now 0 0);
      found = λ p h. c.loop-p.invariant.2 p (omega arith);
    }
